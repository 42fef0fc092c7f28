use Rattle.saw_intkey.proofs.Entries.{IsReadUpTo}
use Rattle.saw_intkey.proofs.state.names_in.Given as goal

abbrev pub invariant-loop-pair : goal.invariant-loop-pair
invariant-loop-pair l = IsReadUpTo l.names.items l.pair-index l.pairs
