use Rattle.std.proofs.Common.{◌≡◌, drop}
use Rattle.saw_intkey.specs.States.{value_at}
use Rattle.saw_intkey.proofs.state.value_at.Given as goal

abbrev pub invariant-loop-entry : goal.invariant-loop-entry
invariant-loop-entry l = value_at l.name (drop l.entry-index l.names) ≡ value_at l.name l.names
