use Rattle.std.proofs.Common.{◌≡◌}
use Rattle.saw_intkey.proofs.Replaces.{replaced_up_to}
use Rattle.saw_intkey.proofs.state.replace.Given as goal

abbrev pub invariant-loop-entry : goal.invariant-loop-entry
invariant-loop-entry l = l.names ≡ replaced_up_to l.name l.value l.entry-index l.initial.names
