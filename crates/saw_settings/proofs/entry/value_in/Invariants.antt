use Rattle.std.proofs.Common.{◌≡◌, drop}
use Rattle.saw_settings.specs.Keys.{value_in}
use Rattle.saw_settings.proofs.entry.value_in.Given as goal

abbrev pub invariant-loop-entry : goal.invariant-loop-entry
invariant-loop-entry l = value_in l.key (drop l.entry-index l.entries) ≡ value_in l.key l.entries
