use Rattle.std.proofs.Common.{take}
use Rattle.saw_runs.specs.Places.{AreOfAddresses}
use Rattle.saw_runs.proofs.roots.show_addresses.Given as goal

abbrev pub invariant-loop-change : goal.invariant-loop-change
invariant-loop-change l = AreOfAddresses (take l.change-index l.changes)
