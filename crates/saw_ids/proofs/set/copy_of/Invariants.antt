use Rattle.std.proofs.Common.{◌≡◌, take}
use Rattle.saw_ids.specs.Sets.{entries_of}
use Rattle.saw_ids.proofs.set.copy_of.Given as goal

abbrev pub invariant-loop-one : goal.invariant-loop-one
invariant-loop-one l = entries_of l.copy ≡ entries_of (take l.one-index l.ids)
