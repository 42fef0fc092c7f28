use Rattle.std.proofs.Common.{◌≡◌, ◌++◌, map}
use Rattle.saw_live.specs.Snapshots.{mark_for}
use Rattle.saw_live.proofs.snapshot.marks_for.Given as goal

abbrev pub invariant-loop-change : goal.invariant-loop-change
invariant-loop-change l = l.marks.items ++ map mark_for l.change-iterator.rest.items ≡ map mark_for l.initial.change-iterator.rest.items
