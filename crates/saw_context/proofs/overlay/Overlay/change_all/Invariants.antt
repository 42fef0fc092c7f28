use Rattle.std.proofs.Common.{◌≡◌, take}
use Rattle.saw_context.specs.Changed.{changed_by_all}
use Rattle.saw_context.proofs.overlay.Overlay.change_all.Given as goal

abbrev pub invariant-loop-change : goal.invariant-loop-change
invariant-loop-change l = l.self ≡ changed_by_all l.fn.self (take l.change-index l.changes)
