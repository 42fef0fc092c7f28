use Rattle.std.proofs.Common.{◌≡◌, ◌≤◌, ◌-◌, length}
use Rattle.saw_ready.specs.Sets.{NoneIn}
use Rattle.saw_schedule.specs.Layering.{AreLastsOf}
use Rattle.saw_schedule.proofs.lasts.Lasts.refresh.Given as goal

abbrev pub invariant-loop-k : goal.invariant-loop-k
invariant-loop-k l =
    AreLastsOf l.steps l.slots l.self × NoneIn l.self.undone 0 l.from × (l.from ≤ length l.self.undone)
    × ((l.self.place ≡ l.fn.self.place) × (l.self.wide ≡ l.fn.self.wide)) × (length l.self.undone ≡ length l.fn.self.undone)

abbrev pub decreases-loop-k : goal.decreases-loop-k
decreases-loop-k l = length l.fn.self.undone - l.from
