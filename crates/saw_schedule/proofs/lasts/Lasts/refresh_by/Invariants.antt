use Rattle.std.proofs.Common.{◌≡◌, ◌-◌, ℕ, List, length}
use Rattle.saw_schedule.specs.Lasts.{changes_at}
use Rattle.saw_schedule.specs.Layering.{AreLastsOf, IsRightAt}
use Rattle.saw_schedule.proofs.Refreshing.{AreRightTo}
use Rattle.saw_schedule.proofs.lasts.Lasts.refresh_by.Given as goal

abbrev pub invariant-loop-change : goal.invariant-loop-change
invariant-loop-change l =
    AreLastsOf l.steps l.slots l.self × AreRightTo l.steps l.slots l.self l.place l.n
    × ((q : List ℕ) → IsRightAt l.steps l.slots l.fn.self q → IsRightAt l.steps l.slots l.self q)
    × ((l.self.place ≡ l.fn.self.place) × (l.self.undone ≡ l.fn.self.undone) × (l.self.wide ≡ l.fn.self.wide))

abbrev pub decreases-loop-change : goal.decreases-loop-change
decreases-loop-change l = length (changes_at l.steps l.place) - l.n
