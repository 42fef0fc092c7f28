use Rattle.std.proofs.Common.{◌≡◌, ◌-◌, length}
use Rattle.saw_schedule.specs.Lasts.{changes_at}
use Rattle.saw_schedule.specs.Layering.{AreLastsOf}
use Rattle.saw_schedule.proofs.lasts.Lasts.absorb_step.Given as goal

abbrev pub invariant-loop-change : goal.invariant-loop-change
invariant-loop-change l = AreLastsOf l.steps l.slots l.self × ((l.self.place ≡ l.initial.self.place) × (l.self.wide ≡ l.fn.self.wide))

abbrev pub decreases-loop-change : goal.decreases-loop-change
decreases-loop-change l = length (changes_at l.steps l.self.place) - l.self.change
