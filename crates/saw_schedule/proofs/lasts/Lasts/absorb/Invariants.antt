use Rattle.std.proofs.Common.{◌≡◌, ◌-◌, length}
use Rattle.saw_schedule.specs.Layering.{AreLastsOf}
use Rattle.saw_schedule.proofs.lasts.Lasts.absorb.Given as goal

abbrev pub invariant-loop-self : goal.invariant-loop-self
invariant-loop-self l = AreLastsOf l.steps l.slots l.self × (l.self.wide ≡ l.fn.self.wide)

abbrev pub decreases-loop-self : goal.decreases-loop-self
decreases-loop-self l = length l.steps - l.self.place
