use Rattle.std.proofs.Common.{ap, ◌∙◌}
use Rattle.saw_schedule.specs.Histories.{is_over}
use Rattle.saw_schedule.proofs.Overs.{over-is}
use Rattle.saw_schedule.proofs.schedule.Schedule.is_finished.Goals as goal

pub returns : goal.returns
returns c = over-is _ _ _ _ c.self.inside.slots c.len.result c.len-2.result c.self.invariant.slots_are c.len.ensures c.len-2.ensures ∙ ap is_over c.self.view_is
