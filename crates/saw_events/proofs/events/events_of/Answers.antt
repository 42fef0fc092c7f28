use Rattle.std.proofs.Common.{◌∙◌}
use Rattle.saw_events.proofs.Untold.{tells_all}
use Rattle.saw_events.proofs.events.events_of.Goals as goal

pub returns : goal.returns
returns c = c.into_vec.ensures ∙ c.in_ok-told.ensures ∙ tells_all _
