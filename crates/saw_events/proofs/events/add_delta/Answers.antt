use Rattle.std.proofs.Common.{option_copied, sym, ◌∙◌}
use Rattle.saw_events.specs.Events.{delta_event}
use Rattle.saw_events.proofs.Untold.{tells_nothing}
use Rattle.saw_events.proofs.events.add_delta.Goals as goal

pub returns-else-may_tell : goal.returns-else-may_tell
returns-else-may_tell c =
    tells_nothing c.args.told.now (option_copied c.args.wishes) (delta_event c.args.block.now) (sym c.may_tell.ensures ∙ c.if-may_tell.false)
