use Rattle.std.proofs.Common.{[]}
use Rattle.saw_linkmsg.proofs.events.TpEventAddResponseMessage.encode.Goals as goal

pub returns : goal.returns
returns c = c.in_ok-write_small.ensures [] c.new-out.ensures.items
