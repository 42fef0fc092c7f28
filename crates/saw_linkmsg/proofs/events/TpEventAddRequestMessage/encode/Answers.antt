use Rattle.std.proofs.Common.{[]}
use Rattle.saw_linkmsg.proofs.events.TpEventAddRequestMessage.encode.Goals as goal

pub returns : goal.returns
returns c = c.in_ok-write_message.ensures _ (c.in_ok-write_text.ensures [] c.new-out.ensures.items)
