use Rattle.std.proofs.Common.{[]}
use Rattle.saw_linkmsg.proofs.process.TpProcessRequestMessage.encode.Goals as goal

pub returns : goal.returns
returns c = c.in_ok-write_bytes-2.ensures _
    (c.in_ok-write_text-2.ensures _ (c.in_ok-write_text.ensures _ (c.in_ok-write_bytes.ensures _ (c.in_ok-write_message.ensures [] c.new-out.ensures.items))))
