use Rattle.std.proofs.Common.{[]}
use Rattle.saw_messages.proofs.transaction.TransactionHeaderMessage.encode.Goals as goal

pub returns : goal.returns
returns c = c.in_ok-write_text-6.ensures _ (c.in_ok-write_text-5.ensures _
    (c.in_ok-write_texts-3.ensures _ (c.in_ok-write_text-4.ensures _
    (c.in_ok-write_texts-2.ensures _ (c.in_ok-write_text-3.ensures _
    (c.in_ok-write_text-2.ensures _ (c.in_ok-write_texts.ensures _ (c.in_ok-write_text.ensures [] c.new-out.ensures.items))))))))
