use Rattle.std.proofs.Common.{[], ◌∙◌}
use Rattle.saw_link.proofs.Contents.{content_is}
use Rattle.saw_link.proofs.written.process_content.Goals as goal

pub returns : goal.returns
returns c = c.in_ok-write_bytes-3.ensures _
    (c.in_ok-write_text-2.ensures _ (c.in_ok-write_text.ensures _ (c.in_ok-write_bytes-2.ensures _ (c.in_ok-write_bytes.ensures [] c.new-out.ensures.items))))
    ∙ content_is c.args.version c.args.context.now c.args.tx.now _ _ _ c.new-nothing.ensures c.one_of-first.ensures c.one_of-fifth.ensures
