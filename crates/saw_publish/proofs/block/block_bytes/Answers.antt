use Rattle.std.proofs.Common.{◌++◌, ap, ◌∙◌}
use Rattle.saw_wire.specs.Writing.{bytes_pieces, spelled}
use Rattle.saw_publish.proofs.Written.{block_is}
use Rattle.saw_publish.proofs.block.block_bytes.Goals as goal

pub returns : goal.returns
returns c =
    block_is c.args.header.now c.args.signature.now c.put_bytes.new.out.items c.put_bytes-2.new.out.items c.put_batches.new.out.items c.args.fates.now
    c.args.encodings.now (c.in_ok-put_bytes.ensures.ok ∙ ap (λ out. out ++ spelled (bytes_pieces 1 c.args.header.now)) c.new-out.ensures.items)
    c.in_ok-put_bytes-2.ensures.ok c.in_ok-put_batches.ensures
