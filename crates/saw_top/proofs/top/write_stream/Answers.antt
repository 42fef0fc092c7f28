use Rattle.std.proofs.Common.{Err, ap, ◌∙◌}
use Rattle.saw_publish.specs.Candidates.{Signing}
use Rattle.saw_generate.specs.Streams.{stream}
use Rattle.saw_top.proofs.Tellings.{part_front}
use Rattle.saw_top.proofs.top.write_stream.Goals as goal

pub returns-in-Err-WriteFailed : goal.returns-in-Err-WriteFailed
returns-in-Err-WriteFailed g c =
    let signing : Signing = record { key = g.G.Signer.key_text c.args.signer.now; signature = g.G.Signer.signature c.args.signer.now } in
    let cut = rw c.in-Err-WriteFailed.is at c.generate.ensures.err in
    record {
      writes = (
        c.generate.ensures.cause (c.in-Err-WriteFailed.is ∙ ap Err c.in-Err-WriteFailed.field-0-is),
        part_front (stream signing c.args.wish.now) cut.0 _ _ cut.1,
      );
    }

pub returns-in-Err-OutOfMemory : goal.returns-in-Err-OutOfMemory
returns-in-Err-OutOfMemory g c =
    let signing : Signing = record { key = g.G.Signer.key_text c.args.signer.now; signature = g.G.Signer.signature c.args.signer.now } in
    let cut = rw c.in-Err-OutOfMemory.is at c.generate.ensures.err in
    record { writes = part_front (stream signing c.args.wish.now) cut.0 _ _ cut.1 }
