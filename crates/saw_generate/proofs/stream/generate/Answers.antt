use Rattle.std.proofs.Common.{◌∙◌, arith}
use Rattle.std.proofs.KnownBytes.{Appends-nil}
use Rattle.std.proofs.lemmas.Result.{err_from_is_err_and}
use Rattle.saw_publish.specs.Candidates.{Signing}
use Rattle.saw_generate.specs.Streams.{content_at}
use Rattle.saw_generate.proofs.Streaming.{before_cut, frame_cut, written_more}
use Rattle.saw_generate.proofs.stream.generate.Goals as goal

pub loop-b-init : goal.loop-b-init
loop-b-init g c = record { written = Appends-nil _; behind = c.new-chain.ensures _; later = omega arith }

pub returns-in_err-content-clause-err : goal.returns-in_err-content-clause-err
returns-in_err-content-clause-err g c =
    let signing : Signing = record { key = g.G.Signer.key_text c.args.signer.now; signature = g.G.Signer.signature c.args.signer.now } in
    let p = err_from_is_err_and c.from_residual.result c.from_residual.ensures.1 in
    rw (p.1)
    (before_cut (content_at signing c.args.wish.now) c.loop-b.b c.args.wish.now.blocks (omega (arith, c.loop-b-test.true)) _ _ c.loop-b.invariant.written)

pub returns-in_err-write_frame-clause-err : goal.returns-in_err-write_frame-clause-err
returns-in_err-write_frame-clause-err g c =
    let signing : Signing = record { key = g.G.Signer.key_text c.args.signer.now; signature = g.G.Signer.signature c.args.signer.now } in
    let p = err_from_is_err_and c.from_residual-in_err-write_frame.result c.from_residual-in_err-write_frame.ensures.1 in
    rw (p.1)
    (frame_cut (content_at signing c.args.wish.now) c.loop-b.b c.args.wish.now.blocks (omega (arith, c.loop-b-test.true)) _ _ c.loop-b.invariant.written
    _ _ (c.deref.ensures.value ∙ c.in_ok-content.ensures.content) c.in_err-write_frame.ensures.err)

pub loop-b-preserved : goal.loop-b-preserved
loop-b-preserved g c =
    let signing : Signing = record { key = g.G.Signer.key_text c.args.signer.now; signature = g.G.Signer.signature c.args.signer.now } in
    record {
      written = written_more (content_at signing c.args.wish.now) c.loop-b.b _ _ _ _ c.loop-b.invariant.written
          (c.deref.ensures.value ∙ c.in_ok-content.ensures.content) c.in_ok-write_frame.ensures.ok;
      behind = c.in_ok-content.ensures.behind;
      later = omega (arith, c.loop-b.invariant.later, c.in_ok-write_frame.ensures.later);
    }
