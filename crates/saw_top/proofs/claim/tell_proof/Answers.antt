use Rattle.std.proofs.Common.{Err, inr, refl, ap, ◌∙◌}
use Rattle.std.proofs.lemmas.Result.{err_from_is_err_and}
use Rattle.saw_top.specs.Outside.{sink_end}
use Rattle.saw_top.proofs.Claimed.{cut_off, front_of}
use Rattle.saw_top.proofs.claim.tell_proof.Goals as goal

pub returns-in_err-line : goal.returns-in_err-line
returns-in_err-line g c =
    let p = err_from_is_err_and c.from_residual.result c.from_residual.ensures.1 in
    record { tells = rw (p.1, p.2) (inr (refl, refl)) }

pub returns-in_err-write_all : goal.returns-in_err-write_all
returns-in_err-write_all g c =
    let p = err_from_is_err_and c.from_residual-in_err-write_all.result c.from_residual-in_err-write_all.ensures.1 in
    let e = c.in_err-write_all.ensures in
    record {
      tells = rw (p.1, p.2)
          (cut_off c.args.claim.now.root c.args.claim.now.at c.args.nodes.now (sink_end g.O.Sink c.args.output.now) (sink_end g.O.Sink c.write_all.new.sink)
          c.check-answer.result (c.check-answer.ensures c.in_ok-line.ensures.memory) c.in_err-write_all.field-0.0
          (front_of (g.O.Sink.written c.args.output.now) (g.O.Sink.written c.write_all.new.sink) c.deref.result.now _
          (c.deref.ensures.value ∙ c.in_ok-line.ensures.line) e.err) (λ is. e.cause (ap Err is)));
    }
