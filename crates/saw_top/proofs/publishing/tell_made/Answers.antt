use Rattle.std.proofs.lemmas.Result.{err_from_is_err_and}
use Rattle.saw_top.specs.Outside.{sink_end}
use Rattle.saw_top.proofs.Tellings.{losses_cut, text_part}
use Rattle.saw_top.proofs.publishing.tell_made.Goals as goal

pub returns-in_err-tell_losses : goal.returns-in_err-tell_losses
returns-in_err-tell_losses g c =
    let p = err_from_is_err_and c.from_residual.result c.from_residual.ensures.1 in
    record {
      tells = rw (p.1, p.2)
          (losses_cut _ _ (sink_end g.O.Sink c.args.output.now) (sink_end g.N.Sink c.args.notes.now)
          (sink_end g.N.Sink c.tell_losses.new.notes) _ c.in_err-tell_losses.field-0.0 c.in_err-tell_losses.ensures.later c.in_err-tell_losses.ensures.err
          c.in_err-tell_losses.ensures.fault c.in_err-tell_losses.ensures.cause);
    }

pub returns-in_err-write_block : goal.returns-in_err-write_block
returns-in_err-write_block g c =
    let p = err_from_is_err_and c.from_residual-in_err-write_block.result c.from_residual-in_err-write_block.ensures.1 in
    let e = rw c.deref.ensures.value at c.in_err-write_block.ensures.err in
    record {
      tells = rw (p.1, p.2, c.in-Some.is)
          (text_part _ _ (sink_end g.O.Sink c.args.output.now) (sink_end g.O.Sink c.write_block.new.output)
          (sink_end g.N.Sink c.args.notes.now) (sink_end g.N.Sink c.tell_losses.new.notes) _ c.in_err-write_block.field-0.0
          c.in_ok-tell_losses.ensures.later c.in_ok-tell_losses.ensures.ok e c.in_err-write_block.ensures.fault c.in_err-write_block.ensures.cause);
    }
