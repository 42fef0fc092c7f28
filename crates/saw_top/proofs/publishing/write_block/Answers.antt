use Rattle.std.proofs.lemmas.Result.{err_from_is_err_and}
use Rattle.saw_top.proofs.publishing.write_block.Goals as goal

pub returns-in_err-write_frame-clause-err : goal.returns-in_err-write_frame-clause-err
returns-in_err-write_frame-clause-err g c =
    let p = err_from_is_err_and c.from_residual.result c.from_residual.ensures.1 in
    let cut = c.in_err-write_frame.ensures.err in
    rw (p.1) (cut.0, cut.2)
