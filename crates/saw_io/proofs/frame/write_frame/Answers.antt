use Rattle.std.proofs.Common.{length, arith}
use Rattle.std.proofs.lemmas.Result.{err_from_is_err_and}
use Rattle.std.specs.Int.{to_be_bytes, w32}
use Rattle.saw_io.proofs.Cuts.{first_cut, nothing_cut, rest_cut}
use Rattle.saw_io.specs.Frame.{frame}
use Rattle.saw_io.proofs.frame.write_frame.Goals as goal

pub returns-in_default-clause-err : goal.returns-in_default-clause-err
returns-in_default-clause-err g c = nothing_cut (frame c.args.content.now) _ (omega arith)

pub returns-in_err-write_all-clause-err : goal.returns-in_err-write_all-clause-err
returns-in_err-write_all-clause-err g c =
    let p = err_from_is_err_and c.from_residual.result c.from_residual.ensures.1 in
    rw (p.1) (first_cut (to_be_bytes w32 (length c.args.content.now)) c.args.content.now c.in-Some.length _ _ c.in-Some.ensures
    c.in_err-write_all.ensures.err)

pub returns-in_err-write_all-2-clause-err : goal.returns-in_err-write_all-2-clause-err
returns-in_err-write_all-2-clause-err g c =
    let p = err_from_is_err_and c.from_residual-in_err-write_all-2.result c.from_residual-in_err-write_all-2.ensures.1 in
    rw (p.1) (rest_cut (to_be_bytes w32 (length c.args.content.now)) c.args.content.now c.in-Some.length _ _ _ c.in-Some.ensures
    c.in_ok-write_all.ensures.ok c.in_err-write_all-2.ensures.err)
