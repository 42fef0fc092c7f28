use Rattle.std.proofs.Common.{◌∙◌}
use Rattle.std.proofs.lemmas.Result.{err_from_is_err_and}
use Rattle.saw_top.proofs.OneByOne.{lines_before, text_cut}
use Rattle.saw_top.proofs.line.write_lines.Goals as goal

pub returns-in_err-line-clause-err : goal.returns-in_err-line-clause-err
returns-in_err-line-clause-err g c =
    let p = err_from_is_err_and c.from_residual.result c.from_residual.ensures.1 in
    rw (p.1) (lines_before g.T.Lined.line_of c.args.items.now c.loop-item.item-index c.item-item.result c.loop-item-test.true c.item-item.is _ _
    c.loop-item.invariant.written)

pub returns-in_err-write_all-clause-err : goal.returns-in_err-write_all-clause-err
returns-in_err-write_all-clause-err g c =
    let p = err_from_is_err_and c.from_residual-in_err-write_all.result c.from_residual-in_err-write_all.ensures.1 in
    rw (p.1) (text_cut g.T.Lined.line_of c.args.items.now c.loop-item.item-index c.item-item.result c.loop-item-test.true c.item-item.is c.deref.result.now
    (c.deref.ensures.value ∙ c.in_ok-line.ensures) _ _ _ c.loop-item.invariant.written c.in_err-write_all.ensures.err)
