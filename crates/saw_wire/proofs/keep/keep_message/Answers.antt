use Rattle.std.proofs.Common.{◌∙◌}
use Rattle.std.proofs.lemmas.Result.{err_from_is_err_and}
use Rattle.saw_wire.specs.Pieces.{seen}
use Rattle.saw_wire.specs.Fields.{embedded}
use Rattle.saw_wire.proofs.Pushes.{embedded_some, embedded_none, item_fault_some, item_fault_none}
use Rattle.saw_wire.proofs.keep.keep_message.Goals as goal

pub returns-in_err-merge-clause-err : goal.returns-in_err-merge-clause-err
returns-in_err-merge-clause-err g c =
    let p = err_from_is_err_and c.from_residual.result c.from_residual.ensures.1 in
    rw (p.1, p.2, item_fault_some g.M.Message.fault c.args.field (seen c.args.bytes.now c.args.one.now) c.in-Some.found.now c.in-Some.ensures.some)
    c.in_err-merge.ensures.err

pub returns-in_ok-merge-clause-ok : goal.returns-in_ok-merge-clause-ok
returns-in_ok-merge-clause-ok g c = λ pieces e.
    rw (embedded_some c.args.field pieces (seen c.args.bytes.now c.args.one.now) c.in-Some.found.now c.in-Some.ensures.some)
    (c.in_ok-merge.ensures.ok (embedded c.args.field pieces) e)

pub returns-in_ok-merge-clause-fine : goal.returns-in_ok-merge-clause-fine
returns-in_ok-merge-clause-fine g c = item_fault_some g.M.Message.fault c.args.field
    (seen c.args.bytes.now c.args.one.now) c.in-Some.found.now c.in-Some.ensures.some ∙ c.in_ok-merge.ensures.fine

pub returns-in_default-clause-ok : goal.returns-in_default-clause-ok
returns-in_default-clause-ok g c = λ pieces e.
    rw (embedded_none c.args.field pieces (seen c.args.bytes.now c.args.one.now) (rw c.in_default.is at c.chunk.ensures.none)) e

pub returns-in_default-clause-fine : goal.returns-in_default-clause-fine
returns-in_default-clause-fine g c = item_fault_none g.M.Message.fault c.args.field (seen c.args.bytes.now c.args.one.now)
    (rw c.in_default.is at c.chunk.ensures.none)
