use Rattle.std.proofs.Common.{sym, ◌∙◌}
use Rattle.std.proofs.lemmas.Result.{err_from_is_err_and}
use Rattle.saw_wire.specs.Pieces.{seen}
use Rattle.saw_wire.proofs.Pushes.{items_some, items_none, item_fault_some, item_fault_none}
use Rattle.saw_wire.proofs.keep.keep_items.Goals as goal

pub returns-in_err-item-clause-err : goal.returns-in_err-item-clause-err
returns-in_err-item-clause-err g c =
    let p = err_from_is_err_and c.from_residual.result c.from_residual.ensures.1 in
    rw (p.1, p.2, item_fault_some g.M.Message.fault c.args.field (seen c.args.bytes.now c.args.one.now) c.in-Some.found.now c.in-Some.ensures.some)
    c.in_err-item.ensures.err

pub returns-in_ok-push-clause-ok : goal.returns-in_ok-push-clause-ok
returns-in_ok-push-clause-ok g c = λ pieces e.
    rw (
      items_some g.M.Message.of c.args.field pieces (seen c.args.bytes.now c.args.one.now) c.in-Some.found.now c.in-Some.ensures.some,
      ← e,
      ←
          c.in_ok-item.ensures.ok,
    ) c.in_ok-push.ensures.ok

pub returns-in_ok-push-clause-fine : goal.returns-in_ok-push-clause-fine
returns-in_ok-push-clause-fine g c = item_fault_some g.M.Message.fault c.args.field
    (seen c.args.bytes.now c.args.one.now) c.in-Some.found.now c.in-Some.ensures.some ∙ c.in_ok-item.ensures.fine

pub returns-in_default-clause-ok : goal.returns-in_default-clause-ok
returns-in_default-clause-ok g c = λ pieces e.
    e ∙ sym (items_none g.M.Message.of c.args.field pieces (seen c.args.bytes.now c.args.one.now) (rw c.in_default.is at c.chunk.ensures.none))

pub returns-in_default-clause-fine : goal.returns-in_default-clause-fine
returns-in_default-clause-fine g c = item_fault_none g.M.Message.fault c.args.field (seen c.args.bytes.now c.args.one.now)
    (rw c.in_default.is at c.chunk.ensures.none)
