use Rattle.std.proofs.lemmas.Result.{err_from_is_err_and}
use Rattle.saw_wire.specs.Fields.{all_items, item_fault}
use Rattle.saw_messages.specs.Batches.{batch_of, batch_fault}
use Rattle.saw_messages.proofs.Gathering.{front_ends, rest_ends, parts_joined}
use Rattle.saw_messages.proofs.sharing.+shared.Goals as goal

pub returns-in_err-batches : goal.returns-in_err-batches
returns-in_err-batches g t c =
    let p = err_from_is_err_and c.from_residual.result c.from_residual.ensures.1 in
    rw (p.1, p.2) (front_ends (all_items batch_of 3) (item_fault batch_fault 3) c.args.bytes.now c.args.part.now
    c.split_at.result.0.now c.split_at.result.1.now c.in_err-batches.field-0.0 c.split_at.ensures.by_index.0
    (rw c.in_err-batches.was at c.join-batches.ensures.first))

pub returns-in_err-others : goal.returns-in_err-others
returns-in_err-others g t c =
    let p = err_from_is_err_and c.from_residual-in_err-others.result c.from_residual-in_err-others.ensures.1 in
    rw (p.1, p.2) (rest_ends (all_items batch_of 3) (item_fault batch_fault 3) c.args.bytes.now c.args.part.now
    c.split_at.result.0.now c.split_at.result.1.now c.in_ok-batches.batches c.in_err-others.field-0.0 c.split_at.ensures.by_index.0
    (rw c.in_ok-batches.was at c.join-batches.ensures.first)
    (rw c.in_err-others.was at c.join-batches.ensures.second))

pub returns : goal.returns
returns g t c =
    rw c.in_ok-joined.ensures (parts_joined c.args.bytes.now c.args.part.now
    c.split_at.result.0.now c.split_at.result.1.now c.in_ok-batches.batches c.in_ok-others.others c.split_at.ensures.by_index.0
    (rw c.in_ok-batches.was at c.join-batches.ensures.first)
    (rw c.in_ok-others.was at c.join-batches.ensures.second))
