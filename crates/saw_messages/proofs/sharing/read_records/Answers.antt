use Rattle.std.proofs.lemmas.Result.{err_from_is_err_and}
use Rattle.saw_messages.specs.Blocks.{block_of, block_fault}
use Rattle.saw_messages.proofs.Gathering.{front_ends, run_ends, run_joined}
use Rattle.saw_messages.proofs.sharing.read_records.Goals as goal

pub returns-in_err-block : goal.returns-in_err-block
returns-in_err-block g c =
    let p = err_from_is_err_and c.from_residual.result c.from_residual.ensures.1 in
    rw (p.1, p.2) (front_ends block_of block_fault c.args.bytes.now c.args.found.now
    c.split_at.result.0.now c.split_at.result.1.now c.in_err-block.field-0.0 c.split_at.ensures.by_index.0 c.in_err-block.ensures)

pub returns-in_err-more : goal.returns-in_err-more
returns-in_err-more g c =
    let p = err_from_is_err_and c.from_residual-in_err-more.result c.from_residual-in_err-more.ensures.1 in
    rw (p.1, p.2) (run_ends c.args.bytes.now c.args.found.now
    c.split_at.result.0.now c.split_at.result.1.now c.in_ok-block.block c.in_err-more.field-0.0 c.split_at.ensures.by_index.0
    (rw c.split_at.ensures.back c.last_run.ensures.batches) c.in_ok-block.ensures c.in_err-more.ensures)

pub returns : goal.returns
returns g c =
    rw (c.in_ok-block-2.ensures, c.replace-before.ensures.value) (run_joined c.args.bytes.now c.args.found.now
    c.split_at.result.0.now c.split_at.result.1.now c.in_ok-block.block c.in_ok-more.more c.split_at.ensures.by_index.0
    (rw c.split_at.ensures.back c.last_run.ensures.batches) c.in_ok-block.ensures c.in_ok-more.ensures)
