use Rattle.std.proofs.Common.{Some, None, inr}
use Rattle.std.proofs.lemmas.Result.{err_from_is_err_and}
use Rattle.saw_checks.proofs.BlockRuns.{no_block, no_header, at_tests, at_ids, at_batches, at_signature}
use Rattle.saw_checks.proofs.block.read_block.Goals as goal

pub returns-in_err-block : goal.returns-in_err-block
returns-in_err-block g c =
    let p = err_from_is_err_and c.from_residual.result c.from_residual.ensures.1 in
    rw (p.1, p.2) (no_block (g.V.Verifier.accepts c.args.verifier.now) c.args.bytes.now c.in_err-block.field-0.0 c.in_err-block.ensures)

pub returns-in_err-header : goal.returns-in_err-header
returns-in_err-header g c =
    let p = err_from_is_err_and c.from_residual-in_err-header.result c.from_residual-in_err-header.ensures.1 in
    rw (p.1, p.2) (no_header (g.V.Verifier.accepts c.args.verifier.now) c.args.bytes.now c.in_ok-block.block c.in_ok-block.ensures
    c.in_err-header.field-0.0 (rw c.as_slice.ensures at c.in_err-header.ensures))

pub returns-in_err-test_block : goal.returns-in_err-test_block
returns-in_err-test_block g c =
    let p = err_from_is_err_and c.from_residual-in_err-test_block.result c.from_residual-in_err-test_block.ensures.1 in
    rw (p.1, p.2) (inr (at_tests (g.V.Verifier.accepts c.args.verifier.now) c.args.bytes.now c.in_ok-block.block c.in_ok-block.ensures
    c.in_ok-header.header (rw c.as_slice.ensures at c.in_ok-header.ensures) c.in_err-test_block.field-0.0 c.in_err-test_block.ensures))

pub returns-in_err-test_ids : goal.returns-in_err-test_ids
returns-in_err-test_ids g c =
    let p = err_from_is_err_and c.from_residual-in_err-test_ids.result c.from_residual-in_err-test_ids.ensures.1 in
    rw (p.1, p.2) (inr (at_ids (g.V.Verifier.accepts c.args.verifier.now) c.args.bytes.now c.in_ok-block.block c.in_ok-block.ensures
    c.in_ok-header.header (rw c.as_slice.ensures at c.in_ok-header.ensures) c.in_ok-test_block.ensures c.in_err-test_ids.field-0.0
    c.in_err-test_ids.ensures))

pub returns-in_err-batches : goal.returns-in_err-batches
returns-in_err-batches g c =
    let p = err_from_is_err_and c.from_residual-in_err-batches.result c.from_residual-in_err-batches.ensures.1 in
    rw (p.1, p.2) (at_batches (g.V.Verifier.accepts c.args.verifier.now) c.args.bytes.now c.in_ok-block.block c.in_ok-block.ensures
    c.in_ok-header.header (rw c.as_slice.ensures at c.in_ok-header.ensures) c.in_ok-test_block.ensures c.in_ok-test_ids.ensures
    c.in_err-batches.field-0.0 (rw c.as_slice-3.ensures at c.in_err-batches.ensures))

pub returns-in_err-test_signature : goal.returns-in_err-test_signature
returns-in_err-test_signature g c =
    let p = err_from_is_err_and c.from_residual-in_err-test_signature.result c.from_residual-in_err-test_signature.ensures.1 in
    rw (p.1, p.2) (inr (at_signature (g.V.Verifier.accepts c.args.verifier.now) c.args.bytes.now c.in_ok-block.block c.in_ok-block.ensures
    c.in_ok-header.header (rw c.as_slice.ensures at c.in_ok-header.ensures) c.in_ok-test_block.ensures c.in_ok-test_ids.ensures
    (Some c.in_err-test_signature.field-0.0) (rw c.as_slice-3.ensures at c.in_ok-batches.ensures).0 c.in_err-test_signature.ensures))

pub returns : goal.returns
returns g c =
    let read = rw c.as_slice.ensures at c.in_ok-header.ensures in
    let checked = rw c.as_slice-3.ensures at c.in_ok-batches.ensures in (
      at_signature (g.V.Verifier.accepts c.args.verifier.now) c.args.bytes.now c.in_ok-block.block c.in_ok-block.ensures c.in_ok-header.header read
          c.in_ok-test_block.ensures c.in_ok-test_ids.ensures None checked.0 c.in_ok-test_signature.ensures,
      record {
        read = c.in_ok-block.block;
        decoded = c.in_ok-block.ensures;
        id = c.in_ok-id.ensures;
        header = read;
        batches = checked.1;
      },
    )
