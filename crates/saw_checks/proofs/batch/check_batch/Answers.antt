use Rattle.std.proofs.Common.{Some, None, inr}
use Rattle.std.proofs.lemmas.Result.{err_from_is_err_and}
use Rattle.saw_checks.proofs.BatchRuns.{no_header, at_texts, at_ids, at_txs, at_signature, signer_is}
use Rattle.saw_checks.proofs.batch.check_batch.Goals as goal

pub returns-in_err-header : goal.returns-in_err-header
returns-in_err-header g c =
    let p = err_from_is_err_and c.from_residual.result c.from_residual.ensures.1 in
    rw (p.1, p.2) (no_header (g.V.Verifier.accepts c.args.verifier.now) c.args.batch.now c.in_err-header.field-0.0 c.in_err-header.ensures)

pub returns-in_err-test_texts : goal.returns-in_err-test_texts
returns-in_err-test_texts g c =
    let p = err_from_is_err_and c.from_residual-in_err-test_texts.result c.from_residual-in_err-test_texts.ensures.1 in
    rw (p.1, p.2) (inr (at_texts (g.V.Verifier.accepts c.args.verifier.now) c.args.batch.now c.in_ok-header.header c.in_ok-header.ensures
    c.in_err-test_texts.field-0.0 c.in_err-test_texts.ensures))

pub returns-in_err-test_ids : goal.returns-in_err-test_ids
returns-in_err-test_ids g c =
    let p = err_from_is_err_and c.from_residual-in_err-test_ids.result c.from_residual-in_err-test_ids.ensures.1 in
    rw (p.1, p.2) (inr (at_ids (g.V.Verifier.accepts c.args.verifier.now) c.args.batch.now c.in_ok-header.header c.in_ok-header.ensures
    c.in_ok-test_texts.ensures c.in_err-test_ids.field-0.0 c.in_err-test_ids.ensures))

pub returns-in_err-txs : goal.returns-in_err-txs
returns-in_err-txs g c =
    let p = err_from_is_err_and c.from_residual-in_err-txs.result c.from_residual-in_err-txs.ensures.1 in
    rw (p.1, p.2) (at_txs (g.V.Verifier.accepts c.args.verifier.now) c.args.batch.now c.in_ok-header.header c.in_ok-header.ensures
    c.in_ok-test_texts.ensures c.in_ok-test_ids.ensures c.in_err-txs.field-0.0 (rw c.as_slice.ensures at c.in_err-txs.ensures))

pub returns-in_err-test_signature : goal.returns-in_err-test_signature
returns-in_err-test_signature g c =
    let p = err_from_is_err_and c.from_residual-in_err-test_signature.result c.from_residual-in_err-test_signature.ensures.1 in
    rw (p.1, p.2) (inr (at_signature (g.V.Verifier.accepts c.args.verifier.now) c.args.batch.now c.in_ok-header.header c.in_ok-header.ensures
    c.in_ok-test_texts.ensures c.in_ok-test_ids.ensures (Some c.in_err-test_signature.field-0.0)
    (rw c.as_slice.ensures at c.in_ok-txs.ensures).0 c.in_err-test_signature.ensures))

pub returns : goal.returns
returns g c = (
  at_signature (g.V.Verifier.accepts c.args.verifier.now) c.args.batch.now c.in_ok-header.header c.in_ok-header.ensures c.in_ok-test_texts.ensures
      c.in_ok-test_ids.ensures None (rw c.as_slice.ensures at c.in_ok-txs.ensures).0 c.in_ok-test_signature.ensures,
  record {
    id = c.in_ok-try_clone.ensures;
    signer = λ other again. signer_is c.args.batch.now.header c.in_ok-header.header other c.in_ok-header.ensures again;
    txs = (rw c.as_slice.ensures at c.in_ok-txs.ensures).1;
  },
)
