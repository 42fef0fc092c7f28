use Rattle.std.proofs.Common.{None, inr}
use Rattle.std.proofs.lemmas.Result.{err_from_is_err_and}
use Rattle.saw_checks.proofs.TxTests.{no_header, tested}
use Rattle.saw_checks.proofs.transactions.check_tx.Goals as goal

pub returns-in_err-read-clause-gives : goal.returns-in_err-read-clause-gives
returns-in_err-read-clause-gives g c = λ earlier holds.
    let p = err_from_is_err_and c.from_residual.result c.from_residual.ensures.1 in
    rw (p.1, p.2) (no_header (g.V.Verifier.accepts c.args.verifier.now) c.args.signer.now earlier c.args.t c.args.tx.now c.in_err-read.field-0.0
    c.in_err-read.ensures)

pub returns-in_err-test_tx-clause-gives : goal.returns-in_err-test_tx-clause-gives
returns-in_err-test_tx-clause-gives g c = λ earlier holds.
    let p = err_from_is_err_and c.from_residual-in_err-test_tx.result c.from_residual-in_err-test_tx.ensures.1 in
    rw (p.1, p.2) (inr (tested (g.V.Verifier.accepts c.args.verifier.now) c.args.signer.now earlier c.args.t c.args.tx.now c.in_ok-read.read _ _
    c.read.view_is c.in_ok-read.ensures (c.in_err-test_tx.ensures earlier (c.in_ok-repeated.ensures.ok earlier holds).0)))

pub returns-clause-gives : goal.returns-clause-gives
returns-clause-gives g c = λ earlier holds. (
  tested (g.V.Verifier.accepts c.args.verifier.now) c.args.signer.now earlier c.args.t c.args.tx.now c.in_ok-read.read _ None c.read.view_is
      c.in_ok-read.ensures (c.in_ok-test_tx.ensures earlier (c.in_ok-repeated.ensures.ok earlier holds).0),
  c.in_ok-read.ensures,
)

pub returns-clause-holds : goal.returns-clause-holds
returns-clause-holds g c = λ earlier holds. (c.in_ok-repeated.ensures.ok earlier holds).1
