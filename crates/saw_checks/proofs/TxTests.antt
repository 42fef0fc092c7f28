-- The tests of a transaction, by what its header's bytes say.
use Rattle.std.proofs.Common.{◌≡◌, ℕ, Bool, List, Option, Err, sym, ap, ◌∙◌, inl, inr}
use Rattle.saw_messages.specs.TxShapes.{TxShape}
use Rattle.saw_messages.specs.declared.transaction.Transaction.{Transaction}
use Rattle.saw_checks.specs.declared.fault.BatchFault.{BatchFault}
use Rattle.saw_checks.specs.Tests.{first_of}
use Rattle.saw_checks.specs.BatchFaults.{tx_tests, tx_fault_by, tx_fault}
use Rattle.saw_checks.specs.Readings.{IsTxOf}
use Rattle.saw_checks.specs.BatchParts.{ReadsTx, TxGives}

module _ (accepts : List ℕ → List ℕ → List ℕ → Bool) (signer : List ℕ) (earlier : List (List ℕ)) (t : ℕ) (tx : Transaction) where
  pub no_header : (e : BatchFault) → ReadsTx t tx (Err e) → TxGives accepts signer earlier t tx (Err e)
  unfolding tx_fault
  no_header e (inl memory) = inl memory
  no_header e (inr (is, (why, bad))) = inr (rw is (ap (tx_fault_by accepts signer earlier t tx) bad))

  pub tested : (read seen : TxShape) (found : Option BatchFault) → seen ≡ read → IsTxOf tx read
      → first_of (tx_tests accepts signer earlier t tx seen.header) ≡ found → tx_fault accepts signer earlier t tx ≡ found
  unfolding tx_fault
  tested read seen found same is e =
      ap (tx_fault_by accepts signer earlier t tx) is.header
      ∙ ap (λ (one : TxShape). first_of (tx_tests accepts signer earlier t tx one.header)) (sym same) ∙ e
