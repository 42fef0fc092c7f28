-- The transactions of a batch, tested one after another as a loop does.
use Rattle.std.proofs.Common.{◌≡◌, ℕ, ◌+◌, ◌<◌, Bool, List, [], ◌∷◌, ◌++◌, length, take, drop, get_or, None, refl, ◌∙◌}
use Rattle.std.proofs.lemmas.List.{drop_more, take_more, map_more}
use Rattle.saw_messages.specs.declared.transaction.Transaction.{Transaction}
use Rattle.saw_messages.specs.declared.tx.Tx.{Tx}
use Rattle.saw_checks.specs.BatchFaults.{ids_of, tx_fault, txs_fault}
use Rattle.saw_checks.specs.Readings.{IsTxOf, AreTxsOf}

are_pushed : (txs : List Transaction) (reads : List Tx) (tx : Transaction) (read : Tx) → AreTxsOf txs reads → IsTxOf tx read
    → AreTxsOf (txs ++ tx ∷ []) (reads ++ read ∷ [])
are_pushed [] [] tx read are is = (is, tt)
are_pushed [] (other ∷ reads) tx read are is = absurd are
are_pushed (one ∷ txs) [] tx read are is = absurd are
are_pushed (one ∷ txs) (other ∷ reads) tx read are is = (are.0, are_pushed txs reads tx read are.1 is)

module _ (txs : List Transaction) (t : ℕ) (tx : Transaction) (more : t < length txs) (here : tx ≡ get_or txs t tx) where
  pub are_more : (reads : List Tx) (read : Tx) → AreTxsOf (take t txs) reads → IsTxOf tx read → AreTxsOf (take (t + 1) txs) (reads ++ read ∷ [])
  are_more reads read are is = rw (take_more txs t tx more, ← here) (are_pushed (take t txs) reads tx read are is)

  pub ids_more : ids_of (take t txs) ++ tx.header_signature ∷ [] ≡ ids_of (take (t + 1) txs)
  ids_more = rw (map_more (λ (one : Transaction). one.header_signature) txs t tx more, ← here) refl

  -- what the transactions up to here leave to be tested
  pub goes_on : (accepts : List ℕ → List ℕ → List ℕ → Bool) (signer : List ℕ)
      → txs_fault accepts signer [] 0 txs ≡ txs_fault accepts signer (ids_of (take t txs)) t (drop t txs)
      → tx_fault accepts signer (ids_of (take t txs)) t tx ≡ None
      → txs_fault accepts signer [] 0 txs ≡ txs_fault accepts signer (ids_of (take (t + 1) txs)) (t + 1) (drop (t + 1) txs)
  goes_on accepts signer so_far fine = so_far ∙ rw (drop_more txs t tx more, ← here, fine, ids_more) refl
