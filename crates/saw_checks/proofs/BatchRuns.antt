-- The tests of a batch, one group after another.
use Rattle.std.proofs.Common.{◌≡◌, ◌⊎◌, ℕ, Bool, List, [], Option, Some, None, Ok, Err, ap, inl, inr}
use Rattle.saw_messages.specs.Batches.{batch_header}
use Rattle.saw_messages.specs.declared.batch.Batch.{Batch}
use Rattle.saw_messages.specs.declared.batch.BatchHeader.{BatchHeader}
use Rattle.saw_checks.specs.declared.fault.BatchFault.{BatchFault}
use Rattle.saw_checks.specs.declared.fault.BatchFault.TheVariants.{OutOfMemory}
use Rattle.saw_checks.specs.Tests.{first_of, ◌<|>◌}
use Rattle.saw_checks.specs.BatchFaults.{batch_tests, txs_fault, batch_fault_by, batch_fault}
use Rattle.saw_checks.specs.Readings.{BatchGives}
use Rattle.saw_checks.specs.BatchParts.{ids_fault, signature_fault, ReadsHeader}
use Rattle.saw_checks.proofs.Chains.{at_first, at_second, at_third, at_fourth}

pub signer_is : (bytes : List ℕ) (header other : BatchHeader) → batch_header bytes ≡ Ok header → batch_header bytes ≡ Ok other
    → header.signer_public_key ≡ other.signer_public_key
signer_is bytes header other read again = let same : header ≡ other = cc in ap (λ (one : BatchHeader). one.signer_public_key) same

module _ (accepts : List ℕ → List ℕ → List ℕ → Bool) (batch : Batch) where
  pub no_header : (e : BatchFault) → ReadsHeader batch (Err e) → BatchGives accepts batch (Err e)
  unfolding batch_fault
  no_header e (inl memory) = inl memory
  no_header e (inr (is, (why, bad))) = inr (rw is (ap (batch_fault_by accepts batch) bad))

  module _ (header : BatchHeader) (read : batch_header batch.header ≡ Ok header) where
    abbrev texts : Option BatchFault
    texts = first_of (batch_tests batch header)

    abbrev ids : Option BatchFault
    ids = ids_fault batch header

    abbrev txs : Option BatchFault
    txs = txs_fault accepts header.signer_public_key [] 0 batch.transactions

    abbrev signature : Option BatchFault
    signature = signature_fault accepts header.signer_public_key batch

    whole : batch_fault accepts batch ≡ texts <|> (ids <|> (txs <|> signature))
    unfolding batch_fault
    whole = ap (batch_fault_by accepts batch) read

    pub at_texts : (fault : BatchFault) → texts ≡ Some fault → batch_fault accepts batch ≡ Some fault
    at_texts = at_first texts ids txs signature whole

    module _ (texts_fine : texts ≡ None) where
      pub at_ids : (fault : BatchFault) → ids ≡ Some fault → batch_fault accepts batch ≡ Some fault
      at_ids = at_second texts ids txs signature whole texts_fine

      module _ (ids_fine : ids ≡ None) where
        pub at_txs : (e : BatchFault) → (e ≡ OutOfMemory) ⊎ (txs ≡ Some e) → BatchGives accepts batch (Err e)
        at_txs e (inl memory) = inl memory
        at_txs e (inr bad) = inr (at_third texts ids txs signature whole texts_fine ids_fine e bad)

        pub at_signature : (last : Option BatchFault) → txs ≡ None → signature ≡ last → batch_fault accepts batch ≡ last
        at_signature = at_fourth texts ids txs signature whole texts_fine ids_fine
