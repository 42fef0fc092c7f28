-- Lists of judged batches: made one after another, put together, and gone through for what they give.
use Rattle.std.proofs.Common.{◌≡◌, ℕ, suc, ◌+◌, ◌<◌, Bool, List, [], ◌∷◌, ◌++◌, length, take, get_or, None, Result, Ok, Err, refl, ap, ◌∙◌, inl, inr}
use Rattle.std.proofs.lemmas.List.{take_more}
use Rattle.saw_messages.specs.declared.batch.Batch.{Batch}
use Rattle.saw_messages.specs.declared.tx.TxBatch.{TxBatch}
use Rattle.saw_checks.specs.declared.fault.StructureFault.{StructureFault}
use Rattle.saw_checks.specs.declared.judged.Judged.{Judged}
use Rattle.saw_checks.specs.declared.judged.Judged.TheVariants.{Good, Bad}
use Rattle.saw_checks.specs.StructureFaults.{batches_fault}
use Rattle.saw_checks.specs.Readings.{AreBatchesOf, IsJudged, AreJudged}
use Rattle.saw_checks.specs.BlockParts.{first_bad, reads_of, JudgedGive, BatchesGive}

module _ (accepts : List ℕ → List ℕ → List ℕ → Bool) where
  pub judged_joined : (batches others : List Batch) (judged more : List Judged) → AreJudged accepts batches judged
      → AreJudged accepts others more → AreJudged accepts (batches ++ others) (judged ++ more)
  judged_joined [] others [] more are rest = rest
  judged_joined [] others (one ∷ judged) more are rest = absurd are
  judged_joined (batch ∷ batches) others [] more are rest = absurd are
  judged_joined (batch ∷ batches) others (one ∷ judged) more are rest = (are.0, judged_joined batches others judged more are.1 rest)

  pub judged_more : (batches : List Batch) (k : ℕ) (batch : Batch) → k < length batches → batch ≡ get_or batches k batch
      → (found : List Judged) (judged : Judged) → AreJudged accepts (take k batches) found → IsJudged accepts batch judged
      → AreJudged accepts (take (k + 1) batches) (found ++ judged ∷ [])
  judged_more batches k batch more here found judged are is =
      rw (take_more batches k batch more, ← here) (judged_joined (take k batches) (batch ∷ []) found (judged ∷ []) are (is, tt))

  pub judged_length : (batches : List Batch) (judged : List Judged) → AreJudged accepts batches judged → length judged ≡ length batches
  judged_length [] [] are = refl
  judged_length [] (one ∷ judged) are = absurd are
  judged_length (batch ∷ batches) [] are = absurd are
  judged_length (batch ∷ batches) (one ∷ judged) are = ap suc (judged_length batches judged are.1)

  first_bad_is : (k : ℕ) (batches : List Batch) (judged : List Judged) → AreJudged accepts batches judged
      → batches_fault accepts k batches ≡ first_bad k judged
  first_bad_is k [] [] are = refl
  first_bad_is k [] (one ∷ judged) are = absurd are
  first_bad_is k (batch ∷ batches) [] are = absurd are
  first_bad_is k (batch ∷ batches) (Good read ∷ judged) are = rw are.0.0 (first_bad_is (k + 1) batches judged are.1)
  first_bad_is k (batch ∷ batches) (Bad fault ∷ judged) are = rw are.0 refl

  are_read : (k : ℕ) (batches : List Batch) (judged : List Judged) → AreJudged accepts batches judged → first_bad k judged ≡ None
      → AreBatchesOf batches (reads_of judged)
  are_read k [] [] are none = tt
  are_read k [] (one ∷ judged) are none = absurd are
  are_read k (batch ∷ batches) [] are none = absurd are
  are_read k (batch ∷ batches) (Good read ∷ judged) are none = (are.0.1, are_read (k + 1) batches judged are.1 none)
  are_read k (batch ∷ batches) (Bad fault ∷ judged) are none = cc

  -- what is found of judged batches is found of the batches
  pub judged_give : (batches : List Batch) (judged : List Judged) (result : Result (List TxBatch) StructureFault) → AreJudged accepts batches judged
      → JudgedGive judged result → BatchesGive accepts batches result
  judged_give batches judged (Ok reads) are gives =
      (first_bad_is 0 batches judged are ∙ gives.0, rw gives.1 (are_read 0 batches judged are gives.0))
  judged_give batches judged (Err e) are (inl memory) = inl memory
  judged_give batches judged (Err e) are (inr bad) = inr (first_bad_is 0 batches judged are ∙ bad)
