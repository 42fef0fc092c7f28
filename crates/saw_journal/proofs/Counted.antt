-- How many batches and transactions a block without a structure fault has.
use Rattle.std.proofs.Common.{◌≡◌, ◌<◌, ◌≤◌, ◌^◌, ℕ, Bool, List, [], ◌∷◌, length, map, None, Ok, refl, sym, ap, ◌∙◌, arith}
use Rattle.std.specs.List.{AllByRecursion}
use Rattle.std.proofs.lemmas.List.{length-map}
use Rattle.std.proofs.lemmas.List.Sums.{sum_by-cons}
use Rattle.saw_checks.specs.Laws.{IsGoodBatch, IsGoodBlock}
use Rattle.saw_checks.specs.Readings.{IsBlockOf}
use Rattle.saw_checks.specs.StructureFaults.{structure_fault, transactions_count}
use Rattle.saw_checks.specs.declared.checked.CheckedBlock.{CheckedBlock}
use Rattle.saw_checks.proofs.Faultless.{faultless_block}
use Rattle.saw_messages.specs.TxShapes.{BatchShape, shape_in}
use Rattle.saw_messages.specs.declared.batch.Batch.{Batch}
use Rattle.saw_messages.specs.declared.block.Block.{Block}
use Rattle.saw_plan.specs.BatchShapes.{transactions_in}
use Rattle.saw_journal.specs.BlockShapes.{Parts}
use Rattle.saw_receipts.specs.Shapes.{batch_in}
use Rattle.saw_journal.proofs.SameParts.{same_parts}

count_in : (batches : List Batch) → transactions_in (map batch_in batches) ≡ transactions_count batches
count_in [] = refl
count_in (batch ∷ batches) =
    let shapes = sum_by-cons (λ (b : BatchShape). length b.txs) (batch_in batch) (map batch_in batches) in
    let read = sum_by-cons (λ (b : Batch). length b.transactions) batch batches in
    omega (arith, shapes, read, length-map batch.transactions shape_in, count_in batches)

module _ (accepts : List ℕ → List ℕ → List ℕ → Bool) where
  -- a batch without fault has a transaction
  no_fewer : (batches : List Batch) → AllByRecursion (IsGoodBatch accepts) batches → length batches ≤ transactions_count batches
  no_fewer [] all = omega arith
  no_fewer (batch ∷ batches) all =
      let count = sum_by-cons (λ (b : Batch). length b.transactions) batch batches in
      omega (arith, count, all.0.some, no_fewer batches all.1)

  module _ (content : List ℕ) (checked : CheckedBlock) (sound : structure_fault accepts content ≡ None) (of : IsBlockOf content checked) where
    good : IsGoodBlock accepts content
    good = (faultless_block accepts content).0 sound

    shapes_are : checked.batches ≡ map batch_in good.read.batches
    shapes_are =
        let decoded : Ok of.read ≡ Ok good.read = sym of.decoded ∙ good.decoded in
        let same : of.read ≡ good.read = cc in
        ap (λ (parts : Parts). parts.batches) (same_parts accepts content checked of sound) ∙ ap (λ (read : Block). map batch_in read.batches) same

    pub few_transactions : transactions_in checked.batches < 2 ^ 32
    few_transactions = omega (arith, ap transactions_in shapes_are ∙ count_in good.read.batches, good.few)

    pub few_batches : length checked.batches < 2 ^ 32
    few_batches =
        let count = ap length shapes_are ∙ length-map good.read.batches batch_in in
        omega (arith, count, no_fewer good.read.batches good.batches, good.few)
