-- What is known when sorting stops early.
use Rattle.std.proofs.Common.{◌≡◌, ◌⊎◌, ℕ, ◌+◌, ◌<◌, List, [], ◌∷◌, ◌++◌, length, take, get_or, None, Some, Result, Ok, Err, inl, inr, refl, sym, ap, subst, ◌∙◌, arith}
use Rattle.std.specs.Prelude.{OnErr}
use Rattle.std.specs.Arc.{arc_value}
use Rattle.std.specs.Global.{Global}
use Rattle.std.specs.declared.sync.Arc.{Arc}
use Rattle.std.proofs.lemmas.List.{take-map, take_all, take_more}
use Rattle.std.proofs.lemmas.Option.{slice_get-get_or}
use Rattle.saw_messages.specs.TxShapes.{BatchShape, TxShape}
use Rattle.saw_messages.specs.declared.tx.Tx.{Tx}
use Rattle.saw_plan.specs.BatchShapes.{shapes_of, ids_of}
use Rattle.saw_plan.specs.SortingSteps.{KnowsFront, KnowsPart}
use Rattle.saw_plan.specs.StaticRules.{Ids, after_batch, after_batches, batch_cause, with_batch_id, with_transactions}

-- what holds anyway holds behind an error
pub behind_error : {T E Q : Type 0} (r : Result T E) → Q → OnErr r Q
behind_error (Ok value) q = tt
behind_error (Err e) q = q

pub ids-take : (n : ℕ) (txs : List (Arc Tx Global)) → ids_of (shapes_of (take n txs)) ≡ take n (ids_of (shapes_of txs))
ids-take n txs = sym (take-map (λ (tx : TxShape). tx.id) n (shapes_of txs) ∙ ap ids_of (take-map arc_value n txs))

after_batches-push : (there : Ids) (batches : List BatchShape) (batch : BatchShape)
    → after_batches there (batches ++ batch ∷ []) ≡ after_batch (batch_cause (after_batches there batches) batch) (after_batches there batches) batch
after_batches-push there [] batch = refl
after_batches-push there (first ∷ batches) batch = after_batches-push (after_batch (batch_cause there first) there first) batches batch

module _ (there now : Ids) (batches : List BatchShape) (place : ℕ) (batch : BatchShape) (below : place < length batches)
    (here : batch ≡ get_or batches place batch) (is : now ≡ after_batches there (take place batches)) where
  -- one batch more
  pub known_more : after_batch (batch_cause now batch) now batch ≡ after_batches there (take (place + 1) batches)
  known_more =
      ap (λ (ids : Ids). after_batch (batch_cause ids batch) ids batch) is
      ∙ sym (ap (after_batches there) (take_more batches place batch below ∙ ap (λ (b : BatchShape). take place batches ++ b ∷ []) (sym here))
      ∙ after_batches-push there (take place batches) batch)

  -- the next batch is sorted in part, or not at all
  pub front_at : {K : Type 0} (knows : K → Ids → Type 0) (known : K) → knows known now ⊎ KnowsPart knows known now batch
      → KnowsFront knows known there batches
  front_at knows known came = elim came [
    | inl whole ↦ (place, inl (subst (knows known) is whole))
    | inr part ↦ (
      place,
      inr (
        batch,
        slice_get-get_or batches place batch below ∙ ap Some (sym here),
        subst (λ (ids : Ids). KnowsPart knows known ids batch) is part,
      ),
    )
  ]

-- a batch that is kept is known with all of its transactions
pub whole_part : {K : Type 0} (knows : K → Ids → Type 0) (known : K) (there : Ids) (batch : BatchShape) → batch_cause there batch ≡ None
    → knows known (after_batch None there batch) → KnowsPart knows known there batch
whole_part knows known there batch kept all = (
  length (ids_of batch.txs),
  kept,
  subst (λ (ids : List (List ℕ)). knows known (with_transactions (with_batch_id there batch.id) ids))
      (sym (take_all (length (ids_of batch.txs)) (ids_of batch.txs) (omega arith))) all,
)
