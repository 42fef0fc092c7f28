-- The batches that are sorted, and the rest of the list.
use Rattle.std.proofs.Common.{◌≡◌, ℕ, zero, suc, ◌+◌, ◌<◌, ◌≤◌, List, [], ◌∷◌, ◌++◌, length, drop, get_or, Some, None, Option, refl, sym}
use Rattle.std.proofs.Common.{ap, subst, ◌∙◌, arith}
use Rattle.std.proofs.lemmas.List.{append_assoc, append-nil, drop_more, drop_all}
use Rattle.std.proofs.lemmas.List.Sums.{sum_by-cons}
use Rattle.saw_messages.specs.TxShapes.{BatchShape}
use Rattle.saw_plan.specs.BatchShapes.{transactions_in}
use Rattle.saw_plan.specs.Sorting.{kept_by, places_by, dropped_by, IsSorted}
use Rattle.saw_plan.specs.StaticRules.{Ids, after_batch, after_batches, batch_cause, causes}
use Rattle.saw_plan.specs.SortingSteps.{Sorting, sorting_of, with_batch}
use Rattle.saw_plan.specs.declared.sorted.DropCause.{DropCause}
use Rattle.saw_plan.specs.declared.sorted.Sorted.{Sorted}

-- what is sorted, and then what the rules make of the rest, is what they make of all
pub record SortsRest (there now : Ids) (place : ℕ) (rest all : List BatchShape) (sorting : Sorting) : Type 0 where
  pub plan : sorting.plan ++ kept_by (causes now rest) rest ≡ kept_by (causes there all) all
  pub places : sorting.places ++ places_by place (causes now rest) ≡ places_by 0 (causes there all)
  pub dropped : sorting.dropped ++ dropped_by place (causes now rest) ≡ dropped_by 0 (causes there all)
  pub grown : after_batches now rest ≡ after_batches there all

module _ (place : ℕ) (batch : BatchShape) (others : List (Option DropCause)) (sorting : Sorting) where
  plan_more : (cause : Option DropCause) (rest : List BatchShape)
      → (with_batch cause place batch sorting).plan ++ kept_by others rest ≡ sorting.plan ++ kept_by (cause ∷ others) (batch ∷ rest)
  plan_more None rest = append_assoc sorting.plan (batch ∷ []) (kept_by others rest)
  plan_more (Some cause) rest = refl

  places_more : (cause : Option DropCause) → (with_batch cause place batch sorting).places ++ places_by (place + 1) others ≡ sorting.places
      ++ places_by place (cause ∷ others)
  places_more None = append_assoc sorting.places (place ∷ []) (places_by (place + 1) others)
  places_more (Some cause) = refl

  dropped_more : (cause : Option DropCause) → (with_batch cause place batch sorting).dropped ++ dropped_by (place + 1) others ≡ sorting.dropped
      ++ dropped_by place (cause ∷ others)
  dropped_more None = refl
  dropped_more (Some cause) = append_assoc sorting.dropped (record { place = place; cause = cause } ∷ []) (dropped_by (place + 1) others)

step : (there now : Ids) (place : ℕ) (batch : BatchShape) (rest all : List BatchShape) (sorting : Sorting) → SortsRest there now place (batch ∷ rest) all sorting
    → SortsRest there (after_batch (batch_cause now batch) now batch) (place + 1) rest all (with_batch (batch_cause now batch) place batch sorting)
step there now place batch rest all sorting so_far =
    let cause = batch_cause now batch in
    let others = causes (after_batch cause now batch) rest in
    record {
      plan = plan_more place batch others sorting cause rest ∙ so_far.plan;
      places = places_more place batch others sorting cause ∙ so_far.places;
      dropped = dropped_more place batch others sorting cause ∙ so_far.dropped;
      grown = so_far.grown;
    }

pub goes_on : (there now : Ids) (batches : List BatchShape) (place : ℕ) (batch : BatchShape) → place < length batches → batch ≡ get_or batches place batch
    → (sorting new : Sorting) → new ≡ with_batch (batch_cause now batch) place batch sorting
    → SortsRest there now place (drop place batches) batches sorting
    → SortsRest there (after_batch (batch_cause now batch) now batch) (place + 1) (drop (place + 1) batches) batches new
goes_on there now batches place batch below here sorting new is so_far =
    let cut : drop place batches ≡ batch ∷ drop (place + 1) batches = rw (drop_more batches place batch below, ← here) refl in
    rw is
    (step there now place batch (drop (place + 1) batches) batches sorting
    (subst (λ (rest : List BatchShape). SortsRest there now place rest batches sorting) cut so_far))

-- nothing is sorted, and all is left
pub begins : (there : Ids) (all : List BatchShape) (sorting : Sorting) → sorting ≡ record { plan = []; places = []; dropped = [] }
    → SortsRest there there 0 all all sorting
begins there all sorting is = rw is (record { plan = refl; places = refl; dropped = refl; grown = refl })

-- nothing is left
pub ends : (there now : Ids) (place : ℕ) (batches : List BatchShape) (sorted : Sorted) → length batches ≤ place
    → SortsRest there now place (drop place batches) batches (sorting_of sorted)
    → IsSorted there batches sorted
ends there now place batches sorted over so_far =
    let none = drop_all place batches over in
    let all = subst (λ (rest : List BatchShape). SortsRest there now place rest batches (sorting_of sorted)) none so_far in
    record {
      plan = sym (append-nil (sorting_of sorted).plan) ∙ all.plan;
      places = sym (append-nil (sorting_of sorted).places) ∙ all.places;
      dropped = sym (append-nil (sorting_of sorted).dropped) ∙ all.dropped;
    }

-- and what is known then is what is known after all
pub grown : (there now : Ids) (place : ℕ) (batches : List BatchShape) (sorting : Sorting) → length batches ≤ place
    → SortsRest there now place (drop place batches) batches sorting
    → now ≡ after_batches there batches
grown there now place batches sorting over so_far =
    ap (after_batches now) (sym (drop_all place batches over)) ∙ so_far.grown

-- a batch has no more transactions than all have
few_at : (batches : List BatchShape) (place : ℕ) (d : BatchShape) → place < length batches
    → length (get_or batches place d).txs ≤ transactions_in batches
few_at [] place d below = absurd (omega arith)
few_at (first ∷ batches) zero d below = omega (
  arith,
  sum_by-cons (λ (b : BatchShape). length b.txs) first batches,
)
few_at (first ∷ batches) (suc place) d below = omega (
  arith,
  sum_by-cons (λ (b : BatchShape). length b.txs) first batches,
  few_at batches place d (omega arith),
)

pub few : (batches : List BatchShape) (place : ℕ) (batch : BatchShape) → place < length batches → batch ≡ get_or batches place batch
    → length batch.txs ≤ transactions_in batches
few batches place batch below here = rw here (few_at batches place batch below)
