-- What is true of the batches that a draft applies.
use Rattle.std.proofs.Common.{◌≡◌, ◌≤◌, ◌+◌, ℕ, Bool, true, false, List, [], ◌∷◌, ◌++◌, length, Option, Some, None, nat_le, refl, sym, subst, arith}
use Rattle.std.specs.Prelude.{if◌then◌else◌, option_map, sum_by}
use Rattle.std.specs.List.{AllByRecursion}
use Rattle.std.proofs.lemmas.Bool.{and_parts, leb-true}
use Rattle.std.proofs.lemmas.List.{append-nil, append_assoc}
use Rattle.std.proofs.lemmas.List.Sums.{sum_by-cons, sum_by_push}
use Rattle.saw_address.specs.Maps.{StateMap}
use Rattle.saw_checks.specs.BatchFaults.{batch_fault}
use Rattle.saw_checks.specs.Laws.{IsGoodBatch}
use Rattle.saw_checks.specs.declared.fault.BatchFault.{BatchFault}
use Rattle.saw_checks.proofs.Faultless.{faultless_batch}
use Rattle.saw_messages.specs.ReadBack.{IsBatch}
use Rattle.saw_messages.specs.declared.batch.Batch.{Batch}
use Rattle.saw_plan.specs.StaticRules.{Ids}
use Rattle.saw_receipts.specs.Running.{Runs}
use Rattle.saw_receipts.specs.declared.loss.LossCause.TheVariants.{Check, Room}
use Rattle.saw_rules.specs.Policies.{Policy}
use Rattle.saw_publish.specs.Drafts.{check_fates, draft_of}
use Rattle.saw_publish.specs.Fates.{Fates, still_in}
use Rattle.saw_publish.specs.Room.{bytes_in, encoded, finds_room, room_fates, transactions_in}

-- ---- what stays in

module _ {A : Type 0} where
  all_stay : (P : A → Type 0) (fates : Fates) (xs : List A) → AllByRecursion P xs → AllByRecursion P (still_in fates xs)
  all_stay P [] xs all = tt
  all_stay P (fate ∷ fates) [] all = tt
  all_stay P (None ∷ fates) (x ∷ xs) all = (all.0, all_stay P fates xs all.1)
  all_stay P (Some cause ∷ fates) (x ∷ xs) all = all_stay P fates xs all.1

  pub stay-le : (f : A → ℕ) (fates : Fates) (xs : List A) → sum_by f (still_in fates xs) ≤ sum_by f xs
  stay-le f [] xs = omega arith
  stay-le f (fate ∷ fates) [] = omega arith
  stay-le f (None ∷ fates) (x ∷ xs) =
      let a = sum_by-cons f x (still_in fates xs) in
      let b = sum_by-cons f x xs in
      let c = stay-le f fates xs in
      omega (arith, a, b, c)
  stay-le f (Some cause ∷ fates) (x ∷ xs) =
      let b = sum_by-cons f x xs in
      let c = stay-le f fates xs in
      omega (arith, b, c)

-- ---- batches that may stand in one block

-- each has no fault, and together they are small
pub record AreFit (accepts : List ℕ → List ℕ → List ℕ → Bool) (batches : List Batch) : Type 0 where
  pub are : AllByRecursion IsBatch batches
  pub good : AllByRecursion (IsGoodBatch accepts) batches
  pub few : transactions_in batches ≤ 20000
  pub small : bytes_in batches ≤ 12582912

stay_fit : (accepts : List ℕ → List ℕ → List ℕ → Bool) (fates : Fates) (batches : List Batch) → AreFit accepts batches
    → AreFit accepts (still_in fates batches)
stay_fit accepts fates batches fit =
    let a = stay-le (λ (batch : Batch). length batch.transactions) fates batches in
    let b = stay-le (λ (batch : Batch). length (encoded batch)) fates batches in
    let few = fit.few in
    let small = fit.small in
    record {
      are = all_stay IsBatch fates batches fit.are;
      good = all_stay (IsGoodBatch accepts) fates batches fit.good;
      few = omega (arith, a, few);
      small = omega (arith, b, small);
    }

-- ---- room

record AreWithin (batches : List Batch) : Type 0 where
  few : transactions_in batches ≤ 20000
  small : bytes_in batches ≤ 12582912

more_within : (there : List Batch) (batch : Batch) → finds_room there batch ≡ true → AreWithin (there ++ batch ∷ [])
more_within there batch fits =
    let transactions = transactions_in there + length batch.transactions in
    let bytes = bytes_in there + length (encoded batch) in
    let parts = and_parts (nat_le transactions 20000) (nat_le bytes 12582912) fits in
    let few = leb-true transactions 20000 parts.0 in
    let small = leb-true bytes 12582912 parts.1 in
    let a = sum_by_push (λ (batch : Batch). length batch.transactions) there batch in
    let b = sum_by_push (λ (batch : Batch). length (encoded batch)) there batch in
    record { few = omega (arith, few, a); small = omega (arith, small, b) }

by_room : (fits : Bool) (there batches : List Batch) (batch : Batch) → finds_room there batch ≡ fits
    → (AreWithin (there ++ batch ∷ []) → AreWithin ((there ++ batch ∷ []) ++ still_in (room_fates (there ++ batch ∷ []) batches) batches))
    → AreWithin (there ++ still_in (room_fates there batches) batches)
    → AreWithin (there
    ++ still_in (if fits then None ∷ room_fates (there ++ batch ∷ []) batches else Some Room ∷ room_fates there batches) (batch ∷ batches))
by_room false there batches batch is more others = others
by_room true there batches batch is more others =
    subst AreWithin (append_assoc there (batch ∷ []) (still_in (room_fates (there ++ batch ∷ []) batches) batches)) (more (more_within there batch is))

roomy_within : (there batches : List Batch) → AreWithin there → AreWithin (there ++ still_in (room_fates there batches) batches)
roomy_within there [] within = subst AreWithin (sym (append-nil there)) within
roomy_within there (batch ∷ batches) within =
    by_room (finds_room there batch) there batches batch refl (roomy_within (there ++ batch ∷ []) batches) (roomy_within there batches within)

-- ---- a draft

module _ (accepts : List ℕ → List ℕ → List ℕ → Bool) where
  by_check : (found : Option BatchFault) (batch : Batch) (batches : List Batch) → batch_fault accepts batch ≡ found
      → AllByRecursion (IsGoodBatch accepts) (still_in (check_fates accepts batches) batches)
      → AllByRecursion (IsGoodBatch accepts) (still_in (option_map Check found ∷ check_fates accepts batches) (batch ∷ batches))
  by_check None batch batches is all = ((faultless_batch accepts batch).0 is, all)
  by_check (Some fault) batch batches is all = all

  checked_good : (batches : List Batch) → AllByRecursion (IsGoodBatch accepts) (still_in (check_fates accepts batches) batches)
  checked_good [] = tt
  checked_good (batch ∷ batches) = by_check (batch_fault accepts batch) batch batches refl (checked_good batches)

  -- those without fault that find room beside one another
  roomy_fit : (batches : List Batch) → AllByRecursion IsBatch batches → AllByRecursion (IsGoodBatch accepts) batches
      → AreFit accepts (still_in (room_fates [] batches) batches)
  roomy_fit batches are good =
      let within = roomy_within [] batches (record { few = omega arith; small = omega arith }) in
      record {
        are = all_stay IsBatch (room_fates [] batches) batches are;
        good = all_stay (IsGoodBatch accepts) (room_fates [] batches) batches good;
        few = within.few;
        small = within.small;
      }

  pub applied_fit : (policy : Policy) (signer : List ℕ) (runs : Runs) (before : StateMap) (there : Ids) (batches : List Batch) → AllByRecursion IsBatch batches
      → AreFit accepts (draft_of accepts policy signer runs before there batches).applied
  unfolding draft_of
  applied_fit policy signer runs before there batches are =
      stay_fit accepts _ _ (stay_fit accepts _ _ (stay_fit accepts _ _ (roomy_fit (still_in (check_fates accepts batches) batches)
      (all_stay IsBatch (check_fates accepts batches) batches are) (checked_good batches))))
