-- Batches that were sifted and run are a draft.
use Rattle.std.proofs.Common.{◌≡◌, ◌<◌, ◌≤◌, ◌^◌, ℕ, suc, ◌+◌, Bool, List, [], ◌∷◌, length, map, Option, Some, None, refl, sym, ap, subst, ◌∙◌, arith}
use Rattle.std.specs.Prelude.{option_map}
use Rattle.std.proofs.lemmas.List.{length-map}
use Rattle.std.proofs.lemmas.List.Sums.{sum_by-cons}
use Rattle.saw_address.specs.Maps.{StateMap}
use Rattle.saw_checks.specs.BatchFaults.{batch_fault}
use Rattle.saw_context.specs.Serial.{left_after}
use Rattle.saw_messages.specs.TxShapes.{BatchShape, shape_in}
use Rattle.saw_messages.specs.declared.batch.Batch.{Batch}
use Rattle.saw_plan.specs.BatchShapes as shapes
use Rattle.saw_plan.specs.Sorting.{kept_by}
use Rattle.saw_plan.specs.StaticRules.{Ids, after_batch, batch_cause, causes}
use Rattle.saw_plan.specs.declared.sorted.DropCause.{DropCause}
use Rattle.saw_receipts.specs.Running.{Runs}
use Rattle.saw_receipts.specs.Shapes.{batch_in}
use Rattle.saw_receipts.specs.declared.loss.LossCause.TheVariants.{Check, Static}
use Rattle.saw_rules.specs.Policies.{Policy}
use Rattle.saw_publish.specs.Drafts.{check_fates, draft_of, judged_fates, run_fate, static_fates}
use Rattle.saw_publish.specs.Fates.{Fates, further, still_in}
use Rattle.saw_publish.specs.Judging.{IsPassed, policy_fates}
use Rattle.saw_publish.specs.Ran.{IsDraft, IsRan, kept_of}
use Rattle.saw_publish.specs.Room.{encoded, room_fates, transactions_in}
use Rattle.saw_publish.specs.Sifting.{IsSifted, good_of, roomy_of}
use Rattle.saw_publish.specs.declared.judge.Passed.{Passed}
use Rattle.saw_publish.specs.declared.run.Ran.{Ran}
use Rattle.saw_publish.specs.declared.sift.Sifted.{Sifted}
use Rattle.saw_publish.proofs.Applied.{stay-le}
use Rattle.saw_publish.proofs.Judged.{length-policy_fates}
use Rattle.saw_publish.proofs.Roomy.{length-room_fates}
use Rattle.saw_publish.proofs.Staying.{further_again, length-further, length-still_in, staying, still_in_further, still_in_map}

-- what the static rules keep of batches stays in
kept_stay : (found : List (Option DropCause)) (xs : List Batch)
    → kept_by found (map batch_in xs) ≡ map batch_in (still_in (map (option_map Static) found) xs)
kept_stay [] xs = refl
kept_stay (cause ∷ found) [] = refl
kept_stay (None ∷ found) (x ∷ xs) = ap (λ rest. batch_in x ∷ rest) (kept_stay found xs)
kept_stay (Some cause ∷ found) (x ∷ xs) = kept_stay found xs

pub length-causes : (there : Ids) (batches : List BatchShape) → length (causes there batches) ≡ length batches
length-causes there [] = refl
length-causes there (batch ∷ batches) = ap suc (length-causes (after_batch (batch_cause there batch) there batch) batches)

module _ (accepts : List ℕ → List ℕ → List ℕ → Bool) (policy : Policy) (signer : List ℕ) (runs : Runs) (before : StateMap) (there : Ids) (batches : List Batch)
    (sifted : Sifted) (passed : Passed) (ran : Ran) where
  abbrev roomy : List Batch
  roomy = roomy_of (good_of accepts batches)

  abbrev judged : Fates
  judged = judged_fates policy before signer (roomy_of (good_of accepts batches))

  abbrev stay : List Batch
  stay = still_in (judged_fates policy before signer (roomy_of (good_of accepts batches))) (roomy_of (good_of accepts batches))

  sifted_checks : length (room_fates [] (good_of accepts batches)) ≡ staying (check_fates accepts batches)
  sifted_checks = length-room_fates [] (good_of accepts batches)
      ∙ length-still_in (check_fates accepts batches) batches (length-map batches (λ (batch : Batch). option_map Check (batch_fault accepts batch)))

  judged_size : length judged ≡ length roomy
  judged_size = length-policy_fates policy.fault before signer [] (map batch_in roomy) ∙ length-map roomy batch_in

  judged_rooms : length judged ≡ staying (room_fates [] (good_of accepts batches))
  judged_rooms = judged_size ∙ length-still_in (room_fates [] (good_of accepts batches)) (good_of accepts batches) (length-room_fates [] (good_of accepts batches))

  kept_are : kept_of there (map batch_in stay) ≡ map batch_in (still_in (static_fates there stay) stay)
  kept_are = kept_stay (causes there (map batch_in stay)) stay

  static_size : length (static_fates there stay) ≡ length stay
  static_size = length-map (causes there (map batch_in stay)) (option_map Static) ∙ length-causes there (map batch_in stay) ∙ length-map stay batch_in

  -- the fates of each step, from the last to the first
  fates_join : (others : Fates)
      → further (further (further (check_fates accepts batches) (room_fates [] (good_of accepts batches))) judged) others
      ≡ further (check_fates accepts batches) (further (room_fates [] (good_of accepts batches)) (further judged others))
  fates_join others =
      let checks = check_fates accepts batches in
      let rooms = room_fates [] (good_of accepts batches) in
      ap (λ fates. further fates others) (further_again checks rooms judged sifted_checks)
      ∙ further_again checks (further rooms judged) others (length-further rooms judged ∙ sifted_checks)
      ∙ ap (further checks) (further_again rooms judged others judged_rooms)

  module _ (sifts : IsSifted accepts batches sifted) (passes : IsPassed (policy_fates policy.fault before signer [] sifted.batches) sifted passed) where
    fates_same : policy_fates policy.fault before signer [] sifted.batches ≡ judged
    fates_same = ap (policy_fates policy.fault before signer []) sifts.batches

    batches_stay : passed.batches ≡ map batch_in stay
    batches_stay = passes.batches ∙ ap (λ shapes. still_in (policy_fates policy.fault before signer [] shapes) shapes) sifts.batches
        ∙ still_in_map batch_in judged roomy

    encodings_stay : passed.encodings ≡ map encoded stay
    encodings_stay = passes.encodings ∙ ap (λ fates. still_in fates sifted.encodings) fates_same ∙ ap (still_in judged) sifts.encodings
        ∙ still_in_map encoded judged roomy

    fates_passed : passed.fates ≡ further (further (check_fates accepts batches) (room_fates [] (good_of accepts batches))) judged
    fates_passed = passes.fates ∙ ap (further sifted.fates) fates_same ∙ ap (λ fates. further fates judged) sifts.fates

    pub is_draft : IsRan runs before there passed.batches ran → IsDraft before passed ran (draft_of accepts policy signer runs before there batches)
    unfolding draft_of
    is_draft came =
        let of_stay : IsRan runs before there (map batch_in stay) ran =
        subst (λ (shapes : List BatchShape). IsRan runs before there shapes ran) batches_stay came in
        let kept = still_in (static_fates there stay) stay in
        let done = runs before (shapes.txs_of (map batch_in kept)) in
        let same = ap (λ (kept : List BatchShape). runs before (shapes.txs_of kept)) kept_are in
        let fates = of_stay.fates ∙ ap (λ results. further (static_fates there stay) (map run_fate results)) same in
        let sized : length (map run_fate done) ≡ staying (static_fates there stay) =
        length-map done run_fate ∙ ap length (sym same) ∙ of_stay.sized ∙ ap length kept_are ∙ length-map kept batch_in
        ∙ length-still_in (static_fates there stay) stay static_size in
        record {
          fates = ap (λ fates. further fates ran.fates) fates_passed
              ∙ ap (further (further (further (check_fates accepts batches) (room_fates [] (good_of accepts batches))) judged)) fates
              ∙ fates_join _;
          staying = stay;
          batches = batches_stay;
          encodings = encodings_stay;
          applied = ap (λ fates. still_in fates stay) fates
              ∙ still_in_further (static_fates there stay) (map run_fate done) stay static_size sized;
          left = of_stay.changes ∙ ap (left_after before) same;
        }

-- ---- how many there are

shapes_count : (xs : List Batch) → shapes.transactions_in (map batch_in xs) ≡ transactions_in xs
shapes_count [] = refl
shapes_count (x ∷ xs) =
    sum_by-cons (λ (batch : BatchShape). length batch.txs) (batch_in x) (map batch_in xs)
    ∙ ap (λ n. n + shapes.transactions_in (map batch_in xs)) (length-map x.transactions shape_in)
    ∙ ap (λ n. length x.transactions + n) (shapes_count xs) ∙ sym (sum_by-cons (λ (batch : Batch). length batch.transactions) x xs)

length-still_in-le : {A : Type 0} (fates : Fates) (xs : List A) → length (still_in fates xs) ≤ length xs
length-still_in-le [] xs = omega arith
length-still_in-le (fate ∷ fates) [] = omega arith
length-still_in-le (None ∷ fates) (x ∷ xs) = let h = length-still_in-le fates xs in omega (arith, h)
length-still_in-le (Some cause ∷ fates) (x ∷ xs) = let h = length-still_in-le fates xs in omega (arith, h)

transactions_stay-le : (fates : Fates) (xs : List BatchShape) → shapes.transactions_in (still_in fates xs) ≤ shapes.transactions_in xs
transactions_stay-le fates xs = stay-le (λ (batch : BatchShape). length batch.txs) fates xs

-- those that passed are few, and so are their transactions
module _ (accepts : List ℕ → List ℕ → List ℕ → Bool) (batches : List Batch) (sifted : Sifted) (passed : Passed) (more : Fates)
    (sifts : IsSifted accepts batches sifted) (passes : IsPassed more sifted passed) where
  pub few_passed : length batches < 2 ^ 32 → length passed.batches < 2 ^ 32
  few_passed few =
      let good = good_of accepts batches in
      let a = ap length sifts.batches ∙ length-map (roomy_of good) batch_in in
      let b = length-still_in-le (room_fates [] good) good in
      let c = length-still_in-le (check_fates accepts batches) batches in
      let d = ap length passes.batches in
      let e = length-still_in-le more sifted.batches in
      omega (arith, a, b, c, d, e, few)

  pub few_transactions : shapes.transactions_in passed.batches < 2 ^ 32
  few_transactions =
      let a = ap shapes.transactions_in sifts.batches ∙ shapes_count (roomy_of (good_of accepts batches)) ∙ sym sifts.transactions in
      let b = ap shapes.transactions_in passes.batches in
      let c = transactions_stay-le more sifted.batches in
      let few = sifts.few in
      omega (arith, a, b, c, few)

  pub few_fates : length batches < 2 ^ 32 → length passed.fates < 2 ^ 32
  few_fates few =
      let rooms = room_fates [] (good_of accepts batches) in
      let same = ap length passes.fates ∙ length-further sifted.fates more ∙ ap length sifts.fates ∙ length-further (check_fates accepts batches) rooms
      ∙ length-map batches (λ (batch : Batch). option_map Check (batch_fault accepts batch)) in
      omega (arith, same, few)
