-- Batches that the static rules kept, judged again without those that failed.
use mathlib.Core.Bool.{or-false, or_assoc, or_comm}
use Rattle.std.proofs.Common.{◌≡◌, ℕ, ◌+◌, Bool, true, false, List, [], ◌∷◌, ◌++◌, map, Option, Some, None, refl, sym, ap, subst, ◌∙◌}
use Rattle.std.specs.Prelude.{if◌then◌else◌, ◌||◌, option_map}
use Rattle.std.specs.Option.{option_or}
use Rattle.std.specs.List.{list_any}
use Rattle.std.specs.Str.{bytes_eq}
use Rattle.std.proofs.lemmas.Bool.{or_parts}
use Rattle.std.proofs.lemmas.List.Folds.{list_any-append}
use Rattle.saw_address.specs.Maps.{StateMap}
use Rattle.saw_context.specs.Outcome.{Processors}
use Rattle.saw_context.specs.Serial.{batch_result, failed_with, left_by, names_one, serial_from}
use Rattle.saw_context.specs.declared.batch_result.BatchResult.{BatchResult}
use Rattle.saw_context.specs.declared.batch_result.BatchResult.TheVariants.{Applied, Failed}
use Rattle.saw_ids.specs.Seen.{is_among}
use Rattle.saw_messages.specs.TxShapes.{BatchShape, TxShape}
use Rattle.saw_plan.specs.BatchShapes.{ids_of, txs_of}
use Rattle.saw_plan.specs.StaticRules.{Ids, after_batch, batch_cause, first_missing, tx_cause, txs_cause}
use Rattle.saw_plan.specs.declared.sorted.DropCause.{DropCause}
use Rattle.saw_plan.specs.declared.sorted.DropCause.TheVariants.{DuplicateBatch, DuplicateTransaction, MissingDependency}
use Rattle.saw_crew.proofs.Depending.{among-ids}
use Rattle.saw_publish.specs.Drafts.{run_fate}
use Rattle.saw_publish.specs.Fates.{still_in}
use Rattle.saw_publish.proofs.Planned.{IsPlanned}
use Rattle.saw_publish.proofs.SerialAgain.{IsApplied, NameNone, applied_names}

-- ---- what is there in both runs

-- whether the id is that of one of these transactions
abbrev is_one_of : List TxShape → List ℕ → Bool
is_one_of others id = list_any (λ other. bytes_eq id other.id) others

-- all these ids are those and the ones of the transactions that failed
abbrev AreAlso : List (List ℕ) → List (List ℕ) → List TxShape → Type 0
AreAlso all ids failed = (q : List ℕ) → is_among all q ≡ (is_among ids q || is_one_of failed q)

among-append : (a b : List (List ℕ)) (q : List ℕ) → is_among (a ++ b) q ≡ (is_among a q || is_among b q)
among-append a b q = list_any-append (λ other. bytes_eq other q) a b

or_last : (a b c : Bool) → ((a || b) || c) ≡ ((a || c) || b)
or_last a b c = or_assoc a b c ∙ ap (λ d. a || d) (or_comm b c) ∙ sym (or_assoc a c b)

module _ (all ids : List (List ℕ)) (failed : List TxShape) (also : AreAlso all ids failed) where
  also_more : (more : List (List ℕ)) → AreAlso (all ++ more) (ids ++ more) failed
  also_more more = λ q.
      among-append all more q ∙ ap (λ b. b || is_among more q) (also q) ∙ or_last (is_among ids q) (is_one_of failed q) (is_among more q)
      ∙ ap (λ b. b || is_one_of failed q) (sym (among-append ids more q))

  also_failed : (txs : List TxShape) → AreAlso (all ++ ids_of txs) ids (failed ++ txs)
  also_failed txs = λ q.
      among-append all (ids_of txs) q ∙ ap (λ b. b || is_among (ids_of txs) q) (also q)
      ∙ ap (λ b. (is_among ids q || is_one_of failed q) || b) (among-ids txs q) ∙ or_assoc (is_among ids q) (is_one_of failed q) (is_one_of txs q)
      ∙ ap (λ b. is_among ids q || b) (sym (list_any-append (λ other. bytes_eq q other.id) failed txs))

  also_none : (q : List ℕ) → is_among all q ≡ false → is_among ids q ≡ false
  also_none q none = (or_parts (is_among ids q) (is_one_of failed q) (sym (also q) ∙ none)).0

-- ---- one transaction

-- one dependency more
met : (here there named others : Bool) (dependency : List ℕ) (rest again : Option (List ℕ)) → here ≡ (there || named)
    → (if here then rest else Some dependency) ≡ None → (named || others) ≡ false → (rest ≡ None → others ≡ false → again ≡ None)
    → (if there then again else Some dependency) ≡ None
met here there true others dependency rest again is found none next = absurd (cc)
met true true false others dependency rest again is found none next = next found none
met true false false others dependency rest again is found none next = absurd (cc)
met false there false others dependency rest again is found none next = absurd (cc)

-- dependencies that are among all, of which none failed
none_missing : (all ids : List (List ℕ)) (failed : List TxShape) → AreAlso all ids failed → (dependencies : List (List ℕ))
    → first_missing all dependencies ≡ None → list_any (is_one_of failed) dependencies ≡ false → first_missing ids dependencies ≡ None
none_missing all ids failed also [] found none = refl
none_missing all ids failed also (dependency ∷ others) found none =
    met (is_among all dependency) (is_among ids dependency) (is_one_of failed dependency) (list_any (is_one_of failed) others) dependency
    (first_missing all others) (first_missing ids others) (also dependency) found none (none_missing all ids failed also others)

new_and_met : (t : ℕ) (seen : Bool) (missing : Option (List ℕ))
    → (if seen then Some (DuplicateTransaction t) else option_map (MissingDependency t) missing) ≡ None → (seen ≡ false) × (missing ≡ None)
new_and_met t true missing none = absurd (cc)
new_and_met t false (Some id) none = absurd (cc)
new_and_met t false None none = (refl, refl)

no_cause : (t : ℕ) (seen : Bool) (missing : Option (List ℕ)) → seen ≡ false → missing ≡ None
    → (if seen then Some (DuplicateTransaction t) else option_map (MissingDependency t) missing) ≡ None
no_cause t seen missing new met = rw (new, met) refl

both_none : {A : Type 0} (a b : Option A) → option_or a b ≡ None → (a ≡ None) × (b ≡ None)
both_none (Some x) b none = absurd (cc)
both_none None b none = (refl, none)

module _ (all ids : List (List ℕ)) (failed : List TxShape) (also : AreAlso all ids failed) where
  tx_stays : (earlier : List (List ℕ)) (t : ℕ) (tx : TxShape) → tx_cause all earlier t tx ≡ None → names_one tx failed ≡ false
      → tx_cause ids earlier t tx ≡ None
  tx_stays earlier t tx none named =
      let fine = new_and_met t (is_among all tx.id) (first_missing (all ++ earlier) tx.header.dependencies) none in
      no_cause t (is_among ids tx.id) (first_missing (ids ++ earlier) tx.header.dependencies) (also_none all ids failed also tx.id fine.0)
      (none_missing (all ++ earlier) (ids ++ earlier) failed (also_more all ids failed also earlier) tx.header.dependencies fine.1 named)

  txs_stay : (earlier : List (List ℕ)) (t : ℕ) (txs : List TxShape) → txs_cause all earlier t txs ≡ None → NameNone failed txs
      → txs_cause ids earlier t txs ≡ None
  txs_stay earlier t [] none named = refl
  txs_stay earlier t (tx ∷ txs) none named =
      let parts = both_none (tx_cause all earlier t tx) (txs_cause all (earlier ++ tx.id ∷ []) (t + 1) txs) none in
      ap (λ cause. option_or cause (txs_cause ids (earlier ++ tx.id ∷ []) (t + 1) txs)) (tx_stays earlier t tx parts.0 named.0)
      ∙ txs_stay (earlier ++ tx.id ∷ []) (t + 1) txs parts.1 named.1

-- ---- batches

-- the transactions that are there in the first run are those of the second and those that failed; no batch is there in the
-- second alone
record Remain (first second : Ids) (failed : List TxShape) : Type 0 where
  batches : (q : List ℕ) → is_among first.batches q ≡ false → is_among second.batches q ≡ false
  transactions : AreAlso first.transactions second.transactions failed

new_batch : (seen : Bool) (cause : Option DropCause) → (if seen then Some DuplicateBatch else cause) ≡ None → (seen ≡ false) × (cause ≡ None)
new_batch true cause none = absurd (cc)
new_batch false cause none = (refl, none)

module _ (first second : Ids) (failed : List TxShape) (remain : Remain first second failed) (batch : BatchShape) where
  batch_stays : batch_cause first batch ≡ None → NameNone failed batch.txs → batch_cause second batch ≡ None
  batch_stays none named =
      let fine = new_batch (is_among first.batches batch.id) (txs_cause first.transactions [] 0 batch.txs) none in
      ap (λ seen. if seen then Some DuplicateBatch else txs_cause second.transactions [] 0 batch.txs) (remain.batches batch.id fine.0)
      ∙ txs_stay first.transactions second.transactions failed remain.transactions [] 0 batch.txs fine.1 named

  remain_applied : Remain (after_batch None first batch) (after_batch None second batch) failed
  remain_applied = record {
    batches = λ q none.
        let parts = or_parts (is_among first.batches q) (is_among (batch.id ∷ []) q) (sym (among-append first.batches (batch.id ∷ []) q) ∙ none) in
        among-append second.batches (batch.id ∷ []) q ∙ ap (λ b. b || is_among (batch.id ∷ []) q) (remain.batches q parts.0) ∙ parts.1;
    transactions = also_more first.transactions second.transactions failed remain.transactions (ids_of batch.txs);
  }

  remain_failed : Remain (after_batch None first batch) second (failed ++ batch.txs)
  remain_failed = record {
    batches = λ q none.
        remain.batches q (or_parts (is_among first.batches q) (is_among (batch.id ∷ []) q) (sym (among-append first.batches (batch.id ∷ []) q) ∙ none)).0;
    transactions = also_failed first.transactions second.transactions failed remain.transactions batch.txs;
  }

module _ (processors : Processors) where
  -- those of the batches that are applied may all stay
  abbrev AppliedStay : List BatchShape → Ids → List TxShape → StateMap → Type 0
  AppliedStay batches there failed m = IsPlanned there (still_in (map run_fate (serial_from processors failed m (txs_of batches))) batches)

  stay_by : (batch : BatchShape) (batches : List BatchShape) (first second : Ids) (failed : List TxShape) (m : StateMap) (result : BatchResult)
      → batch_result processors failed m batch.txs ≡ result → Remain first second failed → batch_cause first batch ≡ None
      → ((second : Ids) (failed : List TxShape) (m : StateMap) → Remain (after_batch None first batch) second failed → AppliedStay batches second failed m)
      → IsPlanned second (still_in (map run_fate
      (result ∷ serial_from processors (failed_with failed batch.txs result) (left_by m result) (txs_of batches))) (batch ∷ batches))
  stay_by batch batches first second failed m (Failed t reason) is remain none others =
      others second (failed ++ batch.txs) m (remain_failed first second failed remain batch)
  stay_by batch batches first second failed m (Applied outcomes) is remain none others = (
    batch_stays first second failed remain batch none (applied_names processors failed m batch.txs (subst IsApplied (sym is) tt)),
    others (after_batch None second batch) failed (left_by m (Applied outcomes)) (remain_applied first second failed remain batch),
  )

  applied_stay : (batches : List BatchShape) (first second : Ids) (failed : List TxShape) (m : StateMap)
      → Remain first second failed → IsPlanned first batches → AppliedStay batches second failed m
  applied_stay [] first second failed m remain planned = tt
  applied_stay (batch ∷ batches) first second failed m remain planned =
      stay_by batch batches first second failed m (batch_result processors failed m batch.txs) refl remain planned.0
      (λ second failed m remain. applied_stay batches (after_batch None first batch) second failed m remain planned.1)

  -- the applied batches of a plan may all stay
  pub applied_planned : (batches : List BatchShape) (there : Ids) (m : StateMap) → IsPlanned there batches
      → IsPlanned there (still_in (map run_fate (serial_from processors [] m (txs_of batches))) batches)
  applied_planned batches there m planned = applied_stay batches there there [] m
      (record { batches = λ q none. none; transactions = λ q. sym (or-false (is_among there.transactions q)) }) planned
