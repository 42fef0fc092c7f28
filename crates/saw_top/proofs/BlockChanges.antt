-- What the events of a block tell of the state is what its batches did to it.
use Rattle.std.proofs.Common.{◌≡◌, ℕ, true, List, [], ◌∷◌, ◌++◌, map, refl, sym, ap, ap₂, subst, ◌∙◌}
use Rattle.std.specs.List.{AllByRecursion, flat_map}
use Rattle.std.proofs.lemmas.Grind.{flat_map-append}
use Rattle.std.proofs.lemmas.List.{map-append}
use Rattle.saw_address.specs.Maps.{StateMap, is_address}
use Rattle.saw_context.proofs.Coming.{changes_addresses}
use Rattle.saw_context.proofs.Each.{all_append}
use Rattle.saw_context.proofs.OnTop.{map_after-append}
use Rattle.saw_context.specs.Outcome.{Processors, map_after}
use Rattle.saw_context.specs.Possible.{ThenOthers, MayComeFrom, MayComeOfAll, MayComeOfBatch}
use Rattle.saw_context.specs.Serial.{behind, failed_with, left_after, left_by, map_after_all, names_one}
use Rattle.saw_context.specs.declared.batch_result.BatchResult.{BatchResult}
use Rattle.saw_context.specs.declared.batch_result.BatchResult.TheVariants.{Applied, Failed}
use Rattle.saw_events.proofs.LastShown.{last_shown}
use Rattle.saw_events.specs.Events.{last_changes}
use Rattle.saw_events.specs.Following.{change_of}
use Rattle.saw_journal.specs.Judgement.{batch_record, batch_records, outcomes_in}
use Rattle.saw_messages.specs.TxShapes.{BatchShape, TxShape}
use Rattle.saw_messages.specs.declared.outcome.Change.{Change}
use Rattle.saw_messages.specs.declared.outcome.Outcome.{Outcome}
use Rattle.saw_messages.specs.declared.outcome.Outcome.TheVariants as outcomes
use Rattle.saw_messages.specs.declared.receipt.Event.{Event}
use Rattle.saw_messages.specs.declared.receipt.Receipt.{Receipt}
use Rattle.saw_messages.specs.declared.receipt.StateChange.{StateChange}
use Rattle.saw_plan.specs.BatchShapes.{ids_of, txs_of}
use Rattle.saw_receipts.specs.Receipts.{receipts, told}
use Rattle.saw_receipts.specs.declared.block.BatchRecord.{BatchRecord}

-- ---- the changes of results

abbrev changes_by : Outcome → List Change
changes_by (outcomes.Ok changes events) = changes
changes_by (outcomes.Invalid reason) = []

abbrev changes_of_batch : BatchResult → List Change
changes_of_batch result = flat_map changes_by (outcomes_in result)

abbrev pub changes_of_all : List BatchResult → List Change
changes_of_all results = flat_map changes_of_batch results

left_by_outcomes : (m : StateMap) (all : List Outcome) → map_after_all m all ≡ map_after m (flat_map changes_by all)
left_by_outcomes m [] = refl
left_by_outcomes m (outcomes.Ok changes events ∷ all) =
    left_by_outcomes (map_after m changes) all ∙ sym (map_after-append m changes (flat_map changes_by all))
left_by_outcomes m (outcomes.Invalid reason ∷ all) = left_by_outcomes m all

left_by_batch : (m : StateMap) (result : BatchResult) → left_by m result ≡ map_after m (changes_of_batch result)
left_by_batch m (Applied all) = left_by_outcomes m all
left_by_batch m (Failed t reason) = refl

-- they leave what the results leave
left_by_all : (m : StateMap) (results : List BatchResult) → left_after m results ≡ map_after m (changes_of_all results)
left_by_all m [] = refl
left_by_all m (result ∷ results) =
    left_by_all (left_by m result) results ∙ ap (λ n. map_after n (changes_of_all results)) (left_by_batch m result)
    ∙ sym (map_after-append m (changes_of_batch result) (changes_of_all results))

-- ---- results that fit

abbrev AtAddresses : List Change → Type 0
AtAddresses changes = AllByRecursion (λ change. is_address change.address ≡ true) changes

-- an outcome for each transaction, with changes at addresses
abbrev AreOutcomes : List TxShape → List Outcome → Type 0
AreOutcomes [] [] = Unit {0}
AreOutcomes [] (outcome ∷ all) = ⊥
AreOutcomes (tx ∷ txs) [] = ⊥
AreOutcomes (tx ∷ txs) (outcome ∷ all) = AtAddresses (changes_by outcome) × AreOutcomes txs all

abbrev IsResult : List TxShape → BatchResult → Type 0
IsResult txs (Applied all) = AreOutcomes txs all
IsResult txs (Failed t reason) = Unit {0}

abbrev AreResults : List (List TxShape) → List BatchResult → Type 0
AreResults [] [] = Unit {0}
AreResults [] (result ∷ results) = ⊥
AreResults (txs ∷ batches) [] = ⊥
AreResults (txs ∷ batches) (result ∷ results) = IsResult txs result × AreResults batches results

module _ (processors : Processors) where
  is_behind : (tx : TxShape) (txs : List TxShape) (outcome : Outcome) (others : BatchResult) → AtAddresses (changes_by outcome)
      → IsResult txs others → IsResult (tx ∷ txs) (behind outcome others)
  is_behind tx txs outcome (Applied all) at is = (at, is)
  is_behind tx txs outcome (Failed t reason) at is = tt

  by_outcome : (failed : List TxShape) (m : StateMap) (tx : TxShape) (txs : List TxShape) (result : BatchResult) (outcome : Outcome)
      → ((changes : List Change) (events : List Event) → outcome ≡ outcomes.Ok changes events → AtAddresses changes)
      → ((n : StateMap) (others : BatchResult) → MayComeOfBatch processors failed n txs others → IsResult txs others)
      → ThenOthers (λ n others. MayComeOfBatch processors failed n txs others) m outcome result → IsResult (tx ∷ txs) result
  by_outcome failed m tx txs result (outcomes.Ok changes events) at later goes =
      subst (IsResult (tx ∷ txs)) (sym goes.2)
      (is_behind tx txs (outcomes.Ok changes events) goes.0 (at changes events refl) (later (map_after m changes) goes.0 goes.1))
  by_outcome failed m tx txs result (outcomes.Invalid reason) at later goes = subst (IsResult (tx ∷ txs)) (sym goes) tt

  is_result : (failed : List TxShape) (m : StateMap) (txs : List TxShape) (result : BatchResult) → MayComeOfBatch processors failed m txs result
      → IsResult txs result
  is_result failed m [] result may = subst (IsResult []) (sym may) tt
  is_result failed m (tx ∷ txs) result may =
      by_outcome failed m tx txs result may.0 (changes_addresses processors tx m (names_one tx failed) may.0 may.1)
      (λ n others comes. is_result failed n txs others comes) may.2

  are_results : (failed : List TxShape) (m : StateMap) (batches : List (List TxShape)) (results : List BatchResult)
      → MayComeFrom processors failed m batches results → AreResults batches results
  are_results failed m [] results may = subst (AreResults []) (sym may) tt
  are_results failed m (txs ∷ batches) results may =
      subst (AreResults (txs ∷ batches)) (sym may.4)
      (is_result failed m txs may.0 may.2, are_results (failed_with failed txs may.0) (left_by m may.0) batches may.1 may.3)

-- ---- what is recorded of them

outcomes_at : (txs : List TxShape) (all : List Outcome) → AreOutcomes txs all → AtAddresses (flat_map changes_by all)
outcomes_at [] [] are = tt
outcomes_at [] (outcome ∷ all) are = absurd are
outcomes_at (tx ∷ txs) [] are = absurd are
outcomes_at (tx ∷ txs) (outcome ∷ all) are =
    all_append (λ change. is_address change.address ≡ true) (changes_by outcome) (flat_map changes_by all) are.0 (outcomes_at txs all are.1)

batch_at : (txs : List TxShape) (result : BatchResult) → IsResult txs result → AtAddresses (changes_of_batch result)
batch_at txs (Applied all) is = outcomes_at txs all is
batch_at txs (Failed t reason) is = tt

all_at : (batches : List (List TxShape)) (results : List BatchResult) → AreResults batches results → AtAddresses (changes_of_all results)
all_at [] [] are = tt
all_at [] (result ∷ results) are = absurd are
all_at (txs ∷ batches) [] are = absurd are
all_at (txs ∷ batches) (result ∷ results) are =
    all_append (λ change. is_address change.address ≡ true) (changes_of_batch result) (changes_of_all results)
    (batch_at txs result are.0) (all_at batches results are.1)

abbrev state_changes_in : List Receipt → List StateChange
state_changes_in all = flat_map (λ receipt. receipt.state_changes) all

outcomes_told : (txs : List TxShape) (all : List Outcome) → AreOutcomes txs all
    → state_changes_in (receipts (ids_of txs) all) ≡ map told (flat_map changes_by all)
outcomes_told [] [] are = refl
outcomes_told [] (outcome ∷ all) are = absurd are
outcomes_told (tx ∷ txs) [] are = absurd are
outcomes_told (tx ∷ txs) (outcomes.Ok changes events ∷ all) are =
    ap (λ others. map told changes ++ others) (outcomes_told txs all are.1) ∙ sym (map-append told changes (flat_map changes_by all))
outcomes_told (tx ∷ txs) (outcomes.Invalid reason ∷ all) are = outcomes_told txs all are.1

batch_told : (batch : BatchShape) (result : BatchResult) → IsResult batch.txs result
    → state_changes_in (batch_record batch result).receipts ≡ map told (changes_of_batch result)
batch_told batch (Applied all) is = outcomes_told batch.txs all is
batch_told batch (Failed t reason) is = none (ids_of batch.txs)
  where
    none : (ids : List (List ℕ)) → state_changes_in (receipts ids []) ≡ []
    none [] = refl
    none (id ∷ ids) = refl

all_told : (shapes : List BatchShape) (results : List BatchResult) → AreResults (txs_of shapes) results
    → state_changes_in (flat_map (λ (batch : BatchRecord). batch.receipts) (batch_records shapes results)) ≡ map told (changes_of_all results)
all_told [] [] are = refl
all_told [] (result ∷ results) are = absurd are
all_told (batch ∷ shapes) [] are = absurd are
all_told (batch ∷ shapes) (result ∷ results) are =
    let others = flat_map (λ (batch : BatchRecord). batch.receipts) (batch_records shapes results) in
    flat_map-append (λ (receipt : Receipt). receipt.state_changes) (batch_record batch result).receipts others
    ∙ ap₂ (λ first later. first ++ later) (batch_told batch result are.0) (all_told shapes results are.1)
    ∙ sym (map-append told (changes_of_batch result) (changes_of_all results))

-- ---- a block

-- the changes that records of batches tell
abbrev pub told_by : List BatchRecord → List Change
told_by batches = map change_of (last_changes (state_changes_in (flat_map (λ (batch : BatchRecord). batch.receipts) batches)))

-- they leave what the batches leave
pub block_told : (processors : Processors) (m : StateMap) (shapes : List BatchShape) (results : List BatchResult)
    → MayComeOfAll processors m (txs_of shapes) results
    → map_after m (told_by (batch_records shapes results)) ≡ left_after m results
block_told processors m shapes results may =
    let are = are_results processors [] m (txs_of shapes) results may in
    ap (λ changes. map_after m (map change_of (last_changes changes))) (all_told shapes results are)
    ∙ last_shown m (changes_of_all results) (all_at (txs_of shapes) results are)
    ∙ sym (left_by_all m results)
