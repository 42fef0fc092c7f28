-- Batches that were sorted and run, by some way to run them.
use Rattle.std.proofs.Common.{◌≡◌, ◌<◌, ◌≤◌, ◌^◌, ℕ, suc, true, List, [], ◌∷◌, length, map, Option, Some, None, refl, sym, ap, ◌∙◌, arith}
use Rattle.std.specs.Prelude.{option_map}
use Rattle.std.specs.BTreeMap.{is_at}
use Rattle.std.specs.Cmp.{eq_by_cmp_equiv}
use Rattle.std.specs.Cmp.Lexicographic.{nat_list_cmp_total, slice_cmp}
use Rattle.std.specs.List.{list_any}
use Rattle.std.specs.Ordering.{nat_cmp}
use Rattle.std.specs.Str.{bytes_eq}
use Rattle.std.proofs.lemmas.List.{length-map}
use Rattle.std.proofs.lemmas.List.Sums.{sum_by-cons}
use Rattle.std.proofs.lemmas.Map.Text.{is_eq-slice_cmp}
use Rattle.saw_address.specs.Maps.{StateMap}
use Rattle.saw_context.specs.Changed.{AreRising}
use Rattle.saw_context.specs.Outcome.{Processors, map_after}
use Rattle.saw_context.specs.Possible.{MayComeOfAll}
use Rattle.saw_context.specs.Serial.{left_after}
use Rattle.saw_context.specs.declared.batch_result.BatchResult.{BatchResult}
use Rattle.saw_ids.specs.Seen.{is_among}
use Rattle.saw_messages.specs.Reasons.{has_own_reason}
use Rattle.saw_messages.specs.TxShapes.{BatchShape, TxShape}
use Rattle.saw_messages.specs.declared.outcome.Change.{Change}
use Rattle.saw_messages.specs.declared.talk.Turn.{Turn}
use Rattle.saw_plan.specs.BatchShapes.{transactions_in, txs_of}
use Rattle.saw_plan.specs.Sorting.{IsSorted, dropped_by, kept_by}
use Rattle.saw_plan.specs.StaticRules.{Ids, Knows, causes}
use Rattle.saw_plan.specs.declared.known.Known.{Known}
use Rattle.saw_plan.specs.declared.sorted.DropCause.{DropCause}
use Rattle.saw_plan.specs.declared.sorted.Sorted.{Sorted}
use Rattle.saw_receipts.proofs.Ways.{here_are, is_or_here, or_here}
use Rattle.saw_receipts.specs.Running.{Runs, RunsBy}
use Rattle.saw_receipts.specs.declared.loss.LossCause.TheVariants.{Static}
use Rattle.saw_schedule.specs.BatchResults.{AreResultsFor}
use Rattle.saw_publish.specs.Drafts.{run_fate}
use Rattle.saw_publish.specs.Fates.{Fates, further}
use Rattle.saw_publish.specs.Ran.{IsRan, kept_of}
use Rattle.saw_publish.proofs.Drafting.{length-causes}

-- ---- the ids that are known

either_way : (xs ys : List ℕ) → bytes_eq xs ys ≡ bytes_eq ys xs
either_way xs ys = sym (is_eq-slice_cmp xs ys) ∙ (eq_by_cmp_equiv nat_list_cmp_total).symm xs ys ∙ is_eq-slice_cmp ys xs

any_same : (q : List ℕ) (keys : List (List ℕ)) → list_any (is_at (slice_cmp nat_cmp q)) keys ≡ is_among keys q
any_same q [] = refl
any_same q (key ∷ keys) = rw (is_eq-slice_cmp q key, either_way q key, any_same q keys) refl

-- what is known is some ids
pub some_known : (known : Known) → Knows known (record { batches = known.batches.keys; transactions = known.transactions.keys })
some_known known = (λ q. any_same q known.batches.keys, λ q. any_same q known.transactions.keys)

kept_count : (found : List (Option DropCause)) (batches : List BatchShape) → transactions_in (kept_by found batches) ≤ transactions_in batches
kept_count [] batches = omega arith
kept_count (cause ∷ found) [] = omega arith
kept_count (None ∷ found) (batch ∷ batches) =
    let h = kept_count found batches in
    let a = sum_by-cons (λ (batch : BatchShape). length batch.txs) batch (kept_by found batches) in
    let b = sum_by-cons (λ (batch : BatchShape). length batch.txs) batch batches in
    omega (arith, h, a, b)
kept_count (Some cause ∷ found) (batch ∷ batches) =
    let h = kept_count found batches in
    let b = sum_by-cons (λ (batch : BatchShape). length batch.txs) batch batches in
    omega (arith, h, b)

-- as many transactions are planned at most as there are
pub few_planned : (known : Known) (batches : List BatchShape) (sorted : Sorted) → ((there : Ids) → Knows known there → IsSorted there batches sorted)
    → transactions_in batches < 2 ^ 32 → transactions_in sorted.plan.batches < 2 ^ 32
few_planned known batches sorted sorts few =
    let there : Ids = record { batches = known.batches.keys; transactions = known.transactions.keys } in
    let plan = ap transactions_in (sorts there (some_known known)).plan in
    let count = kept_count (causes there batches) batches in
    omega (arith, plan, count, few)

-- ---- results

length-results : (batches : List (List TxShape)) (results : List BatchResult) → AreResultsFor batches results → length results ≡ length batches
length-results [] [] are = refl
length-results [] (result ∷ results) are = absurd are
length-results (txs ∷ batches) [] are = absurd are
length-results (txs ∷ batches) (result ∷ results) are = ap suc (length-results batches results are.1)

module _ (processors : Processors) (own : (tx : TxShape) (turns : List Turn) → has_own_reason (processors.next tx turns) ≡ true) (m : StateMap)
    (batches : List BatchShape) (sorted : Sorted) (results : List BatchResult) (may : MayComeOfAll processors m (txs_of sorted.plan.batches) results)
    (whole : AreResultsFor (txs_of sorted.plan.batches) results) where
  -- what came of the batches that the static rules keep is what some way to run them gives
  pub is_ran : (left_out failed fates : Fates) (changes : List Change)
      → ((found : List (Option DropCause)) → length found ≡ length batches → sorted.dropped ≡ dropped_by 0 found → left_out ≡ map (option_map Static) found)
      → failed ≡ map run_fate results → fates ≡ further left_out failed
      → ((n : StateMap) → map_after n changes ≡ left_after n results) → AreRising changes
      → (there : Ids) → IsSorted there batches sorted
      → (runs : Runs) × RunsBy processors runs × IsRan runs m there batches (record { fates = fates; changes = changes })
  is_ran left_out failed fates changes static failed_are merged left rising there sorts =
      let runs = or_here processors m (txs_of sorted.plan.batches) results in
      let same : runs m (txs_of (kept_of there batches)) ≡ results =
      ap (λ (plan : List BatchShape). runs m (txs_of plan)) (sym sorts.plan) ∙ here_are processors m (txs_of sorted.plan.batches) results in (
        runs,
        is_or_here processors own m (txs_of sorted.plan.batches) results may,
        record {
          sized = ap length same ∙ length-results (txs_of sorted.plan.batches) results whole ∙ length-map sorted.plan.batches (λ (batch : BatchShape). batch.txs)
              ∙ ap length sorts.plan;
          fates = merged ∙ ap (λ left_out. further left_out failed) (static (causes there batches) (length-causes there batches) sorts.dropped)
              ∙ ap (further (map (option_map Static) (causes there batches))) (failed_are ∙ ap (map run_fate) (sym same));
          changes = left m ∙ ap (left_after m) (sym same);
          rising = rising;
        },
      )
