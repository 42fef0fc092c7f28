-- Every list of steps that ends finished is serial execution.
use Rattle.std.proofs.Common.{◌≡◌, ℕ, suc, ◌+◌, Bool, false, List, [], ◌∷◌, ◌++◌, length, map, Option, Some, slice_get, refl, ap, subst, ◌∙◌, arith}
use Rattle.saw_address.specs.Maps.{StateMap, value_at}
use Rattle.saw_messages.specs.TxShapes.{TxShape}
use Rattle.saw_messages.specs.declared.outcome.Change.{Change}
use Rattle.saw_messages.specs.declared.outcome.Outcome.{Outcome}
use Rattle.saw_messages.specs.declared.outcome.Outcome.TheVariants.{Ok, Invalid}
use Rattle.saw_context.proofs.Coming.{from_told}
use Rattle.saw_context.specs.Outcome.{Processors, map_after}
use Rattle.saw_context.specs.Possible.{ThenOthers, MayCome, MayComeFrom, MayComeOfBatch}
use Rattle.saw_context.specs.Serial.{failed_with, left_by, names_one}
use Rattle.saw_context.specs.declared.batch_result.BatchResult.{BatchResult}
use Rattle.saw_machine.proofs.Runs.{moves-are-serial}
use Rattle.saw_machine.specs.Laws.{IsSerial}
use Rattle.saw_machine.specs.Machine.{State}
use Rattle.saw_machine.specs.Orders.{Map, after}
use Rattle.saw_machine.specs.Serial as machine
use Rattle.saw_plan.specs.BatchShapes.{txs_of}
use Rattle.saw_plan.specs.Precedence.{all_txs}
use Rattle.saw_schedule.proofs.Maps.{Has, has-after, has-left_after, has-left_by}
use Rattle.saw_schedule.proofs.Meetings.{meetings}
use Rattle.saw_schedule.proofs.Numbers.{AreFailed, StandsFrom, failed-next, names-failed, none-failed, stands-behind, stands-first, stands-rest, stands-whole}
use Rattle.saw_schedule.proofs.Replays.{history-legal, history-runs}
use Rattle.saw_schedule.proofs.Truths.{May, MayComeAt, reads-only, steps-true}
use Rattle.saw_schedule.specs.Histories.{moves_of, order_in, sizes_in, start_of, state_of, txs_in}
use Rattle.saw_schedule.specs.Laws.{StepsAreSerial}
use Rattle.saw_schedule.specs.Orders.{order_of}

module _ (processors : Processors) (txs : List TxShape) where
  -- ---- one transaction

  -- what may come by its number may come of the transaction
  one-comes : (n d k : ℕ) (failed : ℕ → Bool) (others : List TxShape) (tx : TxShape) (m : Map) (state : StateMap) (outcome : Outcome)
      → AreFailed txs n failed others → k ≡ n + d → slice_get txs k ≡ Some tx → Has m state
      → May processors txs k m (machine.names_failed (order_of txs) failed k) outcome → MayCome processors tx state (names_one tx others) outcome
  one-comes n d k failed others tx m state outcome are to there has may =
      subst (λ (failed : Bool). MayCome processors tx state failed outcome) (names-failed txs n d k failed others tx are to there)
      (subst (λ (tx : Option TxShape). MayComeAt processors tx m (machine.names_failed (order_of txs) failed k) outcome) there may
      state (λ at covered. has at))

  -- what comes behind an outcome
  goes-on : (Others : List Change → BatchResult → Type 0) (Onward : StateMap → BatchResult → Type 0) (state : StateMap) (outcome : Outcome)
      (result : BatchResult) → ((changes : List Change) (others : BatchResult) → Others changes others → Onward (map_after state changes) others)
      → machine.ThenOthers Others outcome result → ThenOthers Onward state outcome result
  goes-on Others Onward state (Ok changes events) result onward goes = (goes.0, onward changes goes.0 goes.1, goes.2)
  goes-on Others Onward state (Invalid reason) result onward goes = goes

  -- ---- a batch, and all

  -- what may come of a batch by its numbers may come of it
  batch-comes : (n : ℕ) (failed : ℕ → Bool) (others : List TxShape) → AreFailed txs n failed others
      → (k d : ℕ) (batch more : List TxShape) (m : Map) (state : StateMap) (result : BatchResult) → k ≡ n + d → StandsFrom txs k (batch ++ more) → Has m state
      → machine.MayComeOfBatch (order_of txs) (May processors txs) failed k (length batch) m result → MayComeOfBatch processors others state batch result
  batch-comes n failed others are k d [] more m state result to stands has may = may
  batch-comes n failed others are k d (tx ∷ batch) more m state result to stands has may = (
    may.0,
    one-comes n d k failed others tx m state may.0 are to (stands-first txs k tx (batch ++ more) stands) has may.1,
    goes-on (λ changes found. machine.MayComeOfBatch (order_of txs) (May processors txs) failed (suc k) (length batch) (after m changes) found)
        (λ state found. MayComeOfBatch processors others state batch found) state may.0 result
        (λ changes found comes.
        batch-comes n failed others are (suc k) (suc d) batch more (after m changes) (map_after state changes) found (omega arith)
        (stands-rest txs k tx (batch ++ more) stands) (has-after m state changes has) comes) may.2,
  )

  -- what may come by number may come of the batches
  pub all-come : (n : ℕ) (failed : ℕ → Bool) (others : List TxShape) (batches : List (List TxShape)) (m : Map) (state : StateMap) (results : List BatchResult)
      → AreFailed txs n failed others → StandsFrom txs n (all_txs batches) → Has m state
      → machine.MayComeFrom (order_of txs) (May processors txs) m failed n (map length batches) results → MayComeFrom processors others state batches results
  all-come n failed others [] m state results are stands has may = may
  all-come n failed others (batch ∷ batches) m state results are stands has may = (
    may.0,
    may.1,
    batch-comes n failed others are n 0 batch (all_txs batches) m state may.0 (omega arith) stands has may.2,
    all-come (n + length batch) (machine.failed_after failed n (length batch) may.0) (failed_with others batch may.0) batches
        (machine.map_after m may.0) (left_by state may.0) may.1 (failed-next txs n failed others batch (all_txs batches) may.0 are stands)
        (stands-behind txs n (n + length batch) batch (all_txs batches) refl stands) (has-left_by m state may.0 has) may.3,
    may.4,
  )

-- the results are those of serial execution, and the slots show the map that it leaves
pub steps-are-serial : StepsAreSerial
steps-are-serial processors m h own replay are ends =
    let txs : List TxShape = txs_in h in
    let is : IsSerial (order_in h) (May processors txs) (value_at m) (sizes_in h) (state_of h) =
    subst (λ (st : State). st.rest ≡ [] → IsSerial (order_in h) (May processors txs) (value_at m) (sizes_in h) st) (history-runs h)
    (moves-are-serial (order_in h) (May processors txs) (value_at m) (sizes_in h) (moves_of txs (start_of h) h.steps) (meetings txs)
    (reads-only processors txs) (history-legal h replay) (steps-true processors m own txs (start_of h) h.steps are)) ends in
    let comes : MayComeFrom processors [] m (txs_of h.batches) (state_of h).results =
    all-come processors txs 0 (λ j. false) [] (txs_of h.batches) (value_at m) m (state_of h).results (none-failed txs) (stands-whole txs) (λ at. refl) is.results in
    record {
      results = comes;
      told = λ told. from_told processors [] m (txs_of h.batches) (state_of h).results told comes;
      map = λ at. ap (λ (m : Map). m at) is.map ∙ has-left_after (value_at m) m (state_of h).results (λ at. refl) at;
    }
