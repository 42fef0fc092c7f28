-- How a batch goes on and ends.
use Rattle.std.proofs.Common.{◌≡◌, ℕ, ◌+◌, ◌<◌, List, [], ◌∷◌, ◌++◌, length, length-append, drop, get_or, add-one, drop-cons, refl, sym, ap, subst, ◌∙◌}
use Rattle.std.specs.Arc.{arc_value}
use Rattle.std.specs.declared.sync.Arc.{Arc}
use Rattle.std.specs.Global.{Global}
use Rattle.saw_address.specs.Maps.{StateMap}
use Rattle.saw_messages.specs.TxShapes.{TxShape}
use Rattle.saw_messages.specs.declared.outcome.Change.{Change}
use Rattle.saw_messages.specs.declared.outcome.Outcome.{Outcome}
use Rattle.saw_messages.specs.declared.outcome.Outcome.TheVariants as outcomes
use Rattle.saw_messages.specs.declared.outcome.Reason.{Reason}
use Rattle.saw_messages.specs.declared.receipt.Event.{Event}
use Rattle.saw_messages.specs.declared.tx.Tx.{Tx}
use Rattle.saw_context.specs.Outcome.{Processors, map_after}
use Rattle.saw_context.specs.Possible.{MayCome, MayComeOfBatch}
use Rattle.saw_context.specs.Serial.{behind, names_one}
use Rattle.saw_context.specs.declared.batch_result.BatchResult.{BatchResult}
use Rattle.saw_context.specs.declared.batch_result.BatchResult.TheVariants.{Applied, Failed}
use Rattle.saw_plan.specs.BatchShapes.{shapes_of}

-- ---- a batch

-- a result with these outcomes before it
abbrev pub in_front : List Outcome → BatchResult → BatchResult
in_front [] result = result
in_front (outcome ∷ before) result = behind outcome (in_front before result)

pub in_front-push : (before : List Outcome) (outcome : Outcome) (result : BatchResult)
    → in_front (before ++ outcome ∷ []) result ≡ in_front before (behind outcome result)
in_front-push [] outcome result = refl
in_front-push (first ∷ before) outcome result = ap (behind first) (in_front-push before outcome result)

pub in_front-Applied : (before : List Outcome) → in_front before (Applied []) ≡ Applied before
in_front-Applied [] = refl
in_front-Applied (first ∷ before) = ap (behind first) (in_front-Applied before)

pub in_front-Failed : (before : List Outcome) (reason : Reason) → in_front before (Failed 0 reason) ≡ Failed (length before) reason
in_front-Failed [] reason = refl
in_front-Failed (first ∷ before) reason = ap (behind first) (in_front-Failed before reason)

-- whatever may come of the rest over the map, these outcomes before it may come of the batch over the start
pub record HasRun (processors : Processors) (failed : List TxShape) (start : StateMap) (all : List TxShape) (before : List Outcome) (m : StateMap)
    (rest : List TxShape) : Type 0 where
  pub so_far : (result : BatchResult) → MayComeOfBatch processors failed m rest result → MayComeOfBatch processors failed start all (in_front before result)

module _ (processors : Processors) (failed : List TxShape) (start : StateMap) (all : List TxShape) (before : List Outcome) (m : StateMap) where
  module _ (tx : TxShape) (txs : List TxShape) (run : HasRun processors failed start all before m (tx ∷ txs)) where
    -- a transaction that is applied
    pub run_more : (after : StateMap) (changes : List Change) (events : List Event)
        → MayCome processors tx m (names_one tx failed) (outcomes.Ok changes events) → after ≡ map_after m changes
        → HasRun processors failed start all (before ++ outcomes.Ok changes events ∷ []) after txs
    run_more after changes events may changed = record {
      so_far = λ result comes.
          subst (MayComeOfBatch processors failed start all) (sym (in_front-push before (outcomes.Ok changes events) result))
          (run.so_far (behind (outcomes.Ok changes events) result)
          (outcomes.Ok changes events, may, (result, subst (λ (n : StateMap). MayComeOfBatch processors failed n txs result) changed comes, refl)));
    }

    -- one that is invalid ends the batch
    pub run_failed : (reason : Reason) → MayCome processors tx m (names_one tx failed) (outcomes.Invalid reason)
        → MayComeOfBatch processors failed start all (Failed (length before) reason)
    run_failed reason may = subst (MayComeOfBatch processors failed start all) (in_front-Failed before reason)
        (run.so_far (Failed 0 reason) (outcomes.Invalid reason, may, refl))

  -- no more transactions
  pub run_ended : (rest : List TxShape) → rest ≡ [] → HasRun processors failed start all before m rest
      → MayComeOfBatch processors failed start all (Applied before)
  run_ended rest none run =
      subst (MayComeOfBatch processors failed start all) (in_front-Applied before)
      (run.so_far (Applied []) (subst (λ (txs : List TxShape). MayComeOfBatch processors failed m txs (Applied [])) (sym none) refl))

pub length-push : (before : List Outcome) (outcome : Outcome) (n : ℕ) → length before ≡ n → length (before ++ outcome ∷ []) ≡ n + 1
length-push before outcome n is = length-append before (outcome ∷ []) ∙ ap (λ (k : ℕ). k + 1) is

-- the transactions from an index on: that one, and those behind it
pub shapes-drop : (txs : List (Arc Tx Global)) (i : ℕ) (tx : Arc Tx Global) → i < length txs → tx ≡ get_or txs i tx
    → shapes_of (drop i txs) ≡ arc_value tx ∷ shapes_of (drop (i + 1) txs)
shapes-drop txs i tx below is =
    let cut : drop i txs ≡ get_or txs i tx ∷ drop (i + 1) txs = rw add-one (drop-cons txs i tx below) in
    ap shapes_of cut ∙ ap (λ t. arc_value t ∷ shapes_of (drop (i + 1) txs)) (sym is)
