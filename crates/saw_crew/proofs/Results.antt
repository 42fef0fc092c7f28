-- Results that may come fit their batches.
use Rattle.std.proofs.Common.{suc, List, [], ◌∷◌, refl, sym, ap, subst, arith}
use Rattle.saw_address.specs.Maps.{StateMap}
use Rattle.saw_messages.specs.TxShapes.{TxShape}
use Rattle.saw_messages.specs.declared.outcome.Outcome.{Outcome}
use Rattle.saw_messages.specs.declared.outcome.Outcome.TheVariants as outcomes
use Rattle.saw_context.specs.Outcome.{Processors, map_after}
use Rattle.saw_context.specs.Possible.{ThenOthers, MayComeFrom, MayComeOfBatch}
use Rattle.saw_context.specs.Serial.{behind, failed_with, left_by}
use Rattle.saw_context.specs.declared.batch_result.BatchResult.{BatchResult}
use Rattle.saw_context.specs.declared.batch_result.BatchResult.TheVariants.{Applied, Failed}
use Rattle.saw_schedule.specs.BatchResults.{AreResultsFor, IsResultFor, IsValid}

-- a valid outcome before a result
one-before : (tx : TxShape) (txs : List TxShape) (outcome : Outcome) (result : BatchResult) → IsValid outcome → IsResultFor txs result
    → IsResultFor (tx ∷ txs) (behind outcome result)
one-before tx txs outcome (Applied outcomes) valid is = (ap suc is.0, (valid, is.1))
one-before tx txs outcome (Failed t reason) valid is = omega (arith, is)

module _ (processors : Processors) where
  fits-batch : (failed : List TxShape) (m : StateMap) (txs : List TxShape) (result : BatchResult) → MayComeOfBatch processors failed m txs result
      → IsResultFor txs result
  fits-batch failed m [] result comes = rw comes (refl, tt)
  fits-batch failed m (tx ∷ txs) result (outcome, may, goes) = go outcome goes (λ n others comes. fits-batch failed n txs others comes)
    where
      go : (outcome : Outcome) → ThenOthers (λ n others. MayComeOfBatch processors failed n txs others) m outcome result
          → ((n : StateMap) (others : BatchResult) → MayComeOfBatch processors failed n txs others → IsResultFor txs others)
          → IsResultFor (tx ∷ txs) result
      go (outcomes.Ok changes events) (others, comes, is) more =
          subst (IsResultFor (tx ∷ txs)) (sym is) (one-before tx txs (outcomes.Ok changes events) others tt (more (map_after m changes) others comes))
      go (outcomes.Invalid reason) is more = subst (IsResultFor (tx ∷ txs)) (sym is) (omega arith)

  pub fit-all : (failed : List TxShape) (m : StateMap) (batches : List (List TxShape)) (results : List BatchResult)
      → MayComeFrom processors failed m batches results → AreResultsFor batches results
  fit-all failed m [] results comes = rw comes tt
  fit-all failed m (txs ∷ batches) results (result, others, batch, rest, is) =
      subst (AreResultsFor (txs ∷ batches)) (sym is)
      (fits-batch failed m txs result batch, fit-all (failed_with failed txs result) (left_by m result) batches others rest)
