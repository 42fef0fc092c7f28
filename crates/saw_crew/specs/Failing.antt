-- What comes of transactions and batches where some before them failed.
use Rattle.std.specs.Prelude.{◌≡◌, ℕ, Bool, true, false, List, [], ◌∷◌, ◌++◌}
use Rattle.std.specs.BTreeSet.{BTreeSet}
use Rattle.saw_address.specs.Maps.{StateMap}
use Rattle.saw_ids.specs.Seen.{HoldsIds}
use Rattle.saw_messages.specs.TxShapes.{TxShape}
use Rattle.saw_messages.specs.declared.outcome.Outcome.{Outcome}
use Rattle.saw_context.specs.Outcome.{Processors}
use Rattle.saw_context.specs.Possible.{MayCome, MayComeOfBatch}
use Rattle.saw_context.specs.Serial.{failed_with, left_by, names_one}
use Rattle.saw_context.specs.declared.batch_result.BatchResult.{BatchResult}
use Rattle.saw_plan.specs.BatchShapes.{ids_of}

-- the set has the ids of exactly these transactions
abbrev pub HoldsTxs : BTreeSet (List ℕ) → List TxShape → Type 0
HoldsTxs seen txs = HoldsIds seen (ids_of txs)

-- the outcome may come of a transaction over a map, whatever transactions of failed batches the ids are of
abbrev pub IsOutcome : Processors → BTreeSet (List ℕ) → StateMap → TxShape → Outcome → Type 0
IsOutcome processors seen m tx outcome =
    (failed : List TxShape) → HoldsTxs seen failed → MayCome processors tx m (names_one tx failed) outcome

-- the same of the result of a batch
abbrev pub IsBatchResult : Processors → BTreeSet (List ℕ) → StateMap → List TxShape → BatchResult → Type 0
IsBatchResult processors seen m txs result =
    (failed : List TxShape) → HoldsTxs seen failed → MayComeOfBatch processors failed m txs result

-- one more batch was run: its result stands behind those before it, and what it leaves is left
pub record IsNext (processors : Processors) (m : StateMap) (seen : BTreeSet (List ℕ)) (txs : List TxShape) (before : List BatchResult)
    (m' : StateMap) (seen' : BTreeSet (List ℕ)) (results : List BatchResult) : Type 0 where
  pub came : BatchResult
  pub result : IsBatchResult processors seen m txs came
  pub left : m' ≡ left_by m came
  pub failed : (others : List TxShape) → HoldsTxs seen others → HoldsTxs seen' (failed_with others txs came)
  pub all : results ≡ before ++ came ∷ []

-- the same if it stands here; else all is as it was
abbrev pub IsNextIf : Bool → Processors → StateMap → BTreeSet (List ℕ) → List TxShape → List BatchResult → StateMap → BTreeSet (List ℕ) → List BatchResult → Type 0
IsNextIf true processors m seen txs before m' seen' results = IsNext processors m seen txs before m' seen' results
IsNextIf false processors m seen txs before m' seen' results = (m' ≡ m) × (seen' ≡ seen) × (results ≡ before)
