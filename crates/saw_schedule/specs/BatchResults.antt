-- What is said of results of batches.
use Rattle.std.specs.Prelude.{◌≡◌, ◌<◌, ℕ, ◌+◌, List, [], ◌∷◌, length, Option, Some, None}
use Rattle.std.specs.List.{AllByRecursion}
use Rattle.saw_messages.specs.TxShapes.{TxShape}
use Rattle.saw_messages.specs.declared.outcome.Outcome.{Outcome}
use Rattle.saw_messages.specs.declared.outcome.Outcome.TheVariants as outcomes
use Rattle.saw_messages.specs.declared.outcome.Reason.{Reason}
use Rattle.saw_context.specs.declared.batch_result.BatchResult.{BatchResult}
use Rattle.saw_context.specs.declared.batch_result.BatchResult.TheVariants.{Applied, Failed}

-- the outcome is that of a valid transaction
abbrev pub IsValid : Outcome → Type 0
IsValid (outcomes.Ok changes events) = Unit {0}
IsValid (outcomes.Invalid reason) = ⊥

-- a result that a batch may have: a valid outcome for each transaction, or the index of one
abbrev pub IsResultFor : List TxShape → BatchResult → Type 0
IsResultFor txs (Applied outcomes) = (length outcomes ≡ length txs) × AllByRecursion IsValid outcomes
IsResultFor txs (Failed t reason) = t < length txs

-- results that batches may have, one for each
abbrev pub AreResultsFor : List (List TxShape) → List BatchResult → Type 0
AreResultsFor [] [] = Unit {0}
AreResultsFor [] (result ∷ results) = ⊥
AreResultsFor (txs ∷ batches) [] = ⊥
AreResultsFor (txs ∷ batches) (result ∷ results) = IsResultFor txs result × AreResultsFor batches results

-- the first failed batch by its index, of results of which the first has index k
abbrev pub first_failure : ℕ → List BatchResult → Option (ℕ × ℕ × Reason)
first_failure k [] = None
first_failure k (Applied outcomes ∷ results) = first_failure (k + 1) results
first_failure k (Failed t reason ∷ results) = Some (k, t, reason)
