-- Batches one after another, each wholly or not at all.
use Rattle.std.specs.Prelude.{suc, Bool, List, [], ◌∷◌, ◌++◌}
use Rattle.std.specs.List.{list_any}
use Rattle.std.specs.Str.{bytes_eq}
use Rattle.saw_address.specs.Maps.{StateMap}
use Rattle.saw_messages.specs.TxShapes.{TxShape}
use Rattle.saw_messages.specs.declared.outcome.Change.{Change}
use Rattle.saw_messages.specs.declared.outcome.Outcome.{Outcome}
use Rattle.saw_messages.specs.declared.outcome.Outcome.TheVariants as outcomes
use Rattle.saw_context.specs.Outcome.{Processors, outcome_of, map_after}
use Rattle.saw_context.specs.declared.batch_result.BatchResult.{BatchResult}
use Rattle.saw_context.specs.declared.batch_result.BatchResult.TheVariants.{Applied, Failed}

-- a result with one more outcome before it
abbrev pub behind : Outcome → BatchResult → BatchResult
behind outcome (Applied outcomes) = Applied (outcome ∷ outcomes)
behind outcome (Failed t reason) = Failed (suc t) reason

-- an invalid outcome ends the batch
abbrev pub goes_on : Outcome → (List Change → BatchResult) → BatchResult
goes_on (outcomes.Ok changes events) others = behind (outcomes.Ok changes events) (others changes)
goes_on (outcomes.Invalid reason) others = Failed 0 reason

-- the map after outcomes, one after another
abbrev pub map_after_all : StateMap → List Outcome → StateMap
map_after_all m [] = m
map_after_all m (outcomes.Ok changes events ∷ others) = map_after_all (map_after m changes) others
map_after_all m (outcomes.Invalid reason ∷ others) = map_after_all m others

-- the map after a batch: a failed one leaves it as it was
abbrev pub left_by : StateMap → BatchResult → StateMap
left_by m (Applied outcomes) = map_after_all m outcomes
left_by m (Failed t reason) = m

-- whether the transaction names one of these as a dependency
abbrev pub names_one : TxShape → List TxShape → Bool
names_one tx others = list_any (λ id. list_any (λ other. bytes_eq id other.id) others) tx.header.dependencies

-- the transactions of failed batches, once a batch has this result
abbrev pub failed_with : List TxShape → List TxShape → BatchResult → List TxShape
failed_with failed txs (Applied outcomes) = failed
failed_with failed txs (Failed t reason) = failed ++ txs

module _ (processors : Processors) where
  -- what comes of a batch over a map, each transaction over the map that those before it left; the transactions of
  -- failed batches before it are given
  abbrev pub batch_result : List TxShape → StateMap → List TxShape → BatchResult
  batch_result failed m [] = Applied []
  batch_result failed m (tx ∷ txs) = goes_on (outcome_of processors tx m (names_one tx failed)) (λ changes. batch_result failed (map_after m changes) txs)

  abbrev pub serial_from : List TxShape → StateMap → List (List TxShape) → List BatchResult
  serial_from failed m [] = []
  serial_from failed m (txs ∷ batches) =
      batch_result failed m txs
      ∷ serial_from (failed_with failed txs (batch_result failed m txs)) (left_by m (batch_result failed m txs)) batches

  -- the results of batches one after another
  abbrev pub serial : StateMap → List (List TxShape) → List BatchResult
  serial m batches = serial_from [] m batches

-- the map after the batches with these results
abbrev pub left_after : StateMap → List BatchResult → StateMap
left_after m [] = m
left_after m (result ∷ results) = left_after (left_by m result) results
