-- What may come of transactions and batches: of a deterministic processor's what its actions decide, and else what a
-- conversation with some processor decides.
use Rattle.std.specs.Prelude.{◌≡◌, Bool, List, [], ◌∷◌}
use Rattle.std.specs.List.{list_all}
use Rattle.saw_address.specs.Maps.{StateMap}
use Rattle.saw_messages.specs.TxShapes.{TxShape}
use Rattle.saw_messages.specs.declared.outcome.Outcome.{Outcome}
use Rattle.saw_messages.specs.declared.outcome.Outcome.TheVariants as outcomes
use Rattle.saw_messages.specs.declared.talk.Action.{Action}
use Rattle.saw_messages.specs.declared.talk.Turn.{Turn}
use Rattle.saw_context.specs.Outcome.{Processors, conversed, map_after, outcome_by, refusal}
use Rattle.saw_context.specs.SoundResults.{AnswersFor}
use Rattle.saw_context.specs.Serial.{behind, failed_with, left_by, names_one}
use Rattle.saw_context.specs.declared.batch_result.BatchResult.{BatchResult}
use Rattle.saw_context.specs.declared.batch_result.BatchResult.TheVariants.{Applied, Failed}

-- whether the transaction goes to a processor whose actions are told
abbrev pub is_told : Processors → TxShape → Bool
is_told processors tx = processors.tells tx.header.family_name tx.header.family_version

-- whether each of these does
abbrev pub all_told : Processors → List TxShape → Bool
all_told processors txs = list_all (is_told processors) txs

-- the same of batches
abbrev pub are_told : Processors → List (List TxShape) → Bool
are_told processors batches = list_all (all_told processors) batches

-- An outcome that a transaction may have over a map, by the first of the cases that holds: a reason before any
-- conversation, or what the conversation with what answers for it decides.
pub record MayCome (processors : Processors) (tx : TxShape) (m : StateMap) (failed : Bool) (outcome : Outcome) : Type 0 where
  pub next : List Turn → Action
  pub answers : AnswersFor processors tx next
  pub decided : outcome ≡ outcome_by (refusal processors tx) failed (conversed next tx.header m)

-- what comes behind the outcome of a batch's first transaction: an invalid one ends the batch
abbrev pub ThenOthers : (StateMap → BatchResult → Type 0) → StateMap → Outcome → BatchResult → Type 0
ThenOthers Others m (outcomes.Ok changes events) result =
    (others : BatchResult) × Others (map_after m changes) others × (result ≡ behind (outcomes.Ok changes events) others)
ThenOthers Others m (outcomes.Invalid reason) result = result ≡ Failed 0 reason

module _ (processors : Processors) where
  -- what may come of a batch over a map, each transaction over the map that those before it left; the transactions of
  -- failed batches before it are given
  abbrev pub MayComeOfBatch : List TxShape → StateMap → List TxShape → BatchResult → Type 0
  MayComeOfBatch failed m [] result = result ≡ Applied []
  MayComeOfBatch failed m (tx ∷ txs) result =
      (outcome : Outcome) × MayCome processors tx m (names_one tx failed) outcome
      × ThenOthers (λ n others. MayComeOfBatch failed n txs others) m outcome result

  abbrev pub MayComeFrom : List TxShape → StateMap → List (List TxShape) → List BatchResult → Type 0
  MayComeFrom failed m [] results = results ≡ []
  MayComeFrom failed m (txs ∷ batches) results =
      (result : BatchResult) × (others : List BatchResult) × MayComeOfBatch failed m txs result
      × MayComeFrom (failed_with failed txs result) (left_by m result) batches others × (results ≡ result ∷ others)

  -- results that batches may have, run one after another over a map
  abbrev pub MayComeOfAll : StateMap → List (List TxShape) → List BatchResult → Type 0
  MayComeOfAll m batches results = MayComeFrom [] m batches results
