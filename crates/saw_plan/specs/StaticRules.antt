-- Why batches are dropped, whatever the state.
use Rattle.std.specs.Prelude.{ℕ, ◌+◌, List, [], ◌∷◌, ◌++◌, Option, Some, None, option_map, if◌then◌else◌}
use Rattle.std.specs.Option.{option_or}
use Rattle.saw_ids.specs.Seen.{is_among, HoldsIds}
use Rattle.saw_messages.specs.TxShapes.{BatchShape, TxShape}
use Rattle.saw_plan.specs.BatchShapes.{ids_of}
use Rattle.saw_plan.specs.declared.known.Known.{Known}
use Rattle.saw_plan.specs.declared.sorted.DropCause.{DropCause}
use Rattle.saw_plan.specs.declared.sorted.DropCause.TheVariants.{DuplicateBatch, DuplicateTransaction, MissingDependency}

-- the ids that are there already, those of the batches and those of their transactions
pub record Ids : Type 0 where
  pub batches : List (List ℕ)
  pub transactions : List (List ℕ)

-- exactly these ids are known
abbrev pub Knows : Known → Ids → Type 0
Knows known there = HoldsIds known.batches there.batches × HoldsIds known.transactions there.transactions

-- what is there, and the id of a batch
abbrev pub with_batch_id : Ids → List ℕ → Ids
with_batch_id there id = record { batches = there.batches ++ id ∷ []; transactions = there.transactions }

-- what is there, and ids of transactions
abbrev pub with_transactions : Ids → List (List ℕ) → Ids
with_transactions there ids = record { batches = there.batches; transactions = there.transactions ++ ids }

-- the first dependency that is not among these ids
abbrev pub first_missing : List (List ℕ) → List (List ℕ) → Option (List ℕ)
first_missing ids [] = None
first_missing ids (dependency ∷ others) = if is_among ids dependency then first_missing ids others else Some dependency

-- why the transaction at t drops its batch: it is there already, or a dependency is neither there nor earlier in the batch
abbrev pub tx_cause : List (List ℕ) → List (List ℕ) → ℕ → TxShape → Option DropCause
tx_cause there earlier t tx =
    if is_among there tx.id then Some (DuplicateTransaction t)
    else option_map (MissingDependency t) (first_missing (there ++ earlier) tx.header.dependencies)

-- the same of transactions, of which the first has index t; the first cause decides
abbrev pub txs_cause : List (List ℕ) → List (List ℕ) → ℕ → List TxShape → Option DropCause
txs_cause there earlier t [] = None
txs_cause there earlier t (tx ∷ txs) = option_or (tx_cause there earlier t tx) (txs_cause there (earlier ++ tx.id ∷ []) (t + 1) txs)

-- why a batch is dropped, if it is
abbrev pub batch_cause : Ids → BatchShape → Option DropCause
batch_cause there batch = if is_among there.batches batch.id then Some DuplicateBatch else txs_cause there.transactions [] 0 batch.txs

-- what is there after a batch: a dropped one adds nothing
abbrev pub after_batch : Option DropCause → Ids → BatchShape → Ids
after_batch None there batch = record { batches = there.batches ++ batch.id ∷ []; transactions = there.transactions ++ ids_of batch.txs }
after_batch (Some cause) there batch = there

-- for each batch of a list why it is dropped, if it is
abbrev pub causes : Ids → List BatchShape → List (Option DropCause)
causes there [] = []
causes there (batch ∷ batches) = batch_cause there batch ∷ causes (after_batch (batch_cause there batch) there batch) batches

-- what is there after batches, one after another
abbrev pub after_batches : Ids → List BatchShape → Ids
after_batches there [] = there
after_batches there (batch ∷ batches) = after_batches (after_batch (batch_cause there batch) there batch) batches
