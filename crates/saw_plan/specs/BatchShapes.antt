-- The transactions of batches.
use Rattle.std.specs.Prelude.{ℕ, List, length, map, sum_by}
use Rattle.std.specs.Arc.{arc_value}
use Rattle.std.specs.Global.{Global}
use Rattle.std.specs.declared.sync.Arc.{Arc}
use Rattle.saw_messages.specs.TxShapes.{BatchShape, TxShape}
use Rattle.saw_messages.specs.declared.tx.Tx.{Tx}

-- the transactions by themselves
abbrev pub shapes_of : List (Arc Tx Global) → List TxShape
shapes_of txs = map arc_value txs

-- how many transactions batches have in all
abbrev pub transactions_in : List BatchShape → ℕ
transactions_in batches = sum_by (λ batch. length batch.txs) batches

-- the ids of transactions
abbrev pub ids_of : List TxShape → List (List ℕ)
ids_of txs = map (λ tx. tx.id) txs

-- the transactions of each batch
abbrev pub txs_of : List BatchShape → List (List TxShape)
txs_of batches = map (λ batch. batch.txs) batches
