-- The order of a plan's transactions, by what they declare.
use Rattle.std.specs.Prelude.{ℕ, Bool, List, slice_get}
use Rattle.saw_messages.specs.TxShapes.{TxShape}
use Rattle.saw_context.specs.Conversation.{are_covering}
use Rattle.saw_machine.specs.Orders.{Order}
use Rattle.saw_plan.specs.Precedence.{names_tx, on_tx, precedes_in}

abbrev pub reads_in : List TxShape → ℕ → List ℕ → Bool
reads_in txs i at = on_tx (slice_get txs i) (λ tx. are_covering tx.header.inputs at)

abbrev pub writes_in : List TxShape → ℕ → List ℕ → Bool
writes_in txs i at = on_tx (slice_get txs i) (λ tx. are_covering tx.header.outputs at)

abbrev pub names_in : List TxShape → ℕ → ℕ → Bool
names_in txs i j = on_tx (slice_get txs i) (λ tx. on_tx (slice_get txs j) (λ other. names_tx tx other))

-- the order of numbered transactions
abbrev pub order_of : List TxShape → Order
order_of txs = record { reads = reads_in txs; writes = writes_in txs; precedes = precedes_in txs; names = names_in txs }
