-- What is kept of transactions before any is taken.
use Rattle.std.specs.Prelude.{◌≡◌, ◌≤◌, List, [], length, map, vec_capacity}
use Rattle.std.specs.Global.{Global}
use Rattle.std.specs.List.{AllByRecursion}
use Rattle.std.specs.declared.sync.Arc.{Arc}
use Rattle.saw_machine.specs.Orders.{AreEdgesOf}
use Rattle.saw_messages.specs.TxShapes.{BatchShape}
use Rattle.saw_messages.specs.declared.tx.Tx.{Tx}
use Rattle.saw_plan.specs.BatchShapes.{shapes_of, txs_of}
use Rattle.saw_plan.specs.Precedence.{precedes_in}
use Rattle.saw_ready.specs.Edges.{AreEarlier, AreEdges}
use Rattle.saw_ready.specs.Queues.{IsNew, Waits}
use Rattle.saw_ready.specs.Sets.{IsEmpty}
use Rattle.saw_schedule.specs.Layout.{ends_of, starts_of}
use Rattle.saw_schedule.specs.Shows.{is_edge}
use Rattle.saw_schedule.specs.declared.slots.Slots.{Slots}

-- in the queue all of the transactions wait, each for those that precede it
pub record IsNewQueueOf (batches : List BatchShape) (txs : List (Arc Tx Global)) (queue : Waits) : Type 0 where
  pub new : IsNew queue.preds (starts_of 0 (map length (txs_of batches))) queue
  pub edges : AreEdges queue.preds (length txs)
  pub earlier : AreEarlier queue.preds (length txs)
  pub thin : AreEdgesOf (precedes_in (shapes_of txs)) (is_edge queue.preds)

-- none of the transactions was taken and no batch is settled; there is room for all verdicts
pub record AreNewSlotsOf (batches : List BatchShape) (txs : List (Arc Tx Global)) (slots : Slots) : Type 0 where
  pub queue : IsNewQueueOf batches txs slots.queue
  pub ends : slots.ends.items ≡ ends_of 0 (map length (txs_of batches))
  pub hits_long : length slots.hits ≡ length txs
  pub idle : IsEmpty slots.hits
  pub kept_long : length slots.kept.items ≡ length txs
  pub untaken : AllByRecursion (λ one. one.attempts ≡ 0) slots.kept.items
  pub verdicts : slots.verdicts.items ≡ []
  pub room : length batches ≤ vec_capacity slots.verdicts
  pub none_run : slots.running ≡ 0
