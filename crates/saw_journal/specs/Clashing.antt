-- Clashes of nodes, for which nothing is said of a block.
use Rattle.std.specs.Prelude.{◌≡◌, ⊤, ℕ, Bool, List, Some}
use Rattle.saw_address.specs.Maps.{StateMap}
use Rattle.saw_context.specs.Outcome.{Processors}
use Rattle.saw_merkle.specs.Clashes.{IsClashFor}
use Rattle.saw_merkle.specs.States.{States}
use Rattle.saw_node.specs.Contents.{Node}
use Rattle.saw_receipts.specs.declared.block.BlockRecord.{BlockRecord}
use Rattle.saw_rules.specs.Policies.{Policy}
use Rattle.saw_store.specs.declared.fault.StoreFault.TheVariants.{Collision}
use Rattle.saw_journal.specs.Judgement.{Rules, rules_by, would_leave}
use Rattle.saw_receipts.specs.Running.{Runs}
use Rattle.saw_journal.specs.Ledger.{Ledger, map_under}
use Rattle.saw_receipts.specs.Running.{RunsBy}
use Rattle.saw_journal.specs.declared.fault.JournalFault.{JournalFault}
use Rattle.saw_journal.specs.declared.fault.JournalFault.TheVariants as faults

-- a hash collision that was met: a node of the map that a block would leave, and one of that map or of a known root's
pub record Clashes (rules : Rules) (states : States) (blocks : List BlockRecord) (content : List ℕ)
    (kept given : Node) : Type 0 where
  pub left : StateMap
  pub left_is : would_leave rules (map_under states) blocks content ≡ Some left
  pub clash : IsClashFor rules.hash states left (Collision kept given)

-- what a fault of a call says of nodes: where it tells two, they collide, by some way to run the block's batches
abbrev pub ClashesAs : Processors → (List ℕ → List ℕ) → (List ℕ → List ℕ → List ℕ → Bool) → Policy → Ledger → List ℕ
    → JournalFault → Type 0
ClashesAs processors hash accepts policy old content (faults.Collision kept given) =
    (runs : Runs) × RunsBy processors runs × Clashes (rules_by hash accepts policy runs) old.states old.blocks content kept given
ClashesAs processors hash accepts policy old content _ = ⊤

-- a fault that tells no nodes
abbrev pub TellsNoNodes : JournalFault → Type 0
TellsNoNodes (faults.Collision kept given) = ⊥
TellsNoNodes _ = ⊤
