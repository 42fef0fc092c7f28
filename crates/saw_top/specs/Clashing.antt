-- Two different nodes of one hash, as a fault tells them, and of which maps they are.
use Rattle.std.specs.Prelude.{◌≡◌, ◌≢◌, ◌⊎◌, ⊤, ℕ, List}
use Rattle.std.specs.FinMap as finite
use Rattle.saw_address.specs.Maps.{StateMap, no_entries}
use Rattle.saw_context.specs.Outcome.{Processors}
use Rattle.saw_journal.specs.Clashing.{Clashes}
use Rattle.saw_journal.specs.Ledger.{Ledger}
use Rattle.saw_node.specs.Hashes.{first_half}
use Rattle.saw_node.specs.Nodes.{encoding_of, shape_of}
use Rattle.saw_node.specs.Trees.{IsNodeOf}
use Rattle.saw_node.specs.Contents.{Node}
use Rattle.saw_receipts.specs.Running.{Runs, RunsBy}
use Rattle.saw_report.specs.declared.run_fault.RunFault.{RunFault}
use Rattle.saw_report.specs.declared.run_fault.RunFault.TheVariants.{Blocks, Collision, Memory, Peer}
use Rattle.saw_top.specs.History.{IsAmong}
use Rattle.saw_top.specs.World.{Accepts, rules_with}

-- two different nodes of one hash
abbrev pub AreAlike : Node → Node → Type 0
AreAlike kept given = (shape_of kept ≢ shape_of given)
    × (first_half (encoding_of (shape_of kept)) ≡ first_half (encoding_of (shape_of given)))

-- where a fault tells two nodes, they are such
abbrev pub TellsAlike : RunFault → Type 0
TellsAlike (Collision kept given) = AreAlike kept given
TellsAlike fault = ⊤

-- and they collide as a block is judged behind a journal, by some way to run its batches
abbrev pub ClashesBy : Processors → Accepts → Ledger → List ℕ → RunFault → Type 0
ClashesBy processors accepts old content (Collision kept given) = (runs : Runs) × RunsBy processors runs
    × Clashes (rules_with first_half accepts runs) old.states old.blocks content kept given
ClashesBy processors accepts old content fault = ⊤

-- two nodes that collide: the given one is of a map, and the kept one of that map, of the empty one, or of one among
-- others
pub record ClashIn (hash : List ℕ → List ℕ) (m : StateMap) (others : List StateMap) (kept given : Node) : Type 0 where
  pub given_of : IsNodeOf hash (finite.entries m) (shape_of given)
  pub kept_of : (of : StateMap) × ((of ≡ m) ⊎ ((of ≡ no_entries) ⊎ IsAmong of others))
      × IsNodeOf hash (finite.entries of) (shape_of kept)
  pub alike : AreAlike kept given

-- a fault of a block without verdict: no room, two nodes of one hash, a failed processor or want of memory
abbrev pub LeavesUnjudged : RunFault → Type 0
LeavesUnjudged Blocks = ⊤
LeavesUnjudged (Collision kept given) = AreAlike kept given
LeavesUnjudged Peer = ⊤
LeavesUnjudged Memory = ⊤
LeavesUnjudged fault = ⊥
