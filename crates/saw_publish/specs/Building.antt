-- What building a candidate answers.
use Rattle.std.specs.Prelude.{◌≡◌, ◌<◌, ⊤, ℕ, Bool, List, [], length, map, Option, Some, None, option_map, Result, Ok, Err}
use Rattle.saw_address.specs.Maps.{StateMap, no_entries}
use Rattle.saw_context.specs.Outcome.{Processors}
use Rattle.saw_merkle.specs.Clashes.{IsClashFor}
use Rattle.saw_merkle.specs.States.{States, map_at}
use Rattle.saw_messages.specs.declared.batch.Batch.{Batch}
use Rattle.saw_plan.specs.StaticRules.{Ids}
use Rattle.saw_receipts.specs.Running.{Runs, RunsBy}
use Rattle.saw_receipts.specs.Heads.{root_behind}
use Rattle.saw_receipts.specs.declared.block.Parent.{Parent}
use Rattle.saw_receipts.specs.Shapes.{batch_in}
use Rattle.saw_rules.specs.Policies.{Policy, first_fault}
use Rattle.saw_rules.specs.declared.policy.Placed.{Placed}
use Rattle.saw_store.specs.declared.fault.StoreFault.TheVariants.{Collision}
use Rattle.saw_publish.specs.Candidates.{Signing, content_of}
use Rattle.saw_publish.specs.Drafts.{Draft, draft_of}
use Rattle.saw_publish.specs.Fates.{losses_from}
use Rattle.saw_publish.specs.declared.candidate.Candidate.{Candidate}
use Rattle.saw_publish.specs.declared.fault.PublishFault.{PublishFault}
use Rattle.saw_publish.specs.declared.fault.PublishFault.TheVariants as faults

-- the map behind a parent: that under its root; before a first block there is nothing
abbrev pub map_before : States → Option Parent → StateMap
map_before states None = no_entries
map_before states (Some parent) = map_at states parent.root

-- the root of that map
abbrev pub root_before : (List ℕ → List ℕ) → Option Parent → List ℕ
root_before hash parent = root_behind hash (option_map (λ parent. parent.root) parent)

-- the fault of the applied batches of a draft as a block by this signer over the parent's map
abbrev pub block_fault : Policy → List ℕ → StateMap → Draft → Option Placed
block_fault policy signer before draft = first_fault policy.fault policy.end_fault before signer (map batch_in draft.applied)

module _ (hash : List ℕ → List ℕ) (policy : Policy) (signing : Signing) (states : States) (parent : Option Parent) where
  -- What is answered with this draft over this map. Where no batch is applied: that none is, with all rejected batches.
  -- Else, where the policy refuses the block: its fault, with all rejected batches. Else the block, or two nodes that
  -- collide, of which one is of the map that it leaves.
  abbrev pub Answers : StateMap → Draft → Result Candidate PublishFault → Type 0
  Answers before draft (Ok made) =
      (0 < length draft.applied) × (block_fault policy signing.key before draft ≡ None)
      × (made.block.items ≡ content_of hash signing parent draft) × (made.dropped ≡ losses_from 0 draft.fates)
  Answers before draft (Err (faults.NothingValid dropped)) = (draft.applied ≡ []) × (dropped ≡ losses_from 0 draft.fates)
  Answers before draft (Err (faults.Policy k fault dropped)) =
      (0 < length draft.applied) × (block_fault policy signing.key before draft ≡ Some (record { k = k; fault = fault }))
      × (dropped ≡ losses_from 0 draft.fates)
  Answers before draft (Err (faults.Collision kept given)) =
      (0 < length draft.applied) × (block_fault policy signing.key before draft ≡ None) × IsClashFor hash states draft.left (Collision kept given)
  Answers before draft (Err fault) = ⊤

  module _ (processors : Processors) (accepts : List ℕ → List ℕ → List ℕ → Bool) (there : Ids) (batches : List Batch) where
    -- what building answers, by some way to run batches one after another
    abbrev pub Builds : Result Candidate PublishFault → Type 0
    Builds result = (runs : Runs) × RunsBy processors runs
        × Answers (map_before states parent) (draft_of accepts policy signing.key runs (map_before states parent) there batches) result

-- a fault that tells nothing of the batches
abbrev pub IsPlain : PublishFault → Type 0
IsPlain faults.PeerFailed = ⊤
IsPlain faults.OutOfMemory = ⊤
IsPlain _ = ⊥
