-- What is true of candidates behind accepted blocks.
use Rattle.std.specs.Prelude.{◌≡◌, ℕ, true, false, List, Option, None, Ok, option_map}
use Rattle.std.specs.List.{AllByRecursion}
use Rattle.saw_context.specs.Outcome.{Processors}
use Rattle.saw_context.specs.Serial.{serial}
use Rattle.saw_journal.specs.Judgement.{Kept, Rules, rules_by}
use Rattle.saw_journal.specs.Ledger.{Ledger, Says, judged_in}
use Rattle.saw_journal.specs.Linked.{AreLinked}
use Rattle.saw_messages.specs.ReadBack.{IsBatch}
use Rattle.saw_messages.specs.declared.batch.Batch.{Batch}
use Rattle.saw_publish.specs.Building.{block_fault, map_before}
use Rattle.saw_publish.specs.Candidates.{Signing, content_of}
use Rattle.saw_publish.specs.Drafts.{Draft, draft_of}
use Rattle.saw_publish.specs.Laws.{IsSignable, header_bytes}
use Rattle.saw_receipts.specs.Branches.{has_block, ids_in}
use Rattle.saw_receipts.specs.Heads.{as_parent, head_branch, head_of, is_new_head}
use Rattle.saw_receipts.specs.declared.block.Parent.{Parent}
use Rattle.saw_receipts.specs.declared.verdict.Verdict.{Verdict}
use Rattle.saw_receipts.specs.declared.verdict.Verdict.TheVariants.{Committed}
use Rattle.saw_rules.specs.Policies.{Policy}
use Rattle.saw_top.specs.World.{Accepts}

-- the head, as the block that a candidate is put behind
abbrev pub parent_of_head : Ledger → Option Parent
parent_of_head ledger = option_map as_parent (head_of ledger.blocks)

-- the draft of batches behind the head in a block by this signer, run one after another over its map
abbrev pub draft_behind : Accepts → Policy → List ℕ → Processors → Ledger → List Batch → Draft
draft_behind accepts policy signer processors ledger batches =
    draft_of accepts policy signer (λ m others. serial processors m others) (map_before ledger.states (parent_of_head ledger))
    (ids_in (head_branch ledger.blocks)) batches

-- A block has no fault behind accepted ones, and is the new head. So whatever is said of it is that it is committed.
pub record IsNext (rules : Rules) (ledger : Ledger) (content : List ℕ) (draft : Draft) : Type 0 where
  pub kept : Kept
  pub fine : judged_in rules ledger content ≡ Ok kept
  pub head : is_new_head (head_of ledger.blocks) kept.block ≡ true
  pub left : kept.left ≡ draft.left
  pub said : (verdict : Verdict) (new : Ledger) → Says rules ledger content verdict new → verdict ≡ Committed

-- The block of a candidate behind the head, which the policy does not refuse, is accepted and the new head, unless an accepted
-- block has its id.
abbrev pub CandidateIsAccepted : Type 0
CandidateIsAccepted =
    (hash : List ℕ → List ℕ) (accepts : Accepts) (policy : Policy) (processors : Processors) (signing : Signing) (ledger : Ledger)
    (batches : List Batch) → AreLinked ledger.blocks → AllByRecursion IsBatch batches
    → (let parent = parent_of_head ledger in let draft = draft_behind accepts policy signing.key processors ledger batches in
    block_fault policy signing.key (map_before ledger.states parent) draft ≡ None → IsSignable hash accepts signing parent draft
    → has_block ledger.blocks (signing.signature (header_bytes hash signing parent draft)) ≡ false
    → IsNext (rules_by hash accepts policy (λ m others. serial processors m others)) ledger (content_of hash signing parent draft) draft)
