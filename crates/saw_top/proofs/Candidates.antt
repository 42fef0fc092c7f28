-- A candidate's block behind the head has no fault.
use Rattle.std.proofs.Common.{◌≡◌, ℕ, false, List, map, Option, None, refl, ap, ◌∙◌}
use Rattle.std.specs.List.{AllByRecursion}
use Rattle.saw_address.specs.Maps.{StateMap}
use Rattle.saw_context.specs.Outcome.{Processors}
use Rattle.saw_context.specs.Serial.{serial}
use Rattle.saw_journal.specs.BlockShapes.{Parts, parts_of}
use Rattle.saw_journal.specs.Judgement.{rules_by}
use Rattle.saw_journal.specs.Ledger.{Ledger, map_under}
use Rattle.saw_journal.specs.Linked.{AreLinked}
use Rattle.saw_messages.specs.ReadBack.{IsBatch}
use Rattle.saw_messages.specs.declared.batch.Batch.{Batch}
use Rattle.saw_messages.specs.declared.block.BlockHeader.{BlockHeader}
use Rattle.saw_node.specs.Trees.{root_of_map}
use Rattle.saw_plan.specs.StaticRules.{Ids}
use Rattle.saw_publish.proofs.AppliedAgain.{applied_apply_again}
use Rattle.saw_publish.proofs.GoodBlocks.{candidate_good}
use Rattle.saw_publish.specs.Building.{block_fault, map_before}
use Rattle.saw_publish.specs.Candidates.{Signing, block_of, content_of, header_of}
use Rattle.saw_publish.specs.Drafts.{Draft}
use Rattle.saw_publish.specs.Laws.{IsSignable, header_bytes}
use Rattle.saw_receipts.specs.Branches.{has_block, ids_in}
use Rattle.saw_receipts.specs.Heads.{head_branch, head_of}
use Rattle.saw_receipts.specs.Running.{Runs}
use Rattle.saw_receipts.specs.declared.block.Parent.{Parent}
use Rattle.saw_rules.specs.Policies.{Policy}
use Rattle.saw_top.specs.CandidateLaws.{CandidateIsAccepted, IsNext, draft_behind, parent_of_head}
use Rattle.saw_top.specs.World.{Accepts}
use Rattle.saw_top.proofs.BehindHead.{IsHead, becomes_head, id_before, ids_are, is_head, map_is, parent_is, placed}
use Rattle.saw_top.proofs.NextBlocks.{IsFaultless, is_next, judged_read, kept_sound}

module _ (hash : List ℕ → List ℕ) (accepts : Accepts) (policy : Policy) (processors : Processors) (signing : Signing) (ledger : Ledger)
    (batches : List Batch) where
  -- the candidate's parent, draft, header and parts; and the map, the ids and the way to run batches by which it is judged
  abbrev parent : Option Parent
  parent = parent_of_head ledger

  abbrev draft : Draft
  draft = draft_behind accepts policy signing.key processors ledger batches

  abbrev header : BlockHeader
  header = header_of signing.key parent draft.applied (root_of_map hash draft.left)

  abbrev parts : Parts
  parts = parts_of (block_of hash signing parent draft) header

  abbrev before : StateMap
  before = map_before ledger.states parent

  abbrev there : Ids
  there = ids_in (head_branch ledger.blocks)

  abbrev runs : Runs
  runs = λ m others. serial processors m others

  faultless : IsHead ledger.blocks (head_of ledger.blocks) → block_fault policy signing.key before draft ≡ None
      → has_block ledger.blocks (signing.signature (header_bytes hash signing parent draft)) ≡ false
      → IsFaultless hash policy runs ledger.blocks before there parts draft.left
  faultless head allowed fresh =
      let again = applied_apply_again accepts policy signing.key processors before there batches in
      record {
        placed = placed signing.key (map (λ (batch : Batch). batch.header_signature) draft.applied) (root_of_map hash draft.left) ledger.blocks
            (head_of ledger.blocks) (signing.signature (header_bytes hash signing parent draft)) head fresh;
        whole = again.0;
        allowed = allowed;
        valid = again.1;
        left_is = again.2;
        states = refl;
      }

  accepted_next : AreLinked ledger.blocks → AllByRecursion IsBatch batches → block_fault policy signing.key before draft ≡ None
      → IsSignable hash accepts signing parent draft
      → has_block ledger.blocks (signing.signature (header_bytes hash signing parent draft)) ≡ false
      → IsNext (rules_by hash accepts policy runs) ledger (content_of hash signing parent draft) draft
  accepted_next linked are allowed signable fresh =
      let content = content_of hash signing parent draft in
      let ids = map (λ (batch : Batch). batch.header_signature) draft.applied in
      let root = root_of_map hash draft.left in
      let top = head_of ledger.blocks in
      let head = is_head ledger.blocks top linked refl in
      let good = candidate_good hash accepts policy signing parent runs before there batches are (id_before ledger.blocks linked) signable in
      let kept = kept_sound hash policy runs (map_under ledger.states) ledger.blocks parts draft.left before there
      (ap (map_under ledger.states) (parent_is signing.key ids root ledger.blocks top head) ∙ map_is ledger.states top)
      (ids_are signing.key ids root ledger.blocks top head) (faultless head allowed fresh) in
      is_next (rules_by hash accepts policy runs) ledger content kept.kept
      (judged_read hash accepts policy runs (map_under ledger.states) ledger.blocks content (block_of hash signing parent draft) header good.2 good.0 good.1
      ∙ kept.fine) (becomes_head top kept.kept.block kept.number) draft kept.left_is

-- a candidate's block behind the head is accepted, and is the new head
pub candidate_accepted : CandidateIsAccepted
candidate_accepted hash accepts policy processors signing ledger batches linked are allowed signable fresh =
    accepted_next hash accepts policy processors signing ledger batches linked are allowed signable fresh
