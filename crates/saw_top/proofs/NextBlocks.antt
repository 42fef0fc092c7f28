-- A block that has no fault behind the head.
use Rattle.std.proofs.Common.{◌≡◌, ℕ, Bool, true, false, List, [], Option, None, Result, Ok, refl, sym, ap, subst, ◌∙◌}
use Rattle.std.specs.Cmp.Lexicographic.{nat_list_eq_equiv}
use Rattle.hex.specs.Hex.{encode_lower}
use Rattle.saw_address.specs.Maps.{StateMap}
use Rattle.saw_checks.specs.StructureFaults.{structure_fault}
use Rattle.saw_context.specs.Serial.{left_after}
use Rattle.saw_context.specs.declared.batch_result.BatchResult.{BatchResult}
use Rattle.saw_journal.specs.BlockFaults.{failure_fault, first_in, ids_before, parent_of, place_tests, policy_fault, root_fault, static_fault}
use Rattle.saw_journal.specs.BlockShapes.{Parts, parts_of}
use Rattle.saw_rules.specs.Policies.{Policy, first_fault}
use Rattle.saw_journal.proofs.Judging.{fault_in}
use Rattle.saw_journal.specs.Judgement.{Kept, Rules, judged, judged_parts, kept_of, rules_by, unless}
use Rattle.saw_journal.specs.Ledger.{Ledger, Says, judged_in}
use Rattle.saw_messages.specs.Blocks.{block, block_header}
use Rattle.saw_messages.specs.TxShapes.{BatchShape}
use Rattle.saw_messages.specs.declared.block.Block.{Block}
use Rattle.saw_messages.specs.declared.block.BlockHeader.{BlockHeader}
use Rattle.saw_node.specs.Trees.{root_of_map}
use Rattle.saw_plan.specs.BatchShapes.{txs_of}
use Rattle.saw_plan.specs.Sorting.{dropped_by}
use Rattle.saw_plan.specs.StaticRules.{Ids, causes}
use Rattle.saw_publish.specs.Drafts.{Draft}
use Rattle.saw_receipts.specs.Heads.{head_of, is_new_head}
use Rattle.saw_receipts.specs.Running.{Runs}
use Rattle.saw_receipts.specs.declared.block.BlockRecord.{BlockRecord}
use Rattle.saw_receipts.specs.declared.verdict.BlockFault.{BlockFault}
use Rattle.saw_receipts.specs.declared.verdict.Verdict.{Verdict}
use Rattle.saw_receipts.specs.declared.verdict.Verdict.TheVariants.{Committed, Stored, Refused}
use Rattle.saw_schedule.specs.BatchResults.{first_failure}
use Rattle.saw_top.specs.CandidateLaws.{IsNext}

-- ---- a judgement without a fault

none_dropped : (there : Ids) (batches : List BatchShape) → dropped_by 0 (causes there batches) ≡ [] → static_fault there batches ≡ None
none_dropped there batches none = rw none refl

none_failed : (results : List BatchResult) → first_failure 0 results ≡ None → failure_fault results ≡ None
none_failed results none = rw none refl

none_refused : (policy : Policy) (before : StateMap) (signer : List ℕ) (batches : List BatchShape)
    → first_fault policy.fault policy.end_fault before signer batches ≡ None → policy_fault policy before signer batches ≡ None
none_refused policy before signer batches none = rw none refl

states_root : (header : BlockHeader) (root : List ℕ) → header.state_root_hash ≡ encode_lower root → root_fault header root ≡ None
states_root header root states = rw (states, nat_list_eq_equiv.refl (encode_lower root)) refl

-- What is true of a block behind others that has no fault: these ids are there, and its batches are run over this map.
pub record IsFaultless (hash : List ℕ → List ℕ) (policy : Policy) (runs : Runs) (blocks : List BlockRecord) (before : StateMap) (there : Ids)
    (parts : Parts) (left : StateMap) : Type 0 where
  pub placed : first_in (place_tests blocks parts.id parts.header) ≡ None
  pub whole : dropped_by 0 (causes there parts.batches) ≡ []
  pub allowed : first_fault policy.fault policy.end_fault before parts.header.signer_public_key parts.batches ≡ None
  pub valid : first_failure 0 (runs before (txs_of parts.batches)) ≡ None
  pub left_is : left_after before (runs before (txs_of parts.batches)) ≡ left
  pub states : parts.header.state_root_hash ≡ encode_lower (root_of_map hash left)

module _ (hash : List ℕ → List ℕ) (policy : Policy) (runs : Runs) (map_behind : Option BlockRecord → StateMap) (blocks : List BlockRecord)
    (parts : Parts) (left : StateMap) where
  -- the same of these parts, which leave this map
  abbrev IsSound : StateMap → Ids → Type 0
  IsSound before there = IsFaultless hash policy runs blocks before there parts left

  judged_sound : IsSound (map_behind (parent_of blocks parts.header)) (ids_before blocks parts.header)
      → judged_parts hash policy runs map_behind blocks parts
      ≡ (let before = map_behind (parent_of blocks parts.header) in Ok (kept_of hash parts before (runs before (txs_of parts.batches))))
  judged_sound is =
      let before = map_behind (parent_of blocks parts.header) in
      let results = runs before (txs_of parts.batches) in
      let placed = is.placed in
      let whole = none_dropped (ids_before blocks parts.header) parts.batches is.whole in
      let valid = none_failed results is.valid in
      let rooted = states_root parts.header (root_of_map hash (left_after before results))
      (is.states ∙ ap (λ m. encode_lower (root_of_map hash m)) (sym is.left_is)) in
      let allowed = none_refused policy before parts.header.signer_public_key parts.batches is.allowed in
      ap (λ found. unless found (kept_of hash parts before results)) (fault_in hash policy blocks before results parts)
      ∙ rw (placed, whole, allowed, valid, rooted) refl

  -- over the map behind it and with the ids before it, the block is kept
  pub judged_over : (before : StateMap) (there : Ids) → map_behind (parent_of blocks parts.header) ≡ before → ids_before blocks parts.header ≡ there
      → IsSound before there → judged_parts hash policy runs map_behind blocks parts ≡ Ok (kept_of hash parts before (runs before (txs_of parts.batches)))
  judged_over before there same ids sound =
      judged_sound (subst (λ (m : StateMap). IsSound m (ids_before blocks parts.header)) (sym same) (subst (IsSound before) (sym ids) sound))
      ∙ ap (λ (m : StateMap). Ok (kept_of hash parts m (runs m (txs_of parts.batches)))) same

  -- a judgement that keeps a block of this number, which leaves this map
  pub record IsKeptOf (result : Result Kept BlockFault) : Type 0 where
    pub kept : Kept
    pub fine : result ≡ Ok kept
    pub number : kept.block.number ≡ parts.header.block_num
    pub left_is : kept.left ≡ left

  pub kept_sound : (before : StateMap) (there : Ids) → map_behind (parent_of blocks parts.header) ≡ before → ids_before blocks parts.header ≡ there
      → IsSound before there → IsKeptOf (judged_parts hash policy runs map_behind blocks parts)
  kept_sound before there same ids sound = record {
    kept = kept_of hash parts before (runs before (txs_of parts.batches));
    fine = judged_over before there same ids sound;
    number = refl;
    left_is = sound.left_is;
  }

-- what comes of bytes without a structure fault is what comes of the block that is read from them
pub judged_read : (hash : List ℕ → List ℕ) (accepts : List ℕ → List ℕ → List ℕ → Bool) (policy : Policy) (runs : Runs) (map_behind : Option BlockRecord → StateMap)
    (blocks : List BlockRecord) (content : List ℕ) (b : Block) (header : BlockHeader) → structure_fault accepts content ≡ None → block content ≡ Ok b
    → block_header b.header ≡ Ok header
    → judged (rules_by hash accepts policy runs) map_behind blocks content ≡ judged_parts hash policy runs map_behind blocks (parts_of b header)
unfolding judged
judged_read hash accepts policy runs map_behind blocks content b header fine read header_read = rw (fine, read, header_read) refl

-- ---- what is said of it

module _ (rules : Rules) (ledger : Ledger) (content : List ℕ) (kept : Kept) (fine : judged_in rules ledger content ≡ Ok kept)
    (head : is_new_head (head_of ledger.blocks) kept.block ≡ true) where
  said_committed : (verdict : Verdict) (new : Ledger) → Says rules ledger content verdict new → verdict ≡ Committed
  said_committed Committed new says = refl
  said_committed Stored new says =
      let same : kept ≡ says.kept = let both = sym fine ∙ says.fine in cc in
      let other : true ≡ false = sym head ∙ ap (λ (kept : Kept). is_new_head (head_of ledger.blocks) kept.block) same ∙ says.head in absurd cc
  said_committed (Refused fault) new says =
      let both = sym fine ∙ says.0 in absurd cc

  pub is_next : (draft : Draft) → kept.left ≡ draft.left → IsNext rules ledger content draft
  is_next draft left = record { kept = kept; fine = fine; head = head; left = left; said = said_committed }
