-- What is judged of the bytes of a block: a structure fault, or the parts that they have.
use Rattle.std.proofs.Common.{◌≡◌, ◌⊎◌, inl, inr, ℕ, true, List, Option, Some, None, Ok, Err, Result, refl, sym, ap, ◌∙◌}
use Rattle.saw_address.specs.Maps.{StateMap}
use Rattle.saw_address.specs.Texts.{is_hex_text}
use Rattle.saw_checks.specs.StructureFaults.{structure_fault, structure_fault_by}
use Rattle.saw_checks.specs.declared.fault.StructureFault.{StructureFault}
use Rattle.saw_checks.specs.declared.fault.StructureFault.TheVariants.{Undecodable}
use Rattle.saw_messages.specs.Blocks.{block, block_header}
use Rattle.saw_messages.specs.declared.block.Block.{Block}
use Rattle.saw_messages.specs.declared.block.BlockHeader.{BlockHeader}
use Rattle.saw_plan.specs.BatchShapes.{txs_of}
use Rattle.saw_receipts.specs.declared.block.BlockRecord.{BlockRecord}
use Rattle.saw_receipts.specs.declared.verdict.BlockFault.TheVariants.{Structure}
use Rattle.saw_wire.specs.declared.fault.MessageFault.{MessageFault}
use Rattle.saw_journal.specs.BlockFaults.{fault_by, parent_of}
use Rattle.saw_journal.specs.Judgement.{Kept, Rules, judged, judged_parts, judged_with, kept_of, left_parts, would_leave}
use Rattle.saw_journal.specs.BlockShapes.{Parts, parts_of}
use Rattle.saw_journal.proofs.Judging.{unless_ok}
use Rattle.saw_journal.proofs.Named.{form_of}

module _ (rules : Rules) (content : List ℕ) where
  -- the bytes have a structure fault, whatever stands before them
  pub record IsBad : Type 0 where
    pub fault : StructureFault
    pub judged_as : (f : Option BlockRecord → StateMap) (blocks : List BlockRecord) → judged rules f blocks content ≡ Err (Structure fault)

  -- or these parts, whatever stands before them
  pub record HasParts : Type 0 where
    pub parts : Parts
    pub form : is_hex_text 128 parts.id ≡ true
    pub judged_as : (f : Option BlockRecord → StateMap) (blocks : List BlockRecord)
        → judged rules f blocks content ≡ judged_parts rules.hash rules.policy rules.runs f blocks parts
    pub leaves : (f : Option BlockRecord → StateMap) (blocks : List BlockRecord) → would_leave rules f blocks content ≡ left_parts rules.hash rules.policy rules.runs f blocks parts

  tests_are : (b : Block) (header : BlockHeader) → block content ≡ Ok b → block_header b.header ≡ Ok header
      → structure_fault rules.accepts content ≡ structure_fault_by rules.accepts b (Ok header)
  unfolding structure_fault
  tests_are b header decoded is = rw (decoded, is) refl

  by_header : (b : Block) → block content ≡ Ok b → structure_fault rules.accepts content ≡ None → (read : Result BlockHeader MessageFault)
      → block_header b.header ≡ read → IsBad ⊎ HasParts
  unfolding judged would_leave
  by_header b decoded sound (Err e) is = inl (record { fault = Undecodable e; judged_as = λ f blocks. rw (sound, decoded, is) refl })
  by_header b decoded sound (Ok header) is = inr (record {
    parts = parts_of b header;
    form = form_of rules.accepts b header (sym (tests_are b header decoded is) ∙ sound);
    judged_as = λ f blocks. rw (sound, decoded, is) refl;
    leaves = λ f blocks. rw (sound, decoded, is) refl;
  })

  by_block : structure_fault rules.accepts content ≡ None → (read : Result Block MessageFault) → block content ≡ read → IsBad ⊎ HasParts
  unfolding judged
  by_block sound (Err e) is = inl (record { fault = Undecodable e; judged_as = λ f blocks. rw (sound, is) refl })
  by_block sound (Ok b) is = by_header b is sound (block_header b.header) refl

  by_fault : (found : Option StructureFault) → structure_fault rules.accepts content ≡ found → IsBad ⊎ HasParts
  unfolding judged
  by_fault (Some fault) is = inl (record { fault = fault; judged_as = λ f blocks. rw is refl })
  by_fault None is = by_block is (block content) refl

  pub from_bytes : IsBad ⊎ HasParts
  from_bytes = by_fault (structure_fault rules.accepts content) refl

  -- what is judged of a block sees the map behind its parent only
  pub judged_alike : (f g : Option BlockRecord → StateMap) (blocks : List BlockRecord)
      → ((header : BlockHeader) → f (parent_of blocks header) ≡ g (parent_of blocks header))
      → judged rules f blocks content ≡ judged rules g blocks content
  judged_alike f g blocks agree = elim from_bytes [
    | inl bad ↦ bad.judged_as f blocks ∙ sym (bad.judged_as g blocks)
    | inr is ↦
        is.judged_as f blocks
        ∙ ap (λ m. judged_with rules.hash rules.policy blocks m (rules.runs m (txs_of is.parts.batches)) is.parts) (agree is.parts.header)
        ∙ sym (is.judged_as g blocks)
  ]

  module _ (f : Option BlockRecord → StateMap) (blocks : List BlockRecord) (kept : Kept) where
    -- what a block without fault is made of
    pub record IsFine : Type 0 where
      pub parts : Parts
      pub form : is_hex_text 128 parts.id ≡ true
      pub faultless : let before = f (parent_of blocks parts.header) in
          fault_by rules.hash rules.policy blocks before (rules.runs before (txs_of parts.batches)) parts ≡ None
      pub made : let before = f (parent_of blocks parts.header) in kept_of rules.hash parts before (rules.runs before (txs_of parts.batches)) ≡ kept

    pub is_fine : judged rules f blocks content ≡ Ok kept → IsFine
    is_fine fine = elim from_bytes [
      | inl bad ↦ let same : Err (Structure bad.fault) ≡ Ok kept = sym (bad.judged_as f blocks) ∙ fine in absurd cc
      | inr is ↦
          let before = f (parent_of blocks is.parts.header) in
          let results = rules.runs before (txs_of is.parts.batches) in
          let split = unless_ok (fault_by rules.hash rules.policy blocks before results is.parts) (kept_of rules.hash is.parts before results) kept
          (sym (is.judged_as f blocks) ∙ fine) in
          record { parts = is.parts; form = is.form; faultless = split.0; made = split.1 }
    ]
