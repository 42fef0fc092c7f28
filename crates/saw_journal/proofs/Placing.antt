-- The tests of a block's place, by the parent that is found.
use Rattle.std.proofs.Common.{◌≡◌, ◌≢◌, ℕ, Bool, true, false, List, Option, Some, None, refl, sym, ap, ◌∙◌, Bor}
use Rattle.std.specs.Prelude.{◌&&◌, ◌==◌, codes, is_none, is_some, nat_eq, not, option_copied, if◌then◌else◌}
use Rattle.std.specs.List.{starts_with}
use Rattle.std.proofs.lemmas.Bool.{eq-eqb, ne_eqb}
use Rattle.saw_messages.specs.declared.block.BlockHeader.{BlockHeader}
use Rattle.saw_receipts.specs.declared.block.BlockRecord.{BlockRecord}
use Rattle.saw_receipts.specs.declared.verdict.BlockFault.TheVariants.{BlockNumber, Consensus, PreviousUnknown}
use Rattle.saw_journal.specs.BlockFaults.{due_behind, first_in, is_first, parent_of, place_tests}
use Rattle.saw_receipts.specs.Branches.{block_at, has_block, has_first}
use Rattle.saw_journal.proofs.Lookups.{copied_is_some, is_there}

by_first : (first : Bool) (others : Option BlockRecord) (has : Bool) → is_some others ≡ has
    → (not first && not (is_some (if first then None else others))) ≡ (not first && not has)
by_first true others has e = refl
by_first false others has e = ap not e

module _ (blocks : List BlockRecord) (id : List ℕ) (header : BlockHeader) (parent : Option (Bor BlockRecord))
    (is : option_copied parent ≡ parent_of blocks header) where
  -- no parent is found exactly where the block states one that is not there
  unknown_is : (not (is_first header) && is_none parent) ≡ (not (is_first header) && not (has_block blocks header.previous_block_id))
  unknown_is =
      ap (λ b. not (is_first header) && b) (ap not (copied_is_some parent ∙ ap is_some is))
      ∙ by_first (is_first header) (block_at blocks header.previous_block_id) (has_block blocks header.previous_block_id)
      (is_there blocks header.previous_block_id)

  module _ (fresh : has_block blocks id ≡ false) (once : (is_first header && has_first blocks) ≡ false) where
    pub unknown : (not (is_first header) && is_none parent) ≡ true → first_in (place_tests blocks id header) ≡ Some PreviousUnknown
    unknown none = let here = sym unknown_is ∙ none in rw (fresh, once, here) refl

    module _ (there : (not (is_first header) && is_none parent) ≡ false) (due : ℕ) (due_is : due ≡ due_behind (option_copied parent)) where
      known : (not (is_first header) && not (has_block blocks header.previous_block_id)) ≡ false
      known = sym unknown_is ∙ there

      due_at : due ≡ due_behind (parent_of blocks header)
      due_at = due_is ∙ ap due_behind is

      pub other_number : header.block_num ≢ due → first_in (place_tests blocks id header) ≡ Some (BlockNumber header.block_num due)
      other_number other = let here = ap (λ due. not (header.block_num == due)) (sym due_at) ∙ ap not (ne_eqb header.block_num due other) in
          rw (fresh, once, known, here) (ap (λ due. Some (BlockNumber header.block_num due)) (sym due_at))

      module _ (number : header.block_num ≡ due) where
        numbered : not (header.block_num == due_behind (parent_of blocks header)) ≡ false
        numbered = ap (λ due. not (header.block_num == due)) (sym due_at) ∙ ap not (eq-eqb header.block_num due number)

        pub other_consensus : (not (is_first header) && not (starts_with nat_eq header.consensus (codes "Devmode"))) ≡ true
            → first_in (place_tests blocks id header) ≡ Some Consensus
        other_consensus other = rw (fresh, once, known, numbered, other) refl

        pub placed : (not (is_first header) && not (starts_with nat_eq header.consensus (codes "Devmode"))) ≡ false
            → first_in (place_tests blocks id header) ≡ None
        placed same = rw (fresh, once, known, numbered, same) refl
