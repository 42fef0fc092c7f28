-- The id of a block without a structure fault: 128 hex digits, and so not what a first block states as its previous one.
use Rattle.std.proofs.Common.{◌≡◌, ◌≢◌, ℕ, Bool, true, false, List, length, None, Ok, refl, sym, arith}
use Rattle.std.specs.Prelude.{◌&&◌, ◌==◌, nat_eq, not}
use Rattle.std.specs.Cmp.Lexicographic.{unequal}
use Rattle.std.specs.Str.{bytes_eq}
use Rattle.std.proofs.lemmas.Bool.{eqb-true}
use Rattle.saw_address.specs.Texts.{is_hex_text}
use Rattle.saw_checks.specs.StructureFaults.{block_tests, structure_fault_by}
use Rattle.saw_checks.specs.Tests.{first_of}
use Rattle.saw_messages.specs.declared.block.Block.{Block}
use Rattle.saw_messages.specs.declared.block.BlockHeader.{BlockHeader}
use Rattle.saw_receipts.specs.Branches.{no_block}
use Rattle.saw_journal.proofs.Judging.{first_not, not_not}
use Rattle.saw_journal.proofs.SameParts.{neither}

both_true : (a b : Bool) → (a && b) ≡ true → a ≡ true
both_true true b e = refl
both_true false b e = e

-- hex digits of an id are more than those of no block
pub hex_names : (id : List ℕ) → is_hex_text 128 id ≡ true → bytes_eq id no_block ≡ false
hex_names id hex =
    let count : length id ≡ 128 = eqb-true (length id) 128 (both_true (length id == 128) _ hex) in
    let none : length no_block ≡ 16 = refl in
    let apart : length id ≢ length no_block = omega (arith, count, none) in
    unequal nat_eq id no_block apart

module _ (accepts : List ℕ → List ℕ → List ℕ → Bool) where
  -- a block without a structure fault has such an id
  pub form_of : (b : Block) (header : BlockHeader) → structure_fault_by accepts b (Ok header) ≡ None → is_hex_text 128 b.header_signature ≡ true
  form_of b header sound =
      let tests = (neither (first_of (block_tests b header)) _ sound).0 in
      not_not (is_hex_text 128 b.header_signature) (first_not (not (is_hex_text 128 b.header_signature)) _ _ (sym tests))
