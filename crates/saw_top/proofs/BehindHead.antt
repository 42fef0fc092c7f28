-- The place of a block that is built behind the head.
use Rattle.std.proofs.Common.{◌≡◌, ℕ, ◌+◌, Bool, true, false, List, [], ◌∷◌, ◌++◌, reverse, Option, Some, None, refl, sym, ap, subst, ◌∙◌, arith}
use Rattle.std.specs.Prelude.{◌||◌, IfSome, is_some, nat_lt, option_map, if◌then◌else◌}
use Rattle.std.specs.List.{AllByRecursion}
use Rattle.std.specs.Str.{bytes_eq}
use Rattle.std.proofs.lemmas.Bool.{eq-eqb, lt-ltb}
use Rattle.std.proofs.lemmas.List.{reverse-reverse}
use Rattle.saw_address.specs.Texts.{is_hex_text}
use Rattle.saw_journal.proofs.Linking.{AreBack, all_found, all_push, are_back, head_so, latest_last}
use Rattle.saw_journal.proofs.Lookups.{is_there}
use Rattle.saw_journal.proofs.Named.{hex_names}
use Rattle.saw_journal.specs.BlockFaults.{first_in, ids_before, parent_of, place_tests}
use Rattle.saw_journal.specs.Ledger.{map_under}
use Rattle.saw_journal.specs.Linked.{AreLinked}
use Rattle.saw_merkle.specs.States.{States}
use Rattle.saw_publish.specs.Building.{map_before}
use Rattle.saw_publish.specs.Candidates.{header_with, number_behind, previous_of}
use Rattle.saw_publish.specs.Laws.{HasIdBefore}
use Rattle.saw_receipts.specs.Branches.{block_at, branch_of, has_block, ids_in, no_block}
use Rattle.saw_receipts.specs.Heads.{as_parent, branch_to, head_after, head_of, is_new_head}
use Rattle.saw_receipts.specs.declared.block.BlockRecord.{BlockRecord}

-- ---- the head

-- where there is no head there are no blocks; else it is found by its id, which is not the one for no block
abbrev pub IsHead : List BlockRecord → Option BlockRecord → Type 0
IsHead blocks None = blocks ≡ []
IsHead blocks (Some head) = (block_at blocks head.id ≡ Some head) × (bytes_eq head.id no_block ≡ false)

chosen_some : (is_head : Bool) (head : Option BlockRecord) (new : BlockRecord) → is_some head ≡ true
    → is_some (if is_head then Some new else head) ≡ true
chosen_some true head new there = refl
chosen_some false head new there = there

stays_some : (head : Option BlockRecord) (blocks : List BlockRecord) → is_some head ≡ true → is_some (head_after head blocks) ≡ true
stays_some head [] there = there
stays_some head (new ∷ others) there =
    stays_some (if is_new_head head new then Some new else head) others (chosen_some (is_new_head head new) head new there)

not_both : (head : Option BlockRecord) → head ≡ None → is_some head ≡ true → ⊥
not_both None none there = absurd cc
not_both (Some head) none there = absurd cc

no_head : (blocks : List BlockRecord) → head_of blocks ≡ None → blocks ≡ []
no_head [] none = refl
no_head (block ∷ others) none = absurd (not_both (head_of (block ∷ others)) none (stays_some (Some block) others refl))

-- each has an id of 128 hex digits
forms_back : (back : List BlockRecord) → AreBack back → AllByRecursion (λ block. is_hex_text 128 block.id ≡ true) (reverse back)
forms_back [] are = tt
forms_back (latest ∷ earlier) are =
    subst (AllByRecursion (λ (block : BlockRecord). is_hex_text 128 block.id ≡ true)) (sym (latest_last earlier latest))
    (all_push (λ (block : BlockRecord). is_hex_text 128 block.id ≡ true) (reverse earlier) latest (forms_back earlier are.1) are.0.form)

all_forms : (blocks : List BlockRecord) → AreLinked blocks → AllByRecursion (λ block. is_hex_text 128 block.id ≡ true) blocks
all_forms blocks linked =
    subst (AllByRecursion (λ (block : BlockRecord). is_hex_text 128 block.id ≡ true)) (reverse-reverse blocks)
    (forms_back (reverse blocks) (are_back blocks linked))

head_form : (blocks : List BlockRecord) → AreLinked blocks → IfSome (head_of blocks) (λ block. is_hex_text 128 block.id ≡ true)
head_form blocks linked = head_so (λ (block : BlockRecord). is_hex_text 128 block.id ≡ true) blocks (all_forms blocks linked)

pub id_before : (blocks : List BlockRecord) → AreLinked blocks → HasIdBefore (option_map as_parent (head_of blocks))
id_before blocks linked = by_head (head_of blocks) (head_form blocks linked)
  where
    by_head : (head : Option BlockRecord) → IfSome head (λ block. is_hex_text 128 block.id ≡ true) → HasIdBefore (option_map as_parent head)
    by_head None form = tt
    by_head (Some head) form = form

pub is_head : (blocks : List BlockRecord) (head : Option BlockRecord) → AreLinked blocks → head_of blocks ≡ head → IsHead blocks head
is_head blocks None linked is = no_head blocks is
is_head blocks (Some head) linked is = (
  subst (λ (head : Option BlockRecord). IfSome head (λ block. block_at blocks block.id ≡ Some block)) is
      (head_so (λ (block : BlockRecord). block_at blocks block.id ≡ Some block) blocks (all_found blocks linked)),
  hex_names head.id (subst (λ (head : Option BlockRecord). IfSome head (λ block. is_hex_text 128 block.id ≡ true)) is (head_form blocks linked)),
)

-- ---- a block behind it

module _ (key : List ℕ) (ids : List (List ℕ)) (root : List ℕ) where
  pub parent_is : (blocks : List BlockRecord) (head : Option BlockRecord) → IsHead blocks head
      → parent_of blocks (header_with key (option_map as_parent head) ids root) ≡ head
  parent_is blocks None is = refl
  parent_is blocks (Some head) is = ap (λ first. if first then None else block_at blocks head.id) is.1 ∙ is.0

  pub ids_are : (blocks : List BlockRecord) (head : Option BlockRecord) → IsHead blocks head
      → ids_before blocks (header_with key (option_map as_parent head) ids root) ≡ ids_in (branch_to blocks head)
  ids_are blocks None is = refl
  ids_are blocks (Some head) is = ap (λ first. ids_in (if first then [] else branch_of (λ block. block) blocks head.id)) is.1

  -- its place has no fault
  pub placed : (blocks : List BlockRecord) (head : Option BlockRecord) (id : List ℕ) → IsHead blocks head → has_block blocks id ≡ false
      → first_in (place_tests blocks id (header_with key (option_map as_parent head) ids root)) ≡ None
  placed blocks None id is fresh = rw is refl
  placed blocks (Some head) id is fresh =
      let named = is.1 in
      let found = is.0 in
      let has : has_block blocks head.id ≡ true = sym (is_there blocks head.id) ∙ ap is_some found in
      let number = eq-eqb (head.number + 1) (head.number + 1) refl in
      rw (fresh, named, has, found, number) refl

-- the branch to the head ends with what the block states as the id before it
pub branch_is : (blocks : List BlockRecord) (head : Option BlockRecord) → IsHead blocks head
    → branch_to blocks head ≡ branch_of (λ block. block) blocks (previous_of (option_map as_parent head))
branch_is blocks None is = sym (ap (λ (blocks : List BlockRecord). branch_of (λ block. block) blocks no_block) is)
branch_is blocks (Some head) is = refl

-- the map behind it
pub map_is : (states : States) (head : Option BlockRecord) → map_under states head ≡ map_before states (option_map as_parent head)
map_is states None = refl
map_is states (Some head) = refl

or_true : (a b : Bool) → a ≡ true → (a || b) ≡ true
or_true true b e = refl
or_true false b e = absurd cc

-- a block with the number behind the head is the new head
pub becomes_head : (head : Option BlockRecord) (new : BlockRecord) → new.number ≡ number_behind (option_map as_parent head)
    → is_new_head head new ≡ true
becomes_head None new number = refl
becomes_head (Some head) new number =
    or_true (nat_lt head.number new.number) _ (lt-ltb head.number new.number (omega (arith, number)))

head_push : (head : Option BlockRecord) (blocks : List BlockRecord) (new : BlockRecord) → is_new_head (head_after head blocks) new ≡ true
    → head_after head (blocks ++ new ∷ []) ≡ Some new
head_push head [] new is = ap (λ b. if b then Some new else head) is
head_push head (block ∷ blocks) new is = head_push (if is_new_head head block then Some block else head) blocks new is

-- then it is the head
pub head_is : (blocks : List BlockRecord) (new : BlockRecord) → is_new_head (head_of blocks) new ≡ true → head_of (blocks ++ new ∷ []) ≡ Some new
head_is blocks new is = head_push None blocks new is
