-- What holds along the branches of accepted blocks.
use Rattle.std.proofs.Common.{◌≡◌, ℕ, ◌+◌, ◌==◌, Bool, true, false, List, [], ◌∷◌, ◌++◌, length, Option, Some, None, Result, Ok, Err, refl, sym, ap, subst, ◌∙◌, arith}
use Rattle.std.specs.Prelude.{◌||◌, if◌then◌else◌}
use Rattle.std.specs.Cmp.Lexicographic.{nat_list_eq_equiv, same_text}
use Rattle.std.specs.List.{AllByRecursion}
use Rattle.std.specs.Str.{bytes_eq}
use Rattle.saw_address.specs.Maps.{StateMap, no_entries}
use Rattle.saw_context.proofs.Each.{all_weaker}
use Rattle.saw_journal.proofs.Branching.{branch_of-new, branch_of-other, found_in, no_branch}
use Rattle.saw_journal.proofs.Judging.{missing_is}
use Rattle.saw_journal.proofs.Linking.{all_push, either_false}
use Rattle.saw_journal.proofs.Named.{hex_names}
use Rattle.saw_journal.specs.Judgement.{Kept}
use Rattle.saw_journal.specs.Linked.{parent_in}
use Rattle.saw_receipts.specs.Branches.{block_at, branch_of, has_block, no_block}
use Rattle.saw_receipts.specs.declared.block.BlockRecord.{BlockRecord}
use Rattle.saw_receipts.specs.declared.verdict.BlockFault.{BlockFault}
use Rattle.saw_top.specs.History.{History, ended, goes_on, history, judged_behind, left_at, map_behind, record_of, records_of}
use Rattle.saw_top.specs.Limits.{max_blocks}
use Rattle.saw_top.specs.World.{Judging}
use Rattle.saw_top.proofs.Branching.{left_last, left_other}
use Rattle.saw_top.proofs.Judgements.{Joins, joins_whole}

-- the map behind the block with this id before it
abbrev pub map_before : List Kept → List ℕ → StateMap
map_before accepted previous = map_behind accepted (parent_in (records_of accepted) previous)

module _ (judging : Judging) (Holds : List Kept → StateMap → Type 0) where
  -- it holds of nothing, and with each block that joins of its branch and the map that it leaves
  pub record GoesAlong : Type 0 where
    pub first : Holds [] no_entries
    pub next : (place : ℕ) (accepted branch : List Kept) (kept : Kept) → Joins (judging.ways place) accepted kept
        → Holds branch (map_before accepted kept.block.previous) → Holds (branch ++ kept ∷ []) kept.left

-- What is known of a block: it has a name, is found by its id, and it holds of its branch.
pub record IsOnBranch (Holds : List Kept → StateMap → Type 0) (accepted : List Kept) (kept : Kept) : Type 0 where
  pub named : bytes_eq kept.block.id no_block ≡ false
  pub own : left_at accepted kept.block.id ≡ kept.left
  pub holds : Holds (branch_of record_of accepted kept.block.id) kept.left

module _ (judging : Judging) (Holds : List Kept → StateMap → Type 0) (along : GoesAlong judging Holds) where
  module _ (accepted : List Kept) (all : AllByRecursion (IsOnBranch Holds accepted) accepted) where
    -- it holds of the branch before a block, and the map behind it
    abbrev IsBranch : List ℕ → Option BlockRecord → Type 0
    IsBranch previous parent = Holds (branch_of record_of accepted previous) (map_behind accepted parent)

    by_found : (previous : List ℕ) (found : Option BlockRecord) → block_at (records_of accepted) previous ≡ found
        → has_block (records_of accepted) previous ≡ true → IsBranch previous found
    by_found previous None e has = let none = missing_is (records_of accepted) previous e in absurd (grind (arith, none, has))
    by_found previous (Some parent) e has =
        let found = found_in record_of (IsOnBranch Holds accepted) accepted previous parent all e in
        let block : previous ≡ found.one.block.id = found.named ∙ ap (λ (block : BlockRecord). block.id) (sym found.same) in
        let left : found.one.left ≡ left_at accepted parent.id =
        sym found.holds.own ∙ ap (λ (block : BlockRecord). left_at accepted block.id) found.same in
        subst (λ id. Holds (branch_of record_of accepted id) (left_at accepted parent.id)) (sym block)
        (subst (Holds (branch_of record_of accepted found.one.block.id)) left found.holds.holds)

    by_first : (previous : List ℕ) (first : Bool) → bytes_eq previous no_block ≡ first
        → (first || has_block (records_of accepted) previous) ≡ true
        → IsBranch previous (if first then None else block_at (records_of accepted) previous)
    by_first previous true first known =
        let others = all_weaker (IsOnBranch Holds accepted) (λ (kept : Kept). bytes_eq kept.block.id no_block ≡ false) (λ kept is. is.named) accepted all in
        let none : branch_of record_of accepted previous ≡ [] =
        ap (branch_of record_of accepted) (same_text previous no_block (sym first)) ∙ no_branch record_of accepted no_block others in
        subst (λ branch. Holds branch no_entries) (sym none) along.first
    by_first previous false first known = by_found previous (block_at (records_of accepted) previous) refl known

    is_branch : (previous : List ℕ) → (bytes_eq previous no_block || has_block (records_of accepted) previous) ≡ true
        → IsBranch previous (parent_in (records_of accepted) previous)
    is_branch previous known = by_first previous (bytes_eq previous no_block) refl known

    -- ---- a block joins

    module _ (place : ℕ) (kept : Kept) (joins : Joins (judging.ways place) accepted kept) where
      abbrev more : List Kept
      more = accepted ++ kept ∷ []

      new_one : IsOnBranch Holds more kept
      new_one = record {
        named = hex_names kept.block.id joins.may.stands.form;
        own = left_last accepted kept joins.may.stands.fresh;
        holds = subst (λ branch. Holds branch kept.left) (sym (branch_of-new record_of accepted kept))
            (along.next place accepted _ kept joins (is_branch kept.block.previous joins.may.stands.known));
      }

      old_one : (old : Kept) → bytes_eq old.block.id kept.block.id ≡ false → IsOnBranch Holds accepted old → IsOnBranch Holds more old
      old_one old other is =
          let apart = nat_list_eq_equiv.symm kept.block.id old.block.id ∙ other in
          record {
            named = is.named;
            own = left_other accepted kept old.block.id apart ∙ is.own;
            holds = subst (λ branch. Holds branch old.left) (sym (branch_of-other record_of accepted kept old.block.id apart)) is.holds;
          }

      old_ones : (xs : List Kept) → has_block (records_of xs) kept.block.id ≡ false → AllByRecursion (IsOnBranch Holds accepted) xs
          → AllByRecursion (IsOnBranch Holds more) xs
      old_ones [] fresh so = tt
      old_ones (old ∷ xs) fresh so =
          let apart = either_false (bytes_eq old.block.id kept.block.id) (has_block (records_of xs) kept.block.id) fresh in
          (old_one old apart.0 so.0, old_ones xs apart.1 so.1)

      all_ones : AllByRecursion (IsOnBranch Holds more) more
      all_ones = all_push (IsOnBranch Holds more) accepted kept (old_ones accepted joins.may.stands.fresh all) new_one

  -- ---- of a stream

  -- of the accepted blocks of what was said
  abbrev AreOnBranch : History → Type 0
  AreOnBranch run = AllByRecursion (IsOnBranch Holds run.accepted) run.accepted

  by_room : (full : Bool) (accepted : List Kept) (one : History) → AllByRecursion (IsOnBranch Holds accepted) accepted → AreOnBranch one
      → AreOnBranch (if full then ended accepted true else one)
  by_room true accepted one all others = all
  by_room false accepted one all others = others

  -- by what comes of a block, where those behind it are so
  by_one : (place : ℕ) (accepted : List Kept) (content : List ℕ) (others : List Kept → History)
      → AllByRecursion (IsOnBranch Holds accepted) accepted
      → ((kepts : List Kept) → AllByRecursion (IsOnBranch Holds kepts) kepts → AreOnBranch (others kepts))
      → (found : Result Kept BlockFault) → judged_behind judging place accepted content ≡ found → AreOnBranch (goes_on others accepted found)
  by_one place accepted content others all behind (Err fault) is = behind accepted all
  by_one place accepted content others all behind (Ok kept) is =
      by_room (length accepted == max_blocks) accepted _ all
      (behind (accepted ++ kept ∷ []) (all_ones accepted all place kept (joins_whole judging place accepted content kept is)))

  pub are_on_branch : (frames : List (List ℕ)) (place : ℕ) (accepted : List Kept) → AllByRecursion (IsOnBranch Holds accepted) accepted
      → AreOnBranch (history judging place frames accepted)
  unfolding history
  are_on_branch [] place accepted all = all
  are_on_branch (content ∷ frames) place accepted all =
      by_one place accepted content (history judging (place + 1) frames) all (are_on_branch frames (place + 1)) (judged_behind judging place accepted content) refl
