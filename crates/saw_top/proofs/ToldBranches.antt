-- The changes that the events of a branch tell leave the map behind its last block.
use Rattle.std.proofs.Common.{◌≡◌, ℕ, Bool, true, false, List, [], ◌∷◌, ◌++◌, reverse, Some, refl, sym, ap, subst, ◌∙◌}
use Rattle.std.specs.Prelude.{if◌then◌else◌}
use Rattle.std.specs.List.{AllByRecursion, flat_map}
use Rattle.std.specs.Str.{bytes_eq}
use Rattle.std.proofs.lemmas.Grind.{flat_map-append}
use Rattle.std.proofs.lemmas.List.{append-nil, map-append}
use Rattle.std.proofs.lemmas.List.Concat.{flat_map-cons}
use Rattle.saw_address.specs.Maps.{StateMap, no_entries}
use Rattle.saw_context.proofs.OnTop.{map_after-append}
use Rattle.saw_context.specs.Outcome.{Processors, map_after}
use Rattle.saw_context.specs.Possible.{MayComeOfAll}
use Rattle.saw_events.specs.Following.{changes_told}
use Rattle.saw_journal.specs.Judgement.{Kept}
use Rattle.saw_messages.specs.declared.outcome.Change.{Change}
use Rattle.saw_receipts.specs.Branches.{branch_back, branch_of}
use Rattle.saw_receipts.specs.declared.block.BlockRecord.{BlockRecord}
use Rattle.saw_top.specs.BranchLaws.{EventsLeaveState, told_to}
use Rattle.saw_top.specs.History.{history, map_behind, record_of, records_of}
use Rattle.saw_top.specs.World.{Accepts, AreWays, Ways, judging_by}
use Rattle.saw_top.proofs.AlongBranches.{GoesAlong, IsOnBranch, are_on_branch, map_before}
use Rattle.saw_top.proofs.BlockChanges.{block_told, told_by}
use Rattle.saw_top.proofs.Judgements.{Joins}
use Rattle.saw_top.proofs.Seated.{map_back}

-- ---- the branch of the records

by_id : (here : Bool) (first others : List Kept) (latest : Kept) (one other : List BlockRecord)
    → one ≡ records_of first → other ≡ records_of others
    → (if here then one ++ latest.block ∷ [] else other) ≡ records_of (if here then first ++ latest ∷ [] else others)
by_id true first others latest one other same same_others =
    ap (λ blocks. blocks ++ latest.block ∷ []) same ∙ sym (map-append record_of first (latest ∷ []))
by_id false first others latest one other same same_others = same_others

records_back : (back : List Kept) (id : List ℕ) → branch_back (λ block. block) (records_of back) id ≡ records_of (branch_back record_of back id)
records_back [] id = refl
records_back (latest ∷ earlier) id =
    by_id (bytes_eq latest.block.id id) _ _ latest _ _ (records_back earlier latest.block.previous) (records_back earlier id)

branch_of_records : (accepted : List Kept) (id : List ℕ) → branch_of (λ block. block) (records_of accepted) id ≡ records_of (branch_of record_of accepted id)
branch_of_records accepted id =
    ap (λ back. branch_back (λ block. block) back id) (sym (map_back record_of accepted)) ∙ records_back (reverse accepted) id

-- ---- the changes of a branch

abbrev told_in : List Kept → List Change
told_in branch = flat_map changes_told (records_of branch)

told_in-push : (branch : List Kept) (kept : Kept) → told_in (branch ++ kept ∷ []) ≡ told_in branch ++ changes_told kept.block
told_in-push branch kept =
    ap (flat_map changes_told) (map-append record_of branch (kept ∷ []))
    ∙ flat_map-append changes_told (records_of branch) (kept.block ∷ [])
    ∙ ap (λ last. told_in branch ++ last) (flat_map-cons changes_told kept.block [] ∙ append-nil (changes_told kept.block))

-- they leave the map
abbrev Leave : List Kept → StateMap → Type 0
Leave branch m = map_after no_entries (told_in branch) ≡ m

module _ (accepts : Accepts) (processors : Processors) (ways : Ways) (are : AreWays processors ways) where
  leave_next : (place : ℕ) (accepted branch : List Kept) (kept : Kept) → Joins (ways.blocks place) accepted kept
      → Leave branch (map_before accepted kept.block.previous) → Leave (branch ++ kept ∷ []) kept.left
  leave_next place accepted branch kept joins leave =
      let before = map_before accepted kept.block.previous in
      let shapes = joins.told.0 in
      let results = ways.blocks place before kept.batches in
      let may = subst (λ batches. MayComeOfAll processors before batches results) (sym joins.told.1) ((are.blocks place).serial before kept.batches) in
      ap (map_after no_entries) (told_in-push branch kept)
      ∙ map_after-append no_entries (told_in branch) (changes_told kept.block)
      ∙ ap (λ m. map_after m (changes_told kept.block)) leave
      ∙ ap (λ batches. map_after before (told_by batches)) joins.told.2
      ∙ block_told processors before shapes results may
      ∙ joins.left

  goes_along : GoesAlong (judging_by accepts ways) Leave
  goes_along = record { first = refl; next = leave_next }

as_told : (accepted some : List Kept) → AllByRecursion (IsOnBranch Leave accepted) some
    → AllByRecursion (λ kept. map_after no_entries (told_to accepted kept.block.id) ≡ map_behind accepted (Some kept.block)) some
as_told accepted [] all = tt
as_told accepted (kept ∷ some) all = (
  ap (λ blocks. map_after no_entries (flat_map changes_told blocks)) (branch_of_records accepted kept.block.id) ∙ all.0.holds ∙ sym all.0.own,
  as_told accepted some all.1,
)

pub events_leave_state : EventsLeaveState
events_leave_state accepts processors ways frames are =
    let judging = judging_by accepts ways in
    let accepted = (history judging 0 frames []).accepted in
    as_told accepted accepted (are_on_branch judging Leave (goes_along accepts processors ways are) frames 0 [] tt)
