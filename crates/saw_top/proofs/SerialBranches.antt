-- Where batches are run one after another, the map behind a block is what the batches of its branch leave.
use Rattle.std.proofs.Common.{◌≡◌, List, [], ◌∷◌, ◌++◌, None, sym, ap, ◌∙◌}
use Rattle.std.specs.List.{AllByRecursion, flat_map}
use Rattle.std.proofs.lemmas.Grind.{flat_map-append}
use Rattle.std.proofs.lemmas.List.{append-nil}
use Rattle.std.proofs.lemmas.List.Concat.{flat_map-cons}
use Rattle.saw_address.specs.Maps.{StateMap, no_entries}
use Rattle.saw_context.specs.Outcome.{Processors}
use Rattle.saw_context.specs.Serial.{left_after, serial}
use Rattle.saw_context.specs.declared.batch_result.BatchResult.{BatchResult}
use Rattle.saw_journal.proofs.OneByOne.{RunsOneByOne, first_failure-append, left_after-append, serial_one_by_one}
use Rattle.saw_journal.specs.Judgement.{Kept}
use Rattle.saw_messages.specs.TxShapes.{TxShape}
use Rattle.saw_schedule.specs.BatchResults.{first_failure}
use Rattle.saw_top.specs.BranchLaws.{LeavesBranch, MapBehindIsBranch}
use Rattle.saw_top.specs.History.{history}
use Rattle.saw_top.specs.World.{Accepts, judging_by, serially}
use Rattle.saw_top.proofs.AlongBranches.{GoesAlong, IsOnBranch, are_on_branch, map_before}
use Rattle.saw_top.proofs.Judgements.{Joins}

abbrev batches_in : List Kept → List (List TxShape)
batches_in branch = flat_map (λ (kept : Kept). kept.batches) branch

batches_in-push : (branch : List Kept) (kept : Kept) → batches_in (branch ++ kept ∷ []) ≡ batches_in branch ++ kept.batches
batches_in-push branch kept =
    flat_map-append (λ (kept : Kept). kept.batches) branch (kept ∷ [])
    ∙ ap (λ last. batches_in branch ++ last) (flat_map-cons (λ (kept : Kept). kept.batches) kept [] ∙ append-nil kept.batches)

module _ (processors : Processors) where
  one_by_one : RunsOneByOne (λ m batches. serial processors m batches)
  one_by_one = serial_one_by_one processors

  -- what comes of the batches of a branch, one after another
  abbrev results_of : List Kept → List BatchResult
  results_of branch = serial processors no_entries (batches_in branch)

  -- none of them fails, and they leave the map
  pub record Leaves (branch : List Kept) (m : StateMap) : Type 0 where
    pub whole : first_failure 0 (results_of branch) ≡ None
    pub left : left_after no_entries (results_of branch) ≡ m

  -- the results are those of the branch before a block, and its own
  results_of-push : (branch : List Kept) (kept : Kept) (before : StateMap) → Leaves branch before
      → results_of (branch ++ kept ∷ []) ≡ results_of branch ++ serial processors before kept.batches
  results_of-push branch kept before leaves =
      ap (serial processors no_entries) (batches_in-push branch kept)
      ∙ one_by_one.behind no_entries (batches_in branch) kept.batches leaves.whole
      ∙ ap (λ m. results_of branch ++ serial processors m kept.batches) leaves.left

  leaves_next : (accepted branch : List Kept) (kept : Kept) → Joins (λ m batches. serial processors m batches) accepted kept
      → Leaves branch (map_before accepted kept.block.previous) → Leaves (branch ++ kept ∷ []) kept.left
  leaves_next accepted branch kept joins leaves =
      let before = map_before accepted kept.block.previous in
      let results = serial processors before kept.batches in
      let are = results_of-push branch kept before leaves in record {
        whole = ap (first_failure 0) are ∙ first_failure-append (results_of branch) results 0 0 leaves.whole joins.whole;
        left = ap (left_after no_entries) are ∙ left_after-append (results_of branch) results no_entries
            ∙ ap (λ m. left_after m results) leaves.left ∙ joins.left;
      }

  goes_along : (accepts : Accepts) → GoesAlong (judging_by accepts (serially processors)) Leaves
  goes_along accepts = record {
    first = record { whole = ap (first_failure 0) (one_by_one.none no_entries); left = ap (left_after no_entries) (one_by_one.none no_entries) };
    next = λ place accepted branch kept joins leaves. leaves_next accepted branch kept joins leaves;
  }

  -- each block's own fact, said of the map behind it
  as_leaves : (accepted some : List Kept) → AllByRecursion (IsOnBranch Leaves accepted) some → AllByRecursion (LeavesBranch processors accepted) some
  as_leaves accepted [] all = tt
  as_leaves accepted (kept ∷ some) all =
      (record { whole = all.0.holds.whole; left = all.0.holds.left ∙ sym all.0.own }, as_leaves accepted some all.1)

pub map_behind_is_branch : MapBehindIsBranch
map_behind_is_branch accepts processors frames =
    let judging = judging_by accepts (serially processors) in
    let accepted = (history judging 0 frames []).accepted in
    as_leaves processors accepted accepted (are_on_branch judging (Leaves processors) (goes_along processors accepts) frames 0 [] tt)
