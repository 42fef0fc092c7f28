-- The map behind a block is what the batches of its branch leave, and what the events of its branch tell.
use Rattle.std.specs.Prelude.{◌≡◌, ℕ, List, [], None, Some}
use Rattle.std.specs.List.{AllByRecursion, flat_map}
use Rattle.saw_address.specs.Maps.{no_entries}
use Rattle.saw_context.specs.Outcome.{Processors, map_after}
use Rattle.saw_context.specs.Serial.{left_after, serial}
use Rattle.saw_context.specs.declared.batch_result.BatchResult.{BatchResult}
use Rattle.saw_events.specs.Following.{changes_told}
use Rattle.saw_journal.specs.Judgement.{Kept}
use Rattle.saw_messages.specs.TxShapes.{TxShape}
use Rattle.saw_messages.specs.declared.outcome.Change.{Change}
use Rattle.saw_receipts.specs.Branches.{branch_of}
use Rattle.saw_schedule.specs.BatchResults.{first_failure}
use Rattle.saw_top.specs.History.{history, map_behind, record_of, records_of}
use Rattle.saw_top.specs.World.{Accepts, AreWays, Ways, judging_by, serially}

-- the batches of the branch that ends with this id
abbrev pub batches_to : List Kept → List ℕ → List (List TxShape)
batches_to accepted id = flat_map (λ kept. kept.batches) (branch_of record_of accepted id)

-- what comes of them, one after another over nothing
abbrev pub results_to : Processors → List Kept → List ℕ → List BatchResult
results_to processors accepted id = serial processors no_entries (batches_to accepted id)

-- the map behind a block is what the batches of its branch leave, and none of them fails
pub record LeavesBranch (processors : Processors) (accepted : List Kept) (kept : Kept) : Type 0 where
  pub whole : first_failure 0 (results_to processors accepted kept.block.id) ≡ None
  pub left : left_after no_entries (results_to processors accepted kept.block.id)
      ≡ map_behind accepted (Some kept.block)

-- so it is for each accepted block of a stream whose batches are run one after another
abbrev pub MapBehindIsBranch : Type 0
MapBehindIsBranch = (accepts : Accepts) (processors : Processors) (frames : List (List ℕ))
    → (let accepted = (history (judging_by accepts (serially processors)) 0 frames []).accepted in
    AllByRecursion (LeavesBranch processors accepted) accepted)

-- the changes that the events of a branch's blocks tell, in order
abbrev pub told_to : List Kept → List ℕ → List Change
told_to accepted id = flat_map changes_told (branch_of (λ block. block) (records_of accepted) id)

-- Whatever processors answer, these changes, applied one after another to nothing, leave the map behind each accepted block.
abbrev pub EventsLeaveState : Type 0
EventsLeaveState = (accepts : Accepts) (processors : Processors) (ways : Ways) (frames : List (List ℕ)) → AreWays processors ways
    → (let accepted = (history (judging_by accepts ways) 0 frames []).accepted in
    AllByRecursion (λ kept. map_after no_entries (told_to accepted kept.block.id) ≡ map_behind accepted (Some kept.block)) accepted)
