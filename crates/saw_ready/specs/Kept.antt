-- What a queue keeps.
use Rattle.std.specs.Prelude.{◌≡◌, ◌≤◌, ℕ, Bool, List, length}
use Rattle.saw_ready.specs.Cursors.{AreCursors, AreFlagged}
use Rattle.saw_ready.specs.Fronts.{AreSeen}
use Rattle.saw_ready.specs.Layouts.{IsLayout}
use Rattle.saw_ready.specs.Lowest.{AreLowest}
use Rattle.saw_ready.specs.Queues.{Waits}
use Rattle.saw_ready.specs.declared.layout.Layout.{Layout}
use Rattle.saw_ready.specs.declared.slot_state.SlotState.{SlotState}

-- what is seen of a queue
abbrev pub waits_of : Layout → List SlotState → ℕ → Waits
waits_of layout marks first =
    record { preds = layout.preds; starts = layout.starts.items; marks = marks; first = first }

-- the layout, the cursors and the lowest invalid members are right
pub record IsPlaced (layout : Layout) (marks : List SlotState) (first : ℕ) (cursors lowest : List ℕ) : Type 0 where
  pub is_layout : IsLayout layout (length marks)
  pub within : first ≤ length marks
  pub all_point : length cursors ≡ length marks
  pub all_low : length lowest ≡ length marks
  pub cursors_are : AreCursors layout.preds marks first cursors
  pub lowest_are : AreLowest layout.starts.items marks first lowest

-- these, and whatever may be taken is flagged
pub record IsQueue (layout : Layout) (marks : List SlotState) (first : ℕ) (cursors lowest : List ℕ)
    (flags : List Bool) : Type 0 where
  pub placed : IsPlaced layout marks first cursors lowest
  pub all_flagged : length flags ≡ length marks
  pub flagged : AreFlagged layout.preds layout.starts.items marks first cursors flags

-- all this, and those before `seen` hold a valid result
pub record IsCoherent (layout : Layout) (marks : List SlotState) (first : ℕ) (cursors lowest : List ℕ) (flags : List Bool)
    (seen : ℕ) : Type 0 where
  pub queue : IsQueue layout marks first cursors lowest flags
  pub seen_are : AreSeen marks first seen
