-- What the held results show at an address.
use Rattle.std.specs.Prelude.{◌==◌, ◌&&◌, ℕ, Bool, false, List, [], ◌∷◌, Option, Some, None, get_or, slice_get, if◌then◌else◌}
use Rattle.std.specs.Option.{option_or}
use Rattle.saw_messages.specs.declared.outcome.Change.{Change}
use Rattle.saw_context.specs.declared.job.Done.{Done}
use Rattle.saw_context.specs.declared.view.ViewEntry.{ViewEntry}
use Rattle.saw_machine.specs.Machine.{View}
use Rattle.saw_ready.specs.Marks.{is_valid}
use Rattle.saw_ready.specs.declared.slot_state.SlotState.TheVariants.{Waiting}
use Rattle.saw_schedule.specs.Lasts.{changes_by, lefts_of}
use Rattle.saw_schedule.specs.declared.kept.Kept.{Kept}
use Rattle.saw_schedule.specs.declared.lasts.Left.{Left}
use Rattle.saw_schedule.specs.declared.slots.Slots.{Slots}
use Rattle.saw_schedule.specs.declared.step.Step.{Step}
use Rattle.saw_schedule.specs.declared.step.Step.TheVariants.{Take, Finish, GiveBack}

-- the result that stands at a place of the steps
abbrev pub done_by : Option Step → Option Done
done_by None = None
done_by (Some (Take ticket)) = None
done_by (Some (Finish done)) = Some done
done_by (Some (GiveBack ticket)) = None

abbrev pub done_at : List Step → ℕ → Option Done
done_at steps place = done_by (slice_get steps place)

abbrev pub is_place_of : ℕ → Option Kept → Bool
is_place_of place None = false
is_place_of place (Some kept) = kept.place == place

-- the result is that of its transaction's last run, and is held
abbrev pub is_held_by : Slots → ℕ → Option Done → Bool
is_held_by slots place None = false
is_held_by slots place (Some done) =
    is_place_of place (slice_get slots.kept.items done.ticket.index) && is_valid (get_or slots.queue.marks done.ticket.index Waiting)

abbrev pub is_held_at : List Step → Slots → Left → Bool
is_held_at steps slots left = is_held_by slots left.place (done_at steps left.place)

-- the last that passes a test
abbrev pub last_held : (Left → Bool) → List Left → Option Left
last_held test [] = None
last_held test (left ∷ lefts) = option_or (last_held test lefts) (if test left then Some left else None)

abbrev pub entry_of : Done → Option Change → Option ViewEntry
entry_of done None = None
entry_of done (Some change) = Some (record { index = done.ticket.index; value = change.value })

abbrev pub entry_by : ℕ → Option Done → Option ViewEntry
entry_by n None = None
entry_by n (Some done) = entry_of done (slice_get (changes_by done.outcome) n)

-- what a change leaves
abbrev pub entry_at : List Step → Left → Option ViewEntry
entry_at steps left = entry_by left.change (done_at steps left.place)

abbrev pub shown_by : List Step → Option Left → Option ViewEntry
shown_by steps None = None
shown_by steps (Some left) = entry_at steps left

-- what is shown at an address once these steps happened
abbrev pub shown_at : List Step → Slots → View
shown_at steps slots at = shown_by steps (last_held (is_held_at steps slots) (lefts_of 0 steps at))
