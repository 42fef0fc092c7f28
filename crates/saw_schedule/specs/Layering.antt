-- What the changes of held results show, and how far the layers that are kept are that.
use Rattle.std.specs.Prelude.{◌≡◌, ◌≢◌, ◌<◌, ◌≤◌, ◌⊎◌, ◌++◌, ℕ, suc, Bool, true, false, if◌then◌else◌, List, [], drop, filter, length, take, Some, get_or, slice_get}
use Rattle.std.specs.FinMap as finite
use Rattle.std.specs.List.{AllByRecursion}
use Rattle.std.specs.Str.{bytes_eq}
use Rattle.saw_messages.specs.declared.outcome.Change.{Change}
use Rattle.saw_ready.specs.Hits.{IsIn}
use Rattle.saw_ready.specs.Undone.{IsIdle}
use Rattle.saw_ready.specs.declared.slot_state.SlotState.{SlotState}
use Rattle.saw_ready.specs.declared.slot_state.SlotState.TheVariants.{Waiting}
use Rattle.saw_schedule.specs.Lasts.{IsAdded, changes_at, lefts_at, lefts_in, lefts_of}
use Rattle.saw_schedule.specs.Places.{place_in}
use Rattle.saw_schedule.specs.Shown.{entry_at, is_held_at, last_held, shown_by}
use Rattle.saw_schedule.specs.declared.lasts.Lasts.{Lasts}
use Rattle.saw_schedule.specs.declared.lasts.Left.{Left}
use Rattle.saw_schedule.specs.declared.slots.Slots.{Slots}
use Rattle.saw_schedule.specs.declared.step.Step.{Step}

-- the changes of an address by the steps before a place, and by the first few changes of the step there
abbrev pub lefts_to : List Step → ℕ → ℕ → List ℕ → List Left
lefts_to steps place change at = lefts_of 0 (take place steps) at ++ lefts_in place 0 (take change (changes_at steps place)) at

-- the result at the place changes the address
abbrev pub IsChangedBy : List Step → ℕ → List ℕ → Type 0
IsChangedBy steps place at = (n : ℕ) × (change : Change) × (slice_get (changes_at steps place) n ≡ Some change) × (bytes_eq change.address at ≡ true)

-- a result that is held no more changes the address
abbrev pub IsUndoneAt : List Step → Slots → List Bool → List ℕ → Type 0
IsUndoneAt steps slots undone at = (i : ℕ) × IsIn undone i × IsChangedBy steps (place_in slots.kept.items i) at

-- those that were undone hold nothing
pub record AreIdle (marks : List SlotState) (undone : List Bool) : Type 0 where
  pub long : length undone ≡ length marks
  pub are : (i : ℕ) → IsIn undone i → IsIdle (get_or marks i Waiting)

-- the layers, where they show any, show the last change of the address that is held
abbrev pub IsRightAt : List Step → Slots → Lasts → List ℕ → Type 0
IsRightAt steps slots lasts at =
    lasts.wide ≡ true
    → finite.get lasts.layers at ≡ shown_by steps (last_held (is_held_at steps slots) (lefts_to steps lasts.place lasts.change at))

-- The steps before the place and the first few changes of the step there were gone through: all changes of held results
-- are kept, by whole addresses, and the layers show the last of each address, but for those of results that are held no
-- more.
pub record AreLastsOf (steps : List Step) (slots : Slots) (lasts : Lasts) : Type 0 where
  pub within : lasts.place ≤ length steps
  pub some : lasts.change ≤ length (changes_at steps lasts.place)
  pub below : (at : List ℕ) → AllByRecursion (λ left. left.place < length steps) (lefts_at lasts at)
  pub are : (at : List ℕ) → filter (is_held_at steps slots) (lefts_at lasts at) ≡ filter (is_held_at steps slots) (lefts_to steps lasts.place lasts.change at)
  pub only : (at : List ℕ) → length at ≢ 35 → lefts_at lasts at ≡ []
  pub shown : (at : List ℕ) → IsRightAt steps slots lasts at ⊎ IsUndoneAt steps slots lasts.undone at
  pub idle : AreIdle slots.queue.marks lasts.undone

-- a change of an address was added where its result is held: it is what the layers show there
pub record Holds (steps : List Step) (slots : Slots) (old new : Lasts) (at : List ℕ) (left : Left) : Type 0 where
  pub added : is_held_at steps slots left ≡ true → IsAdded old new at left
  pub shown : is_held_at steps slots left ≡ true → old.wide ≡ true → (q : List ℕ) → finite.get new.layers q ≡ (if bytes_eq at q then entry_at steps left else finite.get old.layers q)
  pub passed : is_held_at steps slots left ≡ false → (new.lists ≡ old.lists) × (new.layers ≡ old.layers)

-- the one before the place passes the test, and none from there on
pub record IsHeldEnd (test : Left → Bool) (lefts : List Left) (end : ℕ) : Type 0 where
  pub within : end ≤ length lefts
  pub behind : filter test (drop end lefts) ≡ []
  pub last : (place : ℕ) (d : Left) → end ≡ suc place → test (get_or lefts place d) ≡ true
