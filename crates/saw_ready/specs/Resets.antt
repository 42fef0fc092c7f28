-- Setting back what stands on a failed batch.
use Rattle.std.specs.Prelude.{◌≡◌, ◌≢◌, ◌<◌, ◌≤◌, ◌⊎◌, ◌&&◌, ◌||◌, ℕ, Bool, true, false, not, nat_lt, List, length, get_or}
use Rattle.saw_ready.specs.Cursors.{IsCursor, IsDue}
use Rattle.saw_ready.specs.Edges.{begin, finish, target}
use Rattle.saw_ready.specs.Hits.{AreHits, IsIn}
use Rattle.saw_ready.specs.Lowest.{AreLowest, IsNextInvalid}
use Rattle.saw_ready.specs.Marks.{NoneInvalid, is_invalid, is_valid}
use Rattle.saw_ready.specs.declared.edges.Edges.{Edges}
use Rattle.saw_ready.specs.declared.slot_state.SlotState.{SlotState}
use Rattle.saw_ready.specs.declared.slot_state.SlotState.TheVariants.{Closed, Waiting}

-- the mark of one behind a batch that has failed, by whether it stands on it
abbrev pub failed_mark : Bool → SlotState → SlotState
failed_mark true old = Waiting
failed_mark false old = old

-- members are closed, exactly what stands on one of them waits again, and the others stay
pub record IsFailed (preds : Edges) (first end : ℕ) (old new : List SlotState) : Type 0 where
  pub long : length new ≡ length old
  pub hits : List Bool
  pub all_hit : length hits ≡ length old
  pub are : AreHits preds first end hits
  pub before : (i : ℕ) → i < first → get_or new i Waiting ≡ get_or old i Waiting
  pub members : (i : ℕ) → first ≤ i → i < end → get_or new i Waiting ≡ Closed
  pub after : (i : ℕ) → end ≤ i → get_or new i Waiting ≡ failed_mark (get_or hits i false) (get_or old i Waiting)

-- ---- on the way

-- members are closed, and the others stay
pub record AreClosed (first end : ℕ) (old new : List SlotState) : Type 0 where
  pub long : length new ≡ length old
  pub inside : (i : ℕ) → first ≤ i → i < end → get_or new i Waiting ≡ Closed
  pub outside : (i : ℕ) → (i < first) ⊎ (end ≤ i) → get_or new i Waiting ≡ get_or old i Waiting

-- a flag is set for each mate behind k and before `to` that waits for no predecessor
pub record AreMatesFlagged (preds : Edges) (starts : List ℕ) (marks : List SlotState) (cursors : List ℕ) (k to : ℕ)
    (old new : List Bool) : Type 0 where
  pub long : length new ≡ length old
  pub kept : (i : ℕ) → IsIn old i → IsIn new i
  pub mates : (i : ℕ) → k < i → i < to → i < length marks → get_or starts i 0 ≡ get_or starts k 0
      → IsDue preds marks cursors i → IsIn new i

-- where k was the lowest invalid member of its batch the next one is, and mates before that one are flagged
pub record IsReopened (preds : Edges) (starts : List ℕ) (marks : List SlotState) (cursors : List ℕ) (k : ℕ)
    (lows lows' : List ℕ) (flags flags' : List Bool) : Type 0 where
  pub all_low : length lows' ≡ length lows
  pub other_lows : (s : ℕ) → s ≢ get_or starts k 0 → get_or lows' s 0 ≡ get_or lows s 0
  pub stays : get_or lows (get_or starts k 0) 0 ≢ k
      → get_or lows' (get_or starts k 0) 0 ≡ get_or lows (get_or starts k 0) 0
  pub next : get_or lows (get_or starts k 0) 0 ≡ k → IsNextInvalid starts marks k (get_or lows' (get_or starts k 0) 0)
  pub long : length flags' ≡ length flags
  pub kept : (i : ℕ) → IsIn flags i → IsIn flags' i
  pub mates : get_or lows (get_or starts k 0) 0 ≡ k → (i : ℕ) → k < i → i < get_or lows' (get_or starts k 0) 0
      → i < length marks → get_or starts i 0 ≡ get_or starts k 0 → IsDue preds marks cursors i → IsIn flags' i

-- k waits again
pub record IsReset (preds : Edges) (starts : List ℕ) (old new : List SlotState) (end : ℕ)
    (before after lows lows' : List ℕ) (flags flags' : List Bool) (k : ℕ) : Type 0 where
  pub long : length new ≡ length old
  pub at : get_or new k Waiting ≡ Waiting
  pub others : (i : ℕ) → i ≢ k → get_or new i Waiting ≡ get_or old i Waiting
  pub points : length after ≡ length before
  pub cursor : IsCursor preds new end k (get_or after k 0)
  pub other_cursors : (i : ℕ) → i ≢ k → get_or after i 0 ≡ get_or before i 0
  pub all_low : length lows' ≡ length lows
  pub lowest_are : AreLowest starts new end lows'
  pub all_flagged : length flags' ≡ length flags
  pub kept : (i : ℕ) → IsIn flags i → IsIn flags' i
  pub flag : get_or after k 0 ≡ finish preds k → IsIn flags' k
  pub mates : is_invalid (get_or old k Waiting) ≡ true → (i : ℕ) → k < i → i < length old
      → get_or starts i 0 ≡ get_or starts k 0 → IsDue preds new after i → NoneInvalid new (get_or starts i 0) i
      → IsIn flags' i

-- i is not flagged
abbrev pub IsOut : List Bool → ℕ → Type 0
IsOut hits i = get_or hits i false ≡ false

-- whether j is met once all hits wait again
abbrev pub past : List Bool → List SlotState → ℕ → ℕ → Bool
past hits marks end j = nat_lt j end || (not (get_or hits j false) && is_valid (get_or marks j Waiting))

-- c is the first place of k whose predecessor won't be met then, or the end
pub record IsPast (preds : Edges) (hits : List Bool) (marks : List SlotState) (end k c : ℕ) : Type 0 where
  pub low : begin preds k ≤ c
  pub high : c ≤ finish preds k
  pub met : (p : ℕ) → begin preds k ≤ p → p < c → past hits marks end (target preds p) ≡ true
  pub stop : c < finish preds k → past hits marks end (target preds c) ≡ false

-- those before `from`, and those that are no hits, are as they are to be
pub record AreRenewed (preds : Edges) (starts : List ℕ) (hits : List Bool) (marks : List SlotState) (end from : ℕ)
    (cursors lowest : List ℕ) (flags : List Bool) : Type 0 where
  pub points : length cursors ≡ length marks
  pub all_low : length lowest ≡ length marks
  pub long : length flags ≡ length marks
  pub wait : (i : ℕ) → IsIn hits i → i < from → is_valid (get_or marks i Waiting) ≡ false
  pub cursors_are : (i : ℕ) → end ≤ i → i < length marks → (i < from) ⊎ IsOut hits i
      → IsPast preds hits marks end i (get_or cursors i 0)
  pub lowest_are : AreLowest starts marks end lowest
  pub flagged : (i : ℕ) → end ≤ i → i < length marks → (i < from) ⊎ IsOut hits i → IsDue preds marks cursors i
      → NoneInvalid marks (get_or starts i 0) i → IsIn flags i
