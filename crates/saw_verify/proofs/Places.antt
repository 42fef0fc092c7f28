-- The place of the first bad line.
use Rattle.std.proofs.Common.{◌≡◌, ℕ, suc, zero, ◌+◌, ◌<◌, ◌≤◌, Bool, true, false, ◌||◌, not, cond, List, [], ◌∷◌, length, get_or, Some, None}
use Rattle.std.proofs.Common.{refl, inl, inr, arith, eqb}
use Rattle.std.specs.List.{list_any, position, position_or_len, onto_first}
use Rattle.std.proofs.lemmas.Bool.{cases_lt, lt-ltb, eqb-false, and_parts, not-true}
use Rattle.std.proofs.lemmas.List.Quantifiers.{position-Some}
use Rattle.saw_verify.specs.Lists.{lines_of, is_empty, is_triple, is_bad_line}

-- ---- the first place in any list

module _ {X : Type 0} (p : X → Bool) where
  none_after : (here : Bool) (n m : ℕ) (rest : Bool) → (m ≤ n → rest ≡ false) → suc m ≤ cond (not here) (1 + n) 0 → (here || rest) ≡ false
  none_after true n m rest ih h = absurd (omega arith)
  none_after false n m rest ih h = ih (omega arith)

  none_by_length : (xs : List X) → length xs ≤ position_or_len p xs → list_any p xs ≡ false
  none_by_length [] h = refl
  none_by_length (x ∷ xs) h = none_after (p x) (position_or_len p xs) (length xs) (list_any p xs) (none_by_length xs) h

  -- where no place is found, nothing passes
  pub list_any-from_no_position : (xs : List X) → position p xs ≡ None → list_any p xs ≡ false
  list_any-from_no_position xs e = elim (cases_lt (position_or_len p xs) (length xs)) [
    | inl within ↦ let found : position p xs ≡ Some (position_or_len p xs) = rw (lt-ltb (position_or_len p xs) (length xs) within) refl in cc
    | inr past ↦ none_by_length xs past
  ]

-- ---- the place of a line

after_line : (here : Bool) (byte : ℕ) (parts : List (List ℕ)) (n : ℕ) → ((i : ℕ) → 0 < length (get_or parts i []) → i + 1 ≤ n) → (i : ℕ)
    → 0 < length (get_or (cond here ([] ∷ parts) (onto_first byte parts)) i []) → i + 1 ≤ suc n
after_line true byte parts n ih zero h = omega arith
after_line true byte parts n ih (suc i) h = let past = ih i h in omega arith
after_line false byte [] n ih zero h = omega arith
after_line false byte [] n ih (suc i) h = absurd (omega arith)
after_line false byte (part ∷ parts) n ih zero h = omega arith
after_line false byte (part ∷ parts) n ih (suc i) h = let past = ih (suc i) h in omega arith

-- a line that is not empty has at least as many bytes before its end as lines before it
within_bytes : (bytes : List ℕ) (i : ℕ) → 0 < length (get_or (lines_of bytes) i []) → i + 1 ≤ length bytes
within_bytes [] zero h = absurd (omega arith)
within_bytes [] (suc i) h = absurd (omega arith)
within_bytes (byte ∷ bytes) i h = after_line (eqb byte 10) byte (lines_of bytes) (length bytes) (within_bytes bytes) i h

bad_has_bytes : (line : List ℕ) → is_bad_line line ≡ true → 0 < length line
bad_has_bytes line bad =
    let filled = eqb-false (length line) 0 (not-true (is_empty line) (and_parts (not (is_empty line)) (not (is_triple line)) bad).0) in
    omega arith

-- the number of a bad line is at most that of the bytes
pub bad_within_bytes : (bytes : List ℕ) (lines : List (List ℕ)) (i : ℕ) → lines ≡ lines_of bytes → position is_bad_line lines ≡ Some i → i + 1 ≤ length bytes
bad_within_bytes bytes lines i are found =
    let here = rw are at found in
    within_bytes bytes i (bad_has_bytes (get_or (lines_of bytes) i []) (position-Some is_bad_line (lines_of bytes) i [] here).1)
