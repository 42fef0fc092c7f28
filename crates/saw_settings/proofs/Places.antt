-- The first element that passes a test, by its place.
use Rattle.std.proofs.Common.{◌≡◌, ℕ, zero, suc, ◌+◌, ◌<◌, ◌≤◌, Bool, true, false, cond, not, List, [], ◌∷◌, ◌++◌, length, get_or, set, Some, None}
use Rattle.std.proofs.Common.{ltb, refl, ap, sym, ◌∙◌, arith}
use Rattle.std.specs.List.{position, position_or_len}
use Rattle.std.specs.Str.{bytes_eq}
use Rattle.std.proofs.lemmas.Bool.{ltb-true, ltb-false}
use Rattle.saw_settings.specs.Actions.{found_in}
use Rattle.saw_settings.specs.Keys.{with_value}
use Rattle.saw_settings.specs.declared.setting.SettingEntry.{SettingEntry}

-- what it means that a search gave this place
pub record IsFirst {X : Type 0} (p : X → Bool) (xs : List X) (place : ℕ) : Type 0 where
  pub is : place ≡ position_or_len p xs
  pub within : position_or_len p xs < length xs

first_by : {X : Type 0} (p : X → Bool) (xs : List X) (place : ℕ) (b : Bool) → ltb (position_or_len p xs) (length xs) ≡ b
    → Some place ≡ cond b (Some (position_or_len p xs)) None → IsFirst p xs place
first_by p xs place true is found = record { is = cc; within = ltb-true (position_or_len p xs) (length xs) is }
first_by p xs place false is found = absurd cc

pub first_is : {X : Type 0} (p : X → Bool) (xs : List X) (place : ℕ) → Some place ≡ position p xs → IsFirst p xs place
first_is p xs place found = first_by p xs place (ltb (position_or_len p xs) (length xs)) refl found

none_by : {X : Type 0} (p : X → Bool) (xs : List X) (b : Bool) → ltb (position_or_len p xs) (length xs) ≡ b
    → None ≡ cond b (Some (position_or_len p xs)) None → length xs ≤ position_or_len p xs
none_by p xs true is found = absurd cc
none_by p xs false is found = ltb-false (position_or_len p xs) (length xs) is

pub none_is : {X : Type 0} (p : X → Bool) (xs : List X) → None ≡ position p xs → length xs ≤ position_or_len p xs
none_is p xs found = none_by p xs (ltb (position_or_len p xs) (length xs)) refl found

-- ---- entries by their keys

abbrev has_key : List ℕ → SettingEntry → Bool
has_key key entry = bytes_eq entry.key key

abbrev entry_of : List ℕ → List ℕ → SettingEntry
entry_of key value = record { key = key; value = value }

changes_by : (b : Bool) (key value : List ℕ) (entry : SettingEntry) (entries : List SettingEntry)
    → (position_or_len (has_key key) entries < length entries
    → set entries (position_or_len (has_key key) entries) (entry_of key value) ≡ with_value key value entries)
    → cond (not b) (1 + position_or_len (has_key key) entries) 0 < length (entry ∷ entries)
    → set (entry ∷ entries) (cond (not b) (1 + position_or_len (has_key key) entries) 0) (entry_of key value) ≡ cond b (entry_of key value ∷ entries)
    (entry ∷ with_value key value entries)
changes_by true key value entry entries later lt = refl
changes_by false key value entry entries later lt =
    let e : 1 + position_or_len (has_key key) entries ≡ suc (position_or_len (has_key key) entries) = omega arith in
    rw e (ap (λ (others : List SettingEntry). entry ∷ others) (later (omega arith)))

-- the first entry with the key is changed
pub changes : (key value : List ℕ) (entries : List SettingEntry) → position_or_len (has_key key) entries < length entries
    → set entries (position_or_len (has_key key) entries) (entry_of key value) ≡ with_value key value entries
changes key value [] lt = absurd (omega arith)
changes key value (entry ∷ entries) lt = changes_by (bytes_eq entry.key key) key value entry entries (changes key value entries) lt

adds_by : (b : Bool) (key value : List ℕ) (entry : SettingEntry) (entries : List SettingEntry)
    → (length entries ≤ position_or_len (has_key key) entries → entries ++ entry_of key value ∷ [] ≡ with_value key value entries)
    → length (entry ∷ entries) ≤ cond (not b) (1 + position_or_len (has_key key) entries) 0
    → (entry ∷ entries) ++ entry_of key value ∷ [] ≡ cond b (entry_of key value ∷ entries) (entry ∷ with_value key value entries)
adds_by true key value entry entries later past = absurd (omega arith)
adds_by false key value entry entries later past = ap (λ (others : List SettingEntry). entry ∷ others) (later (omega arith))

-- a new one is added where there is none
pub adds : (key value : List ℕ) (entries : List SettingEntry) → length entries ≤ position_or_len (has_key key) entries
    → entries ++ entry_of key value ∷ [] ≡ with_value key value entries
adds key value [] past = refl
adds key value (entry ∷ entries) past = adds_by (bytes_eq entry.key key) key value entry entries (adds key value entries) past

-- what is made, where the entries are seen through other names
pub replaced : (key value new_key new_value : List ℕ) (entries items shown made : List SettingEntry) (place : ℕ) → new_key ≡ key → new_value ≡ value
    → items ≡ entries → shown ≡ items
    → Some place ≡ position (has_key key) shown → made ≡ set items place (entry_of new_key new_value) → made ≡ with_value key value entries
replaced key value new_key new_value entries items shown made place k v is sees found e =
    let same : shown ≡ entries = sees ∙ is in
    let first = first_is (has_key key) entries place (found ∙ ap (position (has_key key)) same) in
    e ∙ ap (λ es. set es place (entry_of new_key new_value)) is ∙ ap (λ n. set entries n (entry_of new_key new_value)) first.is
    ∙ ap (λ t. set entries (position_or_len (has_key key) entries) (entry_of t new_value)) k
    ∙ ap (λ t. set entries (position_or_len (has_key key) entries) (entry_of key t)) v
    ∙ changes key value entries first.within

pub added : (key value new_key new_value : List ℕ) (entries items shown made : List SettingEntry) → new_key ≡ key → new_value ≡ value
    → items ≡ entries → shown ≡ items
    → None ≡ position (has_key key) shown → made ≡ items ++ entry_of new_key new_value ∷ [] → made ≡ with_value key value entries
added key value new_key new_value entries items shown made k v is sees found e =
    let same : shown ≡ entries = sees ∙ is in
    let past = none_is (has_key key) entries (found ∙ ap (position (has_key key)) same) in
    e ∙ ap (λ es. es ++ entry_of new_key new_value ∷ []) is ∙ ap (λ t. entries ++ entry_of t new_value ∷ []) k ∙ ap (λ t. entries ++ entry_of key t ∷ []) v
    ∙ adds key value entries past

-- ---- elements with their places

found_by : {X : Type 0} (b : Bool) (p : X → Bool) (i : ℕ) (x d : X) (xs : List X)
    → (position_or_len p xs < length xs → found_in p (i + 1) xs ≡ Some (i + 1 + position_or_len p xs, get_or xs (position_or_len p xs) d))
    → cond (not b) (1 + position_or_len p xs) 0 < length (x ∷ xs)
    → cond b (Some (i, x)) (found_in p (i + 1) xs) ≡ Some (
      i + cond (not b) (1 + position_or_len p xs) 0,
      get_or (x ∷ xs)
          (cond (not b) (1 + position_or_len p xs) 0) d,
    )
found_by true p i x d xs later lt = let e : i ≡ i + 0 = omega arith in ap (λ n. Some (n, x)) e
found_by false p i x d xs later lt =
    let e : 1 + position_or_len p xs ≡ suc (position_or_len p xs) = omega arith in
    let f : i + 1 + position_or_len p xs ≡ i + (1 + position_or_len p xs) = omega arith in
    later (omega arith) ∙ ap (λ n. Some (n, get_or xs (position_or_len p xs) d)) f
    ∙ ap (λ n. Some (i + (1 + position_or_len p xs), get_or (x ∷ xs) n d)) (sym e)

pub found_at : {X : Type 0} (p : X → Bool) (i : ℕ) (d : X) (xs : List X) → position_or_len p xs < length xs
    → found_in p i xs ≡ Some (i + position_or_len p xs, get_or xs (position_or_len p xs) d)
found_at p i d [] lt = absurd (omega arith)
found_at p i d (x ∷ xs) lt = found_by (p x) p i x d xs (found_at p (i + 1) d xs) lt

missing_by : {X : Type 0} (b : Bool) (p : X → Bool) (i : ℕ) (x : X) (xs : List X) → (length xs ≤ position_or_len p xs → found_in p (i + 1) xs ≡ None)
    → length (x ∷ xs) ≤ cond (not b) (1 + position_or_len p xs) 0 → cond b (Some (i, x)) (found_in p (i + 1) xs) ≡ None
missing_by true p i x xs later past = absurd (omega arith)
missing_by false p i x xs later past = later (omega arith)

pub missing : {X : Type 0} (p : X → Bool) (i : ℕ) (xs : List X) → length xs ≤ position_or_len p xs → found_in p i xs ≡ None
missing p i [] past = refl
missing p i (x ∷ xs) past = missing_by (p x) p i x xs (missing p (i + 1) xs) past

element : {X : Type 0} (xs : List X) (i : ℕ) → i < length xs → (x : X) × (x ≡ get_or xs i x)
element [] i lt = absurd (omega arith)
element (x ∷ xs) zero lt = (x, refl)
element (x ∷ xs) (suc i) lt = let e = element xs i (omega arith) in (e.0, e.1)

-- what a search gave: the element at the place
pub record Found {X : Type 0} (p : X → Bool) (xs : List X) (place : ℕ) : Type 0 where
  pub within : place < length xs
  pub it : X
  pub here : it ≡ get_or xs place it
  pub is : found_in p 0 xs ≡ Some (place, it)

pub found : {X : Type 0} (p : X → Bool) (xs : List X) (place : ℕ) → Some place ≡ position p xs → Found p xs place
found p xs place given =
    let first = first_is p xs place given in
    let within : place < length xs = omega (arith, first.is, first.within) in
    let one = element xs place within in
    let e : 0 + position_or_len p xs ≡ place = omega (arith, first.is) in
    record {
      within = within;
      it = one.0;
      here = one.1;
      is = found_at p 0 one.0 xs first.within ∙ ap (λ n. Some (n, get_or xs (position_or_len p xs) one.0)) e
          ∙ ap (λ n. Some (place, get_or xs n one.0)) (sym first.is) ∙ ap (λ x. Some (place, x)) (sym one.1);
    }
