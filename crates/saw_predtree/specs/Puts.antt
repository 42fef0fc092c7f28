-- What a new reader and a new writer change.
use Rattle.std.specs.Prelude.{◌≡◌, ◌⊎◌, ℕ, Bool, true, List, Some}
use Rattle.saw_address.specs.Prefixes.{covers}
use Rattle.saw_predtree.specs.Places.{Places, place_at, readers_at, writer_at}
use Rattle.saw_predtree.specs.Searches.{IsAbove, IsCovered}
use Rattle.saw_predtree.specs.Trees.{AreMarked, is_in, is_one_of}

-- n reads at these keys; where one of the others lies below a key, n may stand for the readers there
pub record PutsReaders (old new : Places) (n : ℕ) (others keys : List (List ℕ)) : Type 0 where
  pub writers : (at : List ℕ) → writer_at new at ≡ writer_at old at
  pub kept : (at : List ℕ) (j : ℕ) → is_in (readers_at old at) j ≡ true
      → (is_in (readers_at new at) j ≡ true) ⊎ ((is_in (readers_at new at) n ≡ true) × IsAbove at others)
  pub only : (at : List ℕ) (j : ℕ) → is_in (readers_at new at) j ≡ true
      → (is_in (readers_at old at) j ≡ true) ⊎ ((j ≡ n) × (is_one_of keys at ≡ true))
  pub here : (key : List ℕ) → is_one_of keys key ≡ true → is_in (readers_at new key) n ≡ true

-- n is the writer at or above each of these keys, and what has changed lies below them
pub record IsWriterAbove (places : Places) (n : ℕ) (key : List ℕ) : Type 0 where
  pub at : List ℕ
  pub above : covers at key ≡ true
  pub writer : writer_at places at ≡ Some n

pub record PutsWriters (old new : Places) (n : ℕ) (keys : List (List ℕ)) : Type 0 where
  pub kept : (at : List ℕ) → (place_at new at ≡ place_at old at) ⊎ IsCovered keys at
  pub writers : (at : List ℕ) (j : ℕ) → writer_at new at ≡ Some j → (writer_at old at ≡ Some j) ⊎ ((j ≡ n) × (is_one_of keys at ≡ true))
  pub readers : (at : List ℕ) (j : ℕ) → is_in (readers_at new at) j ≡ true → is_in (readers_at old at) j ≡ true
  pub here : (key : List ℕ) → is_one_of keys key ≡ true → IsWriterAbove new n key

-- marks stay right
abbrev pub KeepsMarks : List Bool → Places → List Bool → Places → Type 0
KeepsMarks old_lengths old new_lengths new =
    AreMarked old_lengths (writer_at old) (readers_at old) → AreMarked new_lengths (writer_at new) (readers_at new)
