-- What a tree keeps, and when it is that of what was added.
use Rattle.std.specs.Prelude.{◌≡◌, ◌<◌, ◌≤◌, ◌==◌, ◌⊎◌, ℕ, Bool, true, false, List, [], length, Option, Some, get_or}
use Rattle.std.specs.List.{list_any}
use Rattle.std.specs.Str.{bytes_eq}
use Rattle.saw_address.specs.Prefixes.{covers}
use Rattle.saw_machine.specs.Orders.{stands}
use Rattle.saw_predtree.specs.Entries.{AreGiven, Entries, is_given, with_entry}

-- the last writer at a prefix, and who has read there since; of each number a bound below which it stands on all
pub record Tree : Type 0 where
  pub writers : List ℕ → Option ℕ
  pub readers : List ℕ → List ℕ
  pub lengths : List Bool  -- which lengths the prefixes have at which something stands
  pub reaches : List ℕ
  pub next : ℕ  -- the least number that may be added
  pub failed : Bool  -- memory was refused

-- the number is m, or m stands on it
abbrev pub IsUnder : Entries → ℕ → ℕ → Type 0
IsUnder w j m = (m ≡ j) ⊎ (stands (is_given w) m j ≡ true)

abbrev pub is_one_of : List (List ℕ) → List ℕ → Bool
is_one_of prefixes prefix = list_any (λ other. bytes_eq other prefix) prefixes

abbrev pub is_in : List ℕ → ℕ → Bool
is_in numbers j = list_any (λ number. number == j) numbers

-- what j writes at a prefix is written at or above it by j, or by one that stands on j
pub record IsWritten (tree : Tree) (w : Entries) (j : ℕ) (prefix : List ℕ) : Type 0 where
  pub place : List ℕ
  pub by : ℕ
  pub above : covers place prefix ≡ true
  pub writer : tree.writers place ≡ Some by
  pub under : IsUnder w j by

-- what j reads at a prefix is read or written at or above it by j, or by one that stands on j
pub record IsRead (tree : Tree) (w : Entries) (j : ℕ) (prefix : List ℕ) : Type 0 where
  pub place : List ℕ
  pub by : ℕ
  pub above : covers place prefix ≡ true
  pub there : (tree.writers place ≡ Some by) ⊎ (is_in (tree.readers place) by ≡ true)
  pub under : IsUnder w j by

-- where something stands, its length is marked
pub record AreMarked (lengths : List Bool) (writers : List ℕ → Option ℕ) (readers : List ℕ → List ℕ) : Type 0 where
  pub marks : length lengths ≡ 36
  pub written : (prefix : List ℕ) (j : ℕ) → writers prefix ≡ Some j → get_or lengths (length prefix) false ≡ true
  pub read : (prefix : List ℕ) (j : ℕ) → is_in (readers prefix) j ≡ true → get_or lengths (length prefix) false ≡ true

-- the tree is that of what was added
pub record IsTreeOf (tree : Tree) (w : Entries) : Type 0 where
  pub given : AreGiven w
  pub whole : tree.failed ≡ false
  pub later : (i : ℕ) → tree.next ≤ i → (w.inputs i ≡ []) × (w.outputs i ≡ []) × (w.given i ≡ [])
  pub writers : (prefix : List ℕ) (j : ℕ) → tree.writers prefix ≡ Some j → (j < tree.next) × (is_one_of (w.outputs j) prefix ≡ true)
  pub readers : (prefix : List ℕ) (j : ℕ) → is_in (tree.readers prefix) j ≡ true → (j < tree.next) × (is_one_of (w.inputs j) prefix ≡ true)
  pub written : (j : ℕ) (prefix : List ℕ) → is_one_of (w.outputs j) prefix ≡ true → IsWritten tree w j prefix
  pub read : (j : ℕ) (prefix : List ℕ) → is_one_of (w.inputs j) prefix ≡ true → IsRead tree w j prefix
  pub marked : AreMarked tree.lengths tree.writers tree.readers
  pub reached : (i j : ℕ) → j < get_or tree.reaches i 0 → stands (is_given w) i j ≡ true
  pub reaches_long : length tree.reaches ≤ tree.next

-- a number was added, for which these were given
abbrev pub Adds : Tree → Tree → ℕ → List (List ℕ) → List (List ℕ) → List ℕ → Type 0
Adds old new n inputs outputs given = (w : Entries) → IsTreeOf old w → IsTreeOf new (with_entry w n inputs outputs given)
