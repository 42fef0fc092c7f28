-- What a state has inside: pieces under their hashes, and the roots that are known.
use Rattle.std.specs.Prelude.{◌≡◌, ℕ, Bool, true, List, map, cond, Option, Some}
use Rattle.std.specs.List.{list_any}
use Rattle.std.specs.Ordering.{nat_cmp, eq_by_cmp}
use Rattle.std.specs.Cmp.Lexicographic.{slice_cmp}
use Rattle.std.specs.BTreeMap.{is_at}
use Rattle.std.specs.FinMap as finite
use Rattle.saw_address.specs.Maps.{no_entries}
use Rattle.saw_runs.specs.Entries.{Entry, IsRead}
use Rattle.saw_runs.specs.Keeping.{AreTheirs}
use Rattle.saw_runs.specs.Listing.{map_read}
use Rattle.saw_runs.specs.OfMaps.{IsPieceOf}
use Rattle.saw_runs.specs.Told.{IsRootOf}
use Rattle.saw_merkle.specs.States.{States}

-- a root is among these
abbrev pub has_root : List (List ℕ) → List ℕ → Bool
has_root roots root = list_any (is_at (slice_cmp nat_cmp root)) roots

-- these roots are those, and one more
abbrev pub HasMore : List (List ℕ) → List (List ℕ) → List ℕ → Type 0
HasMore old new root = (q : List ℕ) → has_root new q ≡ cond (eq_by_cmp (slice_cmp nat_cmp) root q) true
    (has_root old q)

-- these roots are those
abbrev pub HasSame : List (List ℕ) → List (List ℕ) → Type 0
HasSame old new = (q : List ℕ) → has_root new q ≡ has_root old q

-- the map of each of these roots, as it is read from the root on
abbrev pub states_of : (List ℕ → Option Entry) → List (List ℕ) → States
states_of read roots = finite.from_entries (map (λ root. (root, map_read read root)) roots)

-- a piece of the map of one of these roots
pub record IsOfRoots (hash : List ℕ → List ℕ) (read : List ℕ → Option Entry) (roots : List (List ℕ))
    (entry : Entry) : Type 0 where
  pub root : List ℕ
  pub has : has_root roots root ≡ true
  pub is : IsPieceOf hash (finite.entries (map_read read root)) entry

-- Each piece is under its own hash. Below each known root all is kept, and nothing else is; the empty root is known.
pub record IsSound (hash : List ℕ → List ℕ) (read : List ℕ → Option Entry) (roots : List (List ℕ)) (empty : List ℕ)
    : Type 0 where
  pub theirs : AreTheirs hash read
  pub known : (root : List ℕ) → has_root roots root ≡ true → IsRootOf hash (IsRead read) (map_read read root) root
  pub only : (h : List ℕ) (entry : Entry) → read h ≡ Some entry → IsOfRoots hash read roots entry
  pub empty_known : has_root roots empty ≡ true
  pub empty_is : IsRootOf hash (IsRead read) no_entries empty
