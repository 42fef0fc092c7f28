-- What was added to a tree, by number, and what was given for it.
use Rattle.std.specs.Prelude.{◌<◌, ◌==◌, ◌||◌, ℕ, Bool, List, [], if◌then◌else◌}
use Rattle.std.specs.List.{AllByRecursion, list_any}
use Rattle.std.specs.List.Sorted.{IsStrictlySortedBy}
use Rattle.std.specs.Ordering.{nat_cmp}
use Rattle.saw_address.specs.Prefixes.{overlaps}
use Rattle.saw_machine.specs.Orders.{AreEdgesOf}

-- of each number the prefixes that it reads and writes, and the earlier numbers that were given for it; what was not
-- added has none
pub record Entries : Type 0 where
  pub inputs : ℕ → List (List ℕ)
  pub outputs : ℕ → List (List ℕ)
  pub given : ℕ → List ℕ

abbrev pub no_entries : Entries
no_entries = record { inputs = λ i. []; outputs = λ i. []; given = λ i. [] }

-- a number is added
abbrev pub with_entry : Entries → ℕ → List (List ℕ) → List (List ℕ) → List ℕ → Entries
with_entry w n inputs outputs given = record {
  inputs = λ i. if i == n then inputs else w.inputs i;
  outputs = λ i. if i == n then outputs else w.outputs i;
  given = λ i. if i == n then given else w.given i;
}

abbrev pub some_overlap : List (List ℕ) → List (List ℕ) → Bool
some_overlap prefixes others = list_any (λ prefix. list_any (λ other. overlaps prefix other) others) prefixes

-- a pair by overlap: j writes what i reads or writes, or reads what i writes
abbrev pub is_pair : Entries → ℕ → ℕ → Bool
is_pair w j i =
    some_overlap (w.outputs j) (w.inputs i)
    || (some_overlap (w.outputs j) (w.outputs i) || some_overlap (w.inputs j) (w.outputs i))

-- j was given for i
abbrev pub is_given : Entries → ℕ → ℕ → Bool
is_given w j i = list_any (λ number. number == j) (w.given i)

-- what was given for each number: earlier ones, rising, each a pair by overlap, and every such pair follows from them
pub record AreGiven (w : Entries) : Type 0 where
  pub earlier : (i : ℕ) → AllByRecursion (λ j. j < i) (w.given i)
  pub rising : (i : ℕ) → IsStrictlySortedBy nat_cmp (w.given i)
  pub edges : AreEdgesOf (is_pair w) (is_given w)
