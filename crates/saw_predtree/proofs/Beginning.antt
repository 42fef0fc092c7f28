-- Nothing was added.
use Rattle.std.proofs.Common.{◌≡◌, ℕ, Bool, false, List, [], length, get_or, Some, None, refl, sym, ◌<◌, arith}
use Rattle.std.specs.List.Sorted.{IsStrictlySortedBy}
use Rattle.std.proofs.lemmas.Bool.{true≢false}
use Rattle.saw_predtree.specs.Entries.{AreGiven, no_entries}
use Rattle.saw_predtree.specs.Places.{Places, tree_from}
use Rattle.saw_predtree.specs.Trees.{IsTreeOf}

none-given : AreGiven no_entries
unfolding IsStrictlySortedBy
none-given = record {
  earlier = λ i. tt;
  rising = λ i. tt;
  edges = record {
    pairs = λ j i less h. absurd (true≢false (sym h));
    whole = λ j i less h. absurd (true≢false (sym h));
  };
}

pub begins : (places : Places) (lengths : List Bool) (reaches : List ℕ) → places.entries ≡ [] → length lengths ≡ 36 → reaches ≡ []
    → IsTreeOf (tree_from places lengths reaches 0 false) no_entries
begins places lengths reaches none long short = rw (none, short) (record {
  given = none-given;
  whole = refl;
  later = λ i from. (refl, refl, refl);
  writers = λ prefix j h. absurd (no-writer j h);
  readers = λ prefix j h. absurd (true≢false (sym h));
  written = λ j prefix h. absurd (true≢false (sym h));
  read = λ j prefix h. absurd (true≢false (sym h));
  marked = record {
    marks = long;
    written = λ prefix j h. absurd (no-writer j h);
    read = λ prefix j h. absurd (true≢false (sym h));
  };
  reached = λ i j less. absurd (none-less i j less);
  reaches_long = omega arith;
})
  where
    no-writer : (j : ℕ) → None ≡ Some j → ⊥
    no-writer j e = cc

    none-less : (i j : ℕ) → j < get_or [] i 0 → ⊥
    none-less i j less = omega arith
