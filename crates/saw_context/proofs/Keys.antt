-- Keys of finite maps from addresses.
use Rattle.std.proofs.Common.{◌≡◌, ℕ, Bool, true, false, ◌&&◌, cond, T, List, [], ◌∷◌, map, Some, None, Ordering, Less, Equal, Greater, is_eq, is_lt}
use Rattle.std.proofs.Common.{bytes_eq, refl, sym, ap, subst, ◌∙◌, arith}
use Rattle.std.specs.Ordering.{nat_cmp, eq_by_cmp}
use Rattle.std.specs.Cmp.{eq_by_cmp_equiv}
use Rattle.std.specs.Cmp.Lexicographic.{slice_cmp, nat_list_cmp_total, texts_ties}
use Rattle.std.specs.FinMap as finite
use Rattle.std.specs.FinMap.Entries.{find, put, by_order, below_all, is_sorted}
use Rattle.std.specs.List.{AllByRecursion}
use Rattle.std.specs.List.Sorted.{IsStrictlySortedBy}
use Rattle.std.proofs.lemmas.List.{nil_from_length}

-- the order tells apart what differs
pub same_key : (k at : List ℕ) → bytes_eq k at ≡ eq_by_cmp (slice_cmp nat_cmp) at k
same_key k at = texts_ties k at ∙ (eq_by_cmp_equiv nat_list_cmp_total).symm k at

pub both_of : (a b : Bool) → T (a && b) → T a × T b
both_of true b h = (tt, h)
both_of false b h = absurd h

less_of : (r : Ordering) → T (is_lt r) → r ≡ Less
less_of Less h = refl
less_of Equal h = absurd h
less_of Greater h = absurd h

equal_of : (r : Ordering) → is_eq r ≡ true → r ≡ Equal
equal_of Less e = absurd (grind arith)
equal_of Equal e = refl
equal_of Greater e = absurd (grind arith)

pub entries-empty : (V : Type 0) → finite.entries (finite.empty {X = V} {R = slice_cmp nat_cmp}) ≡ []
entries-empty V = nil_from_length _ (sym (finite.len-entries finite.empty) ∙ finite.len-empty (slice_cmp nat_cmp) V)

-- ---- each key

module _ {V : Type 0} (P : List ℕ → Type 0) where
  all_put : (k : List ℕ) (v : V) (es : List (List ℕ × V)) → P k → AllByRecursion (λ e. P e.0) es → AllByRecursion (λ e. P e.0) (put (slice_cmp nat_cmp) k v es)
  all_put k v [] p all = (p, tt)
  all_put k v (e ∷ es) p all =
      elim (slice_cmp nat_cmp k e.0) as (λ r. AllByRecursion (λ e. P e.0) (by_order r ((k, v) ∷ e ∷ es) ((e.0, v) ∷ es) (e ∷ put (slice_cmp nat_cmp) k v es))) [
        | Less ↦ (p, all)
        | Equal ↦ all
        | Greater ↦ (all.0, all_put k v es p all.1)
      ]

  -- what is true of each key, and of one more, is true of each after an insertion
  pub all_inserted : (m : finite.FinMap (slice_cmp nat_cmp) V) (k : List ℕ) (v : V) → P k → AllByRecursion (λ e. P e.0) (finite.entries m)
      → AllByRecursion (λ e. P e.0) (finite.entries (finite.insert m k v))
  all_inserted m k v p all = subst (AllByRecursion (λ e. P e.0)) (sym (finite.entries-insert nat_list_cmp_total m k v)) (all_put k v (finite.entries m) p all)

-- ---- keys in order

module _ {V : Type 0} where
  keys_above : (k : List ℕ) (es : List (List ℕ × V)) → T (below_all (slice_cmp nat_cmp) k es)
      → AllByRecursion (λ y. slice_cmp nat_cmp k y ≡ Less) (map (λ e. e.0) es)
  keys_above k [] h = tt
  keys_above k (e ∷ es) h = let b = both_of _ _ h in (less_of _ b.0, keys_above k es b.1)

  entries_rise : (es : List (List ℕ × V)) → T (is_sorted (slice_cmp nat_cmp) es) → IsStrictlySortedBy (slice_cmp nat_cmp) (map (λ e. e.0) es)
  unfolding IsStrictlySortedBy
  entries_rise [] h = tt
  entries_rise (e ∷ es) h = let b = both_of _ _ h in (keys_above e.0 es b.0, entries_rise es b.1)

  -- the keys of a map strictly rise
  pub keys_rise : (m : finite.FinMap (slice_cmp nat_cmp) V) → IsStrictlySortedBy (slice_cmp nat_cmp) (finite.keys m)
  keys_rise m = entries_rise (finite.entries m) (finite.entries_sorted m)

  -- a key is not found among keys above it
  pub find_above : (k at : List ℕ) (es : List (List ℕ × V)) → T (below_all (slice_cmp nat_cmp) k es) → eq_by_cmp (slice_cmp nat_cmp) at k ≡ true
      → find (slice_cmp nat_cmp) at es ≡ None
  find_above k at [] h tied = refl
  find_above k at (e ∷ es) h tied =
      let b = both_of _ _ h in
      ap (λ r. cond (is_eq r) (Some e.1) (find (slice_cmp nat_cmp) at es)) (nat_list_cmp_total.congr at k e.0 (equal_of _ tied) ∙ less_of _ b.0)
      ∙ find_above k at es b.1 tied
