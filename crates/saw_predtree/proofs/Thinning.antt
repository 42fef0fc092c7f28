-- Numbers in order, of which those from one on are taken, each once.
use Rattle.std.proofs.Common.{cond, Bool, nat_le, ◌≡◌, ℕ, zero, suc, ◌+◌, ◌-◌, ◌≤◌, ◌<◌, true, false, ◌==◌, ◌⊎◌, inl, inr, List, [], ◌∷◌, ◌++◌, length, get_or, refl, sym, ap, ◌∙◌, subst, arith, Less, add-zero}
use Rattle.std.specs.List.{filter, AllByRecursion}
use Rattle.std.specs.List.Sorted.{IsPermutation, IsSorted, IsStrictlySortedBy}
use Rattle.std.specs.Ordering.{is_lt, nat_cmp}
use Rattle.std.proofs.lemmas.Bool.{le-leb, cases_lt, eq-eqb, eqb-true, or_cases, or_left, or_right, true≢false}
use Rattle.std.proofs.lemmas.List.Sorted.{list_any-IsPermutation}
use Rattle.std.proofs.lemmas.List.Folds.{list_any_at}
use Rattle.saw_predtree.specs.Thinned.{AreFrom}
use Rattle.saw_predtree.specs.Trees.{is_in}
use Rattle.saw_predtree.proofs.Members.{any-left, any-parts, any-right, in-itself, in-one}

-- the numbers so far: those from `from` on were taken, and all that were taken are below `low`
pub record AreFromSoFar (sorted : List ℕ) (from count : ℕ) (given : List ℕ) (low : ℕ) : Type 0 where
  pub rising : IsStrictlySortedBy nat_cmp given
  pub below : (j : ℕ) → is_in given j ≡ true → j < low
  pub among : (j : ℕ) → is_in given j ≡ true → (from ≤ j) × (is_in sorted j ≡ true)
  pub whole : (k : ℕ) → k < count → k < length sorted → from ≤ get_or sorted k 0 → is_in given (get_or sorted k 0) ≡ true
  pub last : (low ≡ from) ⊎ ((y : ℕ) × (low ≡ y + 1) × (is_in given y ≡ true) × ((k : ℕ) → count ≤ k → k < length sorted → y ≤ get_or sorted k 0))

-- ---- order

sorted-push : (xs : List ℕ) (x : ℕ) → IsStrictlySortedBy nat_cmp xs → ((j : ℕ) → is_in xs j ≡ true → j < x) → IsStrictlySortedBy nat_cmp (xs ++ x ∷ [])
unfolding IsStrictlySortedBy
sorted-push [] x sorted less = (tt, tt)
sorted-push (y ∷ xs) x sorted less = (
  all-push xs sorted.0,
  sorted-push xs x sorted.1 (λ j h. less j (or_right (y == j) (is_in xs j) h)),
)
  where
    is-less : nat_cmp y x ≡ Less
    is-less = let l : y < x = less y (or_left (y == y) (is_in xs y) (eq-eqb y y refl)) in grind arith

    all-push : (zs : List ℕ) → AllByRecursion (λ (z : ℕ). nat_cmp y z ≡ Less) zs → AllByRecursion (λ (z : ℕ). nat_cmp y z ≡ Less) (zs ++ x ∷ [])
    all-push [] all = (is-less, tt)
    all-push (z ∷ zs) all = (all.0, all-push zs all.1)

not-less : (a b : ℕ) → is_lt (nat_cmp a b) ≡ false → b ≤ a
not-less a b h = grind arith

climbs : (xs : List ℕ) → IsSorted nat_cmp xs → (i n : ℕ) → i + n < length xs → get_or xs i 0 ≤ get_or xs (i + n) 0
climbs xs sorted i zero inside = rw add-zero (omega arith)
climbs xs sorted i (suc n) inside =
    let before : get_or xs i 0 ≤ get_or xs (i + n) 0 = climbs xs sorted i n (omega arith) in
    let step : get_or xs (i + n) 0 ≤ get_or xs (i + n + 1) 0 = not-less _ _ (sorted (i + n) 0 (omega arith) (omega arith)) in
    let same : i + suc n ≡ i + n + 1 = omega arith in
    rw same (omega arith)

pub rises : (xs : List ℕ) → IsSorted nat_cmp xs → (i k : ℕ) → i ≤ k → k < length xs → get_or xs i 0 ≤ get_or xs k 0
rises xs sorted i k less inside =
    let same : i + (k - i) ≡ k = omega arith in
    rw same at (climbs xs sorted i (k - i) (rw same inside))

-- ---- the walk

pub from-begins : (sorted : List ℕ) (from : ℕ) → AreFromSoFar sorted from 0 [] from
unfolding IsStrictlySortedBy
from-begins sorted from = record {
  rising = tt;
  below = λ j h. absurd (true≢false (sym h));
  among = λ j h. absurd (true≢false (sym h));
  whole = λ k less inside from. absurd (omega arith);
  last = inl refl;
}

module _ (sorted : List ℕ) (from count : ℕ) (given : List ℕ) (low number : ℕ) (so : AreFromSoFar sorted from count given low) (order : IsSorted nat_cmp sorted)
    (inside : count < length sorted) (is : number ≡ get_or sorted count 0) where
  -- a number that is taken
  pub from-takes : low ≤ number → AreFromSoFar sorted from (count + 1) (given ++ number ∷ []) (number + 1)
  from-takes reached = record {
    rising = sorted-push given number so.rising (λ j h. let l = so.below j h in omega arith);
    below = λ j h. elim (any-parts (λ (n : ℕ). n == j) given (number ∷ []) h) [
      | inl before ↦ let l = so.below j before in omega arith
      | inr here ↦ let e = in-one number j here in omega arith
    ];
    among = λ j h. elim (any-parts (λ (n : ℕ). n == j) given (number ∷ []) h) [
      | inl before ↦ so.among j before
      | inr here ↦ subst (λ (n : ℕ). (from ≤ n) × (is_in sorted n ≡ true)) (in-one number j here) (from-low, is-there)
    ];
    whole = λ k less in_sorted large. elim (cases_lt k count) [
      | inl before ↦ any-left (λ (n : ℕ). n == get_or sorted k 0) given (number ∷ []) (so.whole k before in_sorted large)
      | inr here ↦
          let same : k ≡ count = omega arith in
          let e : number ≡ get_or sorted k 0 = is ∙ ap (λ (n : ℕ). get_or sorted n 0) (sym same) in
          any-right (λ (n : ℕ). n == get_or sorted k 0) given (number ∷ []) (subst (λ (n : ℕ). is_in (number ∷ []) n ≡ true) e (in-itself number))
    ];
    last = inr (
      number,
      refl,
      any-right (λ (n : ℕ). n == number) given (number ∷ []) (in-itself number),
      λ k behind in_sorted. rw is (rises sorted order count k (omega arith) in_sorted),
    );
  }
    where
      is-there : is_in sorted number ≡ true
      is-there = list_any_at (λ (n : ℕ). n == number) sorted count 0 inside (eq-eqb (get_or sorted count 0) number (sym is))

      from-low : from ≤ number
      from-low = elim so.last [
        | inl same ↦ omega arith
        | inr more ↦ let l = (so.among more.0 more.2).0 in let e = more.1 in omega arith
      ]

  -- a number that is passed over
  pub from-passes : number < low → AreFromSoFar sorted from (count + 1) given low
  from-passes under = record {
    rising = so.rising;
    below = so.below;
    among = so.among;
    whole = λ k less in_sorted large. elim (cases_lt k count) [
      | inl before ↦ so.whole k before in_sorted large
      | inr here ↦
          let same : k ≡ count = omega arith in
          let e : number ≡ get_or sorted k 0 = is ∙ ap (λ (n : ℕ). get_or sorted n 0) (sym same) in
          subst (λ (n : ℕ). is_in given n ≡ true) e (is-taken (rw (← e) at large))
    ];
    last = elim so.last [
      | inl same ↦ inl same
      | inr more ↦ inr (more.0, more.1, more.2, λ k behind in_sorted. more.3 k (omega arith) in_sorted)
    ];
  }
    where
      is-taken : from ≤ number → is_in given number ≡ true
      is-taken large = elim so.last [
        | inl same ↦ absurd (omega arith)
        | inr more ↦
            let l = more.3 count (omega arith) inside in
            let e = more.1 in
            let here : more.0 ≡ number = omega arith in
            subst (λ (n : ℕ). is_in given n ≡ true) here more.2
      ]

-- all were passed
pub from-ends : (sorted : List ℕ) (from count : ℕ) (given : List ℕ) (low : ℕ) → AreFromSoFar sorted from count given low → length sorted ≤ count → AreFrom sorted from given
from-ends sorted from count given low so all = record {
  rising = so.rising;
  among = so.among;
  whole = λ j large h. found j large sorted (λ k in_list. so.whole k (omega arith) in_list) h;
}
  where
    found : (j : ℕ) → from ≤ j → (rest : List ℕ) → ((k : ℕ) → k < length rest → from ≤ get_or rest k 0 → is_in given (get_or rest k 0) ≡ true)
        → is_in rest j ≡ true → is_in given j ≡ true
    found j large [] each h = absurd (true≢false (sym h))
    found j large (x ∷ rest) each h = elim (or_cases (x == j) (is_in rest j) h) [
      | inl here ↦
          let e = eqb-true x j here in
          subst (λ (n : ℕ). is_in given n ≡ true) e (each 0 (omega arith) (rw e large))
      | inr later ↦ found j large rest (λ k in_list. each (suc k) (omega arith)) later
    ]

-- ---- those that are large enough

module _ (test : ℕ → Bool) where
  in-filter : (xs : List ℕ) (j : ℕ) → is_in (filter test xs) j ≡ true → is_in xs j ≡ true
  in-filter [] j h = h
  in-filter (x ∷ xs) j h = go (in-filter xs j) (test x) h
    where
      go : (is_in (filter test xs) j ≡ true → is_in xs j ≡ true) → (b : Bool) → is_in (cond b (x ∷ filter test xs) (filter test xs)) j ≡ true → is_in (x ∷ xs) j ≡ true
      go rest false k = or_right (x == j) (is_in xs j) (rest k)
      go rest true k = elim (or_cases (x == j) (is_in (filter test xs) j) k) [
        | inl here ↦ or_left (x == j) (is_in xs j) here
        | inr later ↦ or_right (x == j) (is_in xs j) (rest later)
      ]

  filter-in : (xs : List ℕ) (j : ℕ) → test j ≡ true → is_in xs j ≡ true → is_in (filter test xs) j ≡ true
  filter-in [] j passes h = h
  filter-in (x ∷ xs) j passes h = go (filter-in xs j passes) (test x) refl (or_cases (x == j) (is_in xs j) h)
    where
      go : (is_in xs j ≡ true → is_in (filter test xs) j ≡ true) → (b : Bool) → test x ≡ b → (x == j ≡ true) ⊎ (is_in xs j ≡ true)
          → is_in (cond b (x ∷ filter test xs) (filter test xs)) j ≡ true
      go rest true is (inl here) = or_left (x == j) (is_in (filter test xs) j) here
      go rest true is (inr later) = or_right (x == j) (is_in (filter test xs) j) (rest later)
      go rest false is (inl here) = absurd (true≢false (sym passes ∙ (ap test (sym (eqb-true x j here)) ∙ is)))
      go rest false is (inr later) = rest later

-- of those that are large enough, in order, the same are taken as of all
pub from-filtered : (found sorted given : List ℕ) (from : ℕ) → IsPermutation (filter (λ n. nat_le from n) found) sorted → AreFrom sorted from given → AreFrom found from given
from-filtered found sorted given from order are = record {
  rising = are.rising;
  among = λ j h. let is = are.among j h in (is.0, in-filter (λ n. nat_le from n) found j (same j ∙ is.1));
  whole = λ j large h. are.whole j large (sym (same j) ∙ filter-in (λ n. nat_le from n) found j (le-leb from j large) h);
}
  where
    same : (j : ℕ) → is_in (filter (λ n. nat_le from n) found) j ≡ is_in sorted j
    same j = list_any-IsPermutation (λ (number : ℕ). number == j) (filter (λ n. nat_le from n) found) sorted order
