-- How often numbers stand among edges.
use Rattle.std.proofs.Common.{◌≡◌, ◌<◌, ◌≤◌, ◌+◌, ◌-◌, ℕ, zero, suc, List, length, get_or, set, take, if◌then◌else◌, ◌==◌, sum, refl, sym, ap, ◌∙◌, arith, inl, inr, add-one, get_or-set_same, get_or-set_other}
use Rattle.std.proofs.lemmas.Bool.{cases_eq, cases_lt, eq-eqb, ne_eqb}
use Rattle.std.proofs.lemmas.List.{take_all}
use Rattle.std.proofs.lemmas.List.Sums.{sum_by_more}
use Rattle.saw_ready.specs.Edges.{AreEdges, IsAt, begin, target}
use Rattle.saw_ready.specs.Successors.{AreCounts, below, left, start_of, times}
use Rattle.saw_ready.specs.declared.edges.Edges.{Edges}

-- ---- as many places from p on

pub times-le : (e : Edges) (j p m : ℕ) → times e j p m ≤ m
unfolding times
times-le e j p zero = omega arith
times-le e j p (suc m) = let h = times-le e j (p + 1) m in grind (arith, h)

pub below-le : (e : Edges) (j p m : ℕ) → below e j p m ≤ m
unfolding below
below-le e j p zero = omega arith
below-le e j p (suc m) = let h = below-le e j (p + 1) m in grind (arith, h)

pub below-zero : (e : Edges) (p m : ℕ) → below e 0 p m ≡ 0
unfolding below
below-zero e p zero = refl
below-zero e p (suc m) = let h = below-zero e (p + 1) m in grind (arith, h)

pub below_mono : (e : Edges) (i j p m : ℕ) → i ≤ j → below e i p m ≤ below e j p m
unfolding below
below_mono e i j p zero le = omega arith
below_mono e i j p (suc m) le = let h = below_mono e i j (p + 1) m le in grind (arith, h)

pub below-next : (e : Edges) (j p m : ℕ) → below e (j + 1) p m ≡ below e j p m + times e j p m
unfolding below times
below-next e j p zero = refl
below-next e j p (suc m) = let h = below-next e j (p + 1) m in grind (arith, h)

-- ---- places from p on to the last

pub left-step : (e : Edges) (n j p : ℕ) → p < begin e n → left e n j p ≡ (if target e p == j then 1 else 0) + left e n j (p + 1)
unfolding times
left-step e n j p lt = let s : begin e n - p ≡ suc (begin e n - (p + 1)) = omega arith in ap (times e j p) s

pub left-hit : (e : Edges) (n j p : ℕ) → p < begin e n → target e p ≡ j → left e n j p ≡ 1 + left e n j (p + 1)
left-hit e n j p lt is = left-step e n j p lt ∙ ap (λ b. (if b then 1 else 0) + left e n j (p + 1)) (eq-eqb (target e p) j is)

pub left-miss : (e : Edges) (n j p : ℕ) → p < begin e n → (target e p ≡ j → ⊥) → left e n j p ≡ left e n j (p + 1)
left-miss e n j p lt not =
    left-step e n j p lt ∙ (ap (λ b. (if b then 1 else 0) + left e n j (p + 1)) (ne_eqb (target e p) j not) ∙ omega arith)

pub left-none : (e : Edges) (n j p : ℕ) → begin e n ≤ p → left e n j p ≡ 0
unfolding times
left-none e n j p le = let s : begin e n - p ≡ 0 = omega arith in ap (times e j p) s

-- ---- where successors begin

pub start_of-next : (e : Edges) (n j : ℕ) → start_of e n (j + 1) ≡ start_of e n j + left e n j (begin e 0)
start_of-next e n j = below-next e j (begin e 0) (begin e n - begin e 0)

pub start_of_mono : (e : Edges) (n i j : ℕ) → i ≤ j → start_of e n i ≤ start_of e n j
start_of_mono e n i j le = below_mono e i j (begin e 0) (begin e n - begin e 0) le

pub start_of-le : (e : Edges) (n j : ℕ) → start_of e n j ≤ begin e n
start_of-le e n j = let h = below-le e j (begin e 0) (begin e n - begin e 0) in omega (arith, h)

pub sum-counts : (e : Edges) (counts : List ℕ) (j : ℕ) → AreCounts e counts → j ≤ length counts
    → sum (take j counts) ≡ start_of e (length counts) j
sum-counts e counts zero are le = sym (below-zero e (begin e 0) (begin e (length counts) - begin e 0))
sum-counts e counts (suc j) are le =
    let lt : j < length counts = omega arith in
    let h = sum-counts e counts j are (omega arith) in
    rw (← add-one j)
    (sum_by_more (λ (x : ℕ). x) counts j 0 lt
    ∙ (ap (λ (x : ℕ). x + get_or counts j 0) h
    ∙ (ap (λ (x : ℕ). start_of e (length counts) j + x) (are j lt) ∙ sym (start_of-next e (length counts) j))))

-- ---- rows

pub begin_mono : (e : Edges) (n i j : ℕ) → AreEdges e n → i ≤ j → j ≤ n → begin e i ≤ begin e j
begin_mono e n i zero edges le within = let z : i ≡ 0 = omega arith in rw z (omega arith)
begin_mono e n i (suc j) edges le within = elim (cases_lt j i) [
  | inl lt ↦ (let z : i ≡ suc j = omega (arith, le, lt) in rw z (omega arith))
  | inr h ↦
      let first = begin_mono e n i j edges h (omega arith) in
      let last : begin e j ≤ begin e (suc j) = rw add-one at (edges.rising j (omega arith)) in
      omega (arith, first, last)
]

-- a place before the last belongs to some number
pub row_of : (e : Edges) (n p : ℕ) → begin e 0 ≤ p → p < begin e n → (k : ℕ) × (k < n) × IsAt e k p
row_of e zero p low high = absurd (omega (arith, low, high))
row_of e (suc n) p low high = elim (cases_lt p (begin e n)) [
  | inl lt ↦ (let r = row_of e n p low lt in (r.0, omega (arith, r.1), r.2))
  | inr le ↦ (n, omega arith, (le, rw add-one high))
]

pub place_in : (e : Edges) (n p : ℕ) → AreEdges e n → begin e 0 ≤ p → p < begin e n → (p < length e.to.items) × (target e p < n)
place_in e n p edges low high =
    let r = row_of e n p low high in
    let at = r.2 in
    let within = edges.within r.0 r.1 in
    let before = at.1 in
    (omega (arith, within, before), edges.below r.0 p r.1 at)

-- ---- while places are counted

pub count-fits : (e : Edges) (n j p count : ℕ) → p < begin e n → target e p ≡ j → count + left e n j p ≡ left e n j (begin e 0)
    → count + 1 ≤ begin e n
count-fits e n j p count lt is so =
    let h = left-hit e n j p lt is in let le = times-le e j (begin e 0) (begin e n - begin e 0) in omega (arith, h, le, so)

pub counts-more : (e : Edges) (n j p count : ℕ) (counts : List ℕ) → length counts ≡ n → j < n → p < begin e n → target e p ≡ j
    → count ≡ get_or counts j 0
    → ((i : ℕ) → i < n → get_or counts i 0 + left e n i p ≡ left e n i (begin e 0))
    → (i : ℕ) → i < n → get_or (set counts j (count + 1)) i 0 + left e n i (p + 1) ≡ left e n i (begin e 0)
counts-more e n j p count counts long inside lt is here so i less = elim (cases_eq i j) [
  | inl s ↦
      let h = left-hit e n j p lt is in
      let o = so j inside in
      rw (s, get_or-set_same counts j (count + 1) 0 (rw long inside)) (omega (arith, h, o, here))
  | inr diff ↦ rw (get_or-set_other counts j i (count + 1) 0 diff, ← left-miss e n i p lt (λ s. diff (sym s ∙ is))) (so i less)
]

pub counts-end : (e : Edges) (n p : ℕ) (counts : List ℕ) → length counts ≡ n → begin e n ≤ p
    → ((i : ℕ) → i < n → get_or counts i 0 + left e n i p ≡ left e n i (begin e 0)) → AreCounts e counts
counts-end e n p counts long past so i lt = rw long (let o = so i (rw long at lt) in let z = left-none e n i p past in omega (arith, o, z))

pub counts-few : (e : Edges) (counts : List ℕ) → AreCounts e counts → sum counts ≤ begin e (length counts)
counts-few e counts are =
    let whole : take (length counts) counts ≡ counts = take_all (length counts) counts (omega arith) in
    let s = sum-counts e counts (length counts) are (omega arith) in
    rw whole at (rw (← s) at (start_of-le e (length counts) (length counts)))
