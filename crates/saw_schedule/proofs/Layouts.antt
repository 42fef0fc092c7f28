-- Batches in a row: their ends, and for each transaction the start of its batch.
use Rattle.std.proofs.Common.{◌≡◌, ◌<◌, ◌≤◌, ◌+◌, ◌-◌, ℕ, true, false, nat_lt, List, [], ◌∷◌, ◌++◌, length, map, take, get_or, replicate, sum, refl, sym, ap, ◌∙◌, arith, ◌⊎◌, inl, inr}
use Rattle.std.proofs.lemmas.List.{append-nil, append_assoc, get_or-append_right, get_or-replicate, get_or_append_left, length-append, length-replicate, map_push, take_more}
use Rattle.std.proofs.lemmas.List.Sums.{sum_by-cons, sum_by_more}
use Rattle.saw_machine.specs.Machine.{own_start}
use Rattle.saw_messages.specs.TxShapes.{BatchShape, TxShape}
use Rattle.saw_plan.specs.BatchShapes.{transactions_in, txs_of}
use Rattle.saw_ready.specs.Layouts.{AreStarts}
use Rattle.saw_schedule.specs.Layout.{ends_of, starts_of}

sum-first : (size : ℕ) (sizes : List ℕ) → sum (size ∷ sizes) ≡ size + sum sizes
sum-first size sizes = sum_by-cons (λ x. x) size sizes

lt-or-le : (a b : ℕ) → (a < b) ⊎ (b ≤ a)
lt-or-le a b = grind arith

-- ---- one more batch

pub ends-push : (n : ℕ) (sizes : List ℕ) (size : ℕ) → ends_of n (sizes ++ size ∷ []) ≡ ends_of n sizes ++ (n + sum sizes + size) ∷ []
ends-push n [] size = let e : n + size ≡ n + 0 + size = omega arith in rw e refl
ends-push n (first ∷ sizes) size =
    let e : n + first + sum sizes + size ≡ n + sum (first ∷ sizes) + size = omega (arith, sum-first first sizes) in
    rw (ends-push (n + first) sizes size, e) refl

pub starts-push : (n : ℕ) (sizes : List ℕ) (size : ℕ) → starts_of n (sizes ++ size ∷ []) ≡ starts_of n sizes ++ replicate size (n + sum sizes)
starts-push n [] size = let e : n ≡ n + 0 = omega arith in append-nil (replicate size n) ∙ ap (λ start. replicate size start) e
starts-push n (first ∷ sizes) size =
    let e : n + first + sum sizes ≡ n + sum (first ∷ sizes) = omega (arith, sum-first first sizes) in
    rw (starts-push (n + first) sizes size, e) (sym (append_assoc (replicate first n) (starts_of (n + first) sizes) (replicate size (n + sum (first ∷ sizes)))))

-- ---- starts

pub length-starts : (n : ℕ) (sizes : List ℕ) → length (starts_of n sizes) ≡ sum sizes
length-starts n [] = refl
length-starts n (size ∷ sizes) =
    let more : length (starts_of (n + size) sizes) ≡ sum sizes = length-starts (n + size) sizes in
    rw (length-append (replicate size n) (starts_of (n + size) sizes), length-replicate size n, more) (sym (sum-first size sizes))

start-here : (n size : ℕ) (sizes : List ℕ) (j : ℕ) → j < n + size → own_start n (size ∷ sizes) j ≡ n
start-here n size sizes j lt = let e : nat_lt j (n + size) ≡ true = grind arith in rw e refl

start-later : (n size : ℕ) (sizes : List ℕ) (j : ℕ) → n + size ≤ j → own_start n (size ∷ sizes) j ≡ own_start (n + size) sizes j
start-later n size sizes j le = let e : nat_lt j (n + size) ≡ false = grind arith in rw e refl

start-from : (n : ℕ) (sizes : List ℕ) (i j : ℕ) → j ≡ n + i → i < sum sizes → get_or (starts_of n sizes) i 0 ≡ own_start n sizes j
start-from n [] i j e lt = absurd (omega arith)
start-from n (size ∷ sizes) i j e lt = elim (lt-or-le i size) [
  | inl less ↦
      let long : length (replicate size n) ≡ size = length-replicate size n in
      get_or_append_left (replicate size n) (starts_of (n + size) sizes) 0 i (omega (arith, long, less))
      ∙ (get_or-replicate size i n 0 less ∙ sym (start-here n size sizes j (omega (arith, less))))
  | inr more ↦
      get_or-append_right (replicate size n) (starts_of (n + size) sizes) size i 0 (length-replicate size n) more
      ∙ (start-from (n + size) sizes (i - size) j (omega (arith, more)) (omega (arith, sum-first size sizes, more)) ∙ sym (start-later n size sizes j (omega (arith, more))))
]

-- the start of a number is no less than the first one
start-low : (n : ℕ) (sizes : List ℕ) (j : ℕ) → n ≤ own_start n sizes j
start-low n [] j = omega arith
start-low n (size ∷ sizes) j = elim (lt-or-le j (n + size)) [
  | inl less ↦ rw (start-here n size sizes j less) (omega arith)
  | inr more ↦ rw (start-later n size sizes j more) (let low : n + size ≤ own_start (n + size) sizes j = start-low (n + size) sizes j in omega (arith, low))
]

start-high : (n : ℕ) (sizes : List ℕ) (j : ℕ) → n ≤ j → j < n + sum sizes → own_start n sizes j ≤ j
start-high n [] j low lt = omega arith
start-high n (size ∷ sizes) j low lt = elim (lt-or-le j (n + size)) [
  | inl less ↦ rw (start-here n size sizes j less) low
  | inr more ↦ rw (start-later n size sizes j more) (start-high (n + size) sizes j more (omega (arith, sum-first size sizes)))
]

start-rises : (n : ℕ) (sizes : List ℕ) (i j : ℕ) → i ≤ j → own_start n sizes i ≤ own_start n sizes j
start-rises n [] i j le = omega arith
start-rises n (size ∷ sizes) i j le = elim (lt-or-le i (n + size)) [
  | inl less ↦ rw (start-here n size sizes i less) (start-low n (size ∷ sizes) j)
  | inr more ↦ rw (start-later n size sizes i more, start-later n size sizes j (omega (arith, more))) (start-rises (n + size) sizes i j le)
]

start-own : (n : ℕ) (sizes : List ℕ) (j : ℕ) → n ≤ j → j < n + sum sizes → own_start n sizes (own_start n sizes j) ≡ own_start n sizes j
start-own n [] j low lt = absurd (omega arith)
start-own n (size ∷ sizes) j low lt = elim (lt-or-le j (n + size)) [
  | inl less ↦ rw (start-here n size sizes j less) (start-here n size sizes n (omega (arith, low, less)))
  | inr more ↦
      rw (start-later n size sizes j more)
      (start-later n size sizes (own_start (n + size) sizes j) (start-low (n + size) sizes j) ∙ start-own (n + size) sizes j more (omega (arith, sum-first size sizes)))
]

-- each transaction's start is that of its batch
pub start-at : (sizes : List ℕ) (i : ℕ) → i < sum sizes → get_or (starts_of 0 sizes) i 0 ≡ own_start 0 sizes i
start-at sizes i lt = start-from 0 sizes i i (omega arith) lt

pub starts-are : (sizes : List ℕ) → AreStarts (starts_of 0 sizes)
starts-are sizes = record {
  rising = λ i j le lt.
      let inside : j < sum sizes = rw (length-starts 0 sizes) at lt in
      rw (start-at sizes i (omega (arith, le, inside)), start-at sizes j inside) (start-rises 0 sizes i j le);
  low = λ i lt.
      let inside : i < sum sizes = rw (length-starts 0 sizes) at lt in
      rw (start-at sizes i inside) (start-high 0 sizes i (omega arith) (omega (arith, inside)));
  own = λ i lt.
      let inside : i < sum sizes = rw (length-starts 0 sizes) at lt in
      let high : own_start 0 sizes i ≤ i = start-high 0 sizes i (omega arith) (omega (arith, inside)) in
      rw (start-at sizes i inside) (start-at sizes (own_start 0 sizes i) (omega (arith, high, inside)) ∙ start-own 0 sizes i (omega arith) (omega (arith, inside)));
}

-- ---- of batches

pub sum-sizes : (batches : List BatchShape) → sum (map length (txs_of batches)) ≡ transactions_in batches
sum-sizes [] = refl
sum-sizes (batch ∷ batches) =
    sum-first (length batch.txs) (map length (txs_of batches)) ∙ (ap (λ count. length batch.txs + count) (sum-sizes batches) ∙ sym (sum_by-cons (λ (one : BatchShape). length one.txs) batch batches))

module _ (batches : List BatchShape) (i : ℕ) (batch : BatchShape) (inside : i < length batches) (is : batch ≡ get_or batches i batch) (count : ℕ) (long : count ≡ length batch.txs) where
  abbrev before : List BatchShape
  before = take i batches

  abbrev sizes : List ℕ
  sizes = map length (txs_of before)

  sizes-more : map length (txs_of (take (i + 1) batches)) ≡ sizes ++ count ∷ []
  sizes-more =
      rw (take_more batches i batch inside, ← is, map_push (λ (b : BatchShape). b.txs) before batch, map_push (λ (txs : List TxShape). length txs) (txs_of before) batch.txs, long) refl

  counted-more : transactions_in (take (i + 1) batches) ≡ transactions_in before + count
  counted-more = rw long (sum_by_more {X = BatchShape} (λ one. length one.txs) batches i batch inside ∙ ap (λ (one : BatchShape). transactions_in before + length one.txs) (sym is))

  -- one more end
  pub ends-more : (end : ℕ) (ends new_ends : List ℕ) → end ≡ transactions_in before → ends ≡ ends_of 0 sizes → new_ends ≡ ends ++ (end + count) ∷ []
      → (end + count ≡ transactions_in (take (i + 1) batches)) × (new_ends ≡ ends_of 0 (map length (txs_of (take (i + 1) batches))))
  ends-more end ends new_ends counted so_far more =
      let e : end + count ≡ 0 + sum sizes + count = omega (arith, counted, sum-sizes before) in
      (rw counted (sym counted-more), more ∙ rw (sizes-more, so_far, e) (sym (ends-push 0 sizes count)))

  -- the starts of one more batch
  pub starts-more : (starts new_starts : List ℕ) (start : ℕ) → start ≡ length starts → starts ≡ starts_of 0 sizes → new_starts ≡ starts ++ replicate count start
      → new_starts ≡ starts_of 0 (map length (txs_of (take (i + 1) batches)))
  starts-more starts new_starts start long_is so_far more =
      let e : start ≡ 0 + sum sizes = long_is ∙ (ap (λ (all : List ℕ). length all) so_far ∙ (length-starts 0 sizes ∙ omega arith)) in
      more ∙ rw (sizes-more, so_far, e) (sym (starts-push 0 sizes count))
