-- Edges that are made row by row.
use Rattle.std.proofs.Common.{◌≡◌, ◌<◌, ◌≤◌, ◌+◌, ◌-◌, ℕ, zero, suc, Bool, true, false, ◌&&◌, ◌||◌, ◌==◌, nat_lt, List, [], ◌∷◌, ◌++◌, length, take, drop, get_or, refl, sym, ap, subst, ◌∙◌, arith, ◌⊎◌, inl, inr, if◌then◌else◌, Option, Some, None, slice_get}
use Rattle.std.specs.List.{AllByRecursion, between, list_any}
use Rattle.std.proofs.Math.Seq.{drop-append_seam}
use Rattle.std.proofs.lemmas.List.{get_or-append_right, get_or_append_left, get_or_past, length-append, take-append-le, take_all}
use Rattle.std.proofs.lemmas.List.Edits.{get_or-between, length-between}
use Rattle.std.proofs.lemmas.List.Folds.{list_any-append}
use Rattle.std.proofs.lemmas.Slice.{between_is}
use Rattle.std.proofs.lemmas.Option.{slice_get_past}
use Rattle.saw_messages.specs.TxShapes.{TxShape}
use Rattle.saw_plan.specs.Precedence.{numbers_below, on_tx, precedes_in}
use Rattle.saw_ready.specs.Edges.{AreEarlier, AreEdges, begin, finish, target}
use Rattle.saw_ready.specs.declared.edges.Edges.{Edges}
use Rattle.saw_schedule.specs.Orders.{names_in}
use Rattle.saw_schedule.specs.Shows.{is_edge, targets_of}

lt-or-le : (a b : ℕ) → (a < b) ⊎ (b ≤ a)
lt-or-le a b = grind arith

-- the first k rows
pub record AreRows (from to : List ℕ) (k : ℕ) (row : ℕ → List ℕ) : Type 0 where
  pub long : length from ≡ k + 1
  pub end : get_or from k 0 ≡ length to
  pub within : (i : ℕ) → i ≤ k → get_or from i 0 ≤ length to
  pub rising : (i : ℕ) → i < k → get_or from i 0 ≤ get_or from (i + 1) 0
  pub rows : (i : ℕ) → i < k → between (get_or from i 0) (get_or from (i + 1) 0) to ≡ row i

pub no-rows : (row : ℕ → List ℕ) → AreRows (0 ∷ []) [] 0 row
no-rows row = record {
  long = refl;
  end = refl;
  within = λ i le. let e : i ≡ 0 = omega arith in rw e (omega arith);
  rising = λ i lt. absurd (omega arith);
  rows = λ i lt. absurd (omega arith);
}

between-left : (xs ys : List ℕ) (i j : ℕ) → j ≤ length xs → between i j (xs ++ ys) ≡ between i j xs
between-left xs ys i j le = between_is (xs ++ ys) i j ∙ (ap (λ (all : List ℕ). drop i all) (take-append-le j xs ys le) ∙ sym (between_is xs i j))

between-right : (xs ys : List ℕ) (j : ℕ) → j ≡ length (xs ++ ys) → between (length xs) j (xs ++ ys) ≡ ys
between-right xs ys j e = between_is (xs ++ ys) (length xs) j ∙ (ap (λ (all : List ℕ). drop (length xs) all) (take_all j (xs ++ ys) (omega (arith, e))) ∙ drop-append_seam xs ys)

module _ (from to : List ℕ) (k : ℕ) (row : ℕ → List ℕ) (are : AreRows from to k row) (new : List ℕ) (more : new ≡ to ++ row k) where
  grown : length new ≡ length to + length (row k)
  grown = rw more (length-append to (row k))

  kept : (i : ℕ) → i ≤ k → get_or (from ++ length new ∷ []) i 0 ≡ get_or from i 0
  kept i le = get_or_append_left from (length new ∷ []) 0 i (let l : length from ≡ k + 1 = are.long in omega (arith, l, le))

  last : get_or (from ++ length new ∷ []) (k + 1) 0 ≡ length new
  last = get_or-append_right from (length new ∷ []) (k + 1) (k + 1) 0 are.long (omega arith) ∙ (let e : k + 1 - (k + 1) ≡ 0 = omega arith in rw e refl)

  pub one-more-row : AreRows (from ++ length new ∷ []) new (k + 1) row
  one-more-row = record {
    long = length-append from (length new ∷ []) ∙ ap (λ n. n + 1) are.long;
    end = last;
    within = λ i le. elim (lt-or-le k i) [
      | inl over ↦ let e : i ≡ k + 1 = omega (arith, over, le) in rw (e, last) (omega arith)
      | inr low ↦ rw (kept i low) (let w : get_or from i 0 ≤ length to = are.within i low in omega (arith, w, grown))
    ];
    rising = λ i lt. elim (lt-or-le i k) [
      | inl less ↦ rw (kept i (omega (arith, less)), kept (i + 1) (omega (arith, less))) (are.rising i less)
      | inr over ↦ let e : i ≡ k = omega (arith, over, lt) in rw (e, last, kept k (omega arith), are.end) (omega (arith, grown))
    ];
    rows = λ i lt. elim (lt-or-le i k) [
      | inl less ↦
          rw (kept i (omega (arith, less)), kept (i + 1) (omega (arith, less)), more)
          (between-left to (row k) (get_or from i 0) (get_or from (i + 1) 0) (are.within (i + 1) (omega (arith, less))) ∙ are.rows i less)
      | inr over ↦ let e : i ≡ k = omega (arith, over, lt) in rw e new-row
    ];
  }
    where
      new-row : between (get_or (from ++ length new ∷ []) k 0) (get_or (from ++ length new ∷ []) (k + 1) 0) new ≡ row k
      new-row = rw (last, kept k (omega arith), are.end, more) (between-right to (row k) (length (to ++ row k)) refl)

  pub row-pushed : (new_from : List ℕ) (place : ℕ) → place ≡ length new → new_from ≡ from ++ place ∷ [] → AreRows new_from new (k + 1) row
  row-pushed new_from place e is = rw (is, e) one-more-row

-- ---- rows of numbers that pass a test

module _ (n j : ℕ) (t : Bool) where
  below-step : j < n → (b : Bool) → ((nat_lt j n && t) || list_any (λ k. k == j) (if b then n ∷ [] else [])) ≡ (nat_lt j (suc n) && t)
  below-step less true = let x : nat_lt j n ≡ true = grind arith in let y : nat_lt j (suc n) ≡ true = grind arith in let z : (n == j) ≡ false = grind arith in rw (x, y, z) (grind arith)
  below-step less false = let x : nat_lt j n ≡ true = grind arith in let y : nat_lt j (suc n) ≡ true = grind arith in rw (x, y) (grind arith)

  past-step : n < j → (b : Bool) → ((nat_lt j n && t) || list_any (λ k. k == j) (if b then n ∷ [] else [])) ≡ (nat_lt j (suc n) && t)
  past-step more true = let x : nat_lt j n ≡ false = grind arith in let y : nat_lt j (suc n) ≡ false = grind arith in let z : (n == j) ≡ false = grind arith in rw (x, y, z) refl
  past-step more false = let x : nat_lt j n ≡ false = grind arith in let y : nat_lt j (suc n) ≡ false = grind arith in rw (x, y) refl

  here-step : n ≡ j → (b : Bool) → t ≡ b → ((nat_lt j n && t) || list_any (λ k. k == j) (if b then n ∷ [] else [])) ≡ (nat_lt j (suc n) && t)
  here-step e true is = let x : nat_lt j n ≡ false = grind arith in let y : nat_lt j (suc n) ≡ true = grind arith in let z : (n == j) ≡ true = grind arith in rw (x, y, z, is) refl
  here-step e false is = let x : nat_lt j n ≡ false = grind arith in let y : nat_lt j (suc n) ≡ true = grind arith in rw (x, y, is) refl

-- a number is among those that pass exactly where it does
pub any-below : (n j : ℕ) (test : ℕ → Bool) → list_any (λ t. t == j) (numbers_below n test) ≡ (nat_lt j n && test j)
any-below zero j test = let e : nat_lt j 0 ≡ false = grind arith in rw e refl
any-below (suc n) j test =
    list_any-append (λ t. t == j) (numbers_below n test) (if test n then n ∷ [] else [])
    ∙ (ap (λ b. b || list_any (λ t. t == j) (if test n then n ∷ [] else [])) (any-below n j test) ∙ go (lt-or-le j n) (lt-or-le n j))
  where
    go : (j < n) ⊎ (n ≤ j) → (n < j) ⊎ (j ≤ n) → ((nat_lt j n && test j) || list_any (λ t. t == j) (if test n then n ∷ [] else [])) ≡ (nat_lt j (suc n) && test j)
    go (inl less) other = below-step n j (test j) less (test n)
    go (inr more) (inl past) = past-step n j (test j) past (test n)
    go (inr more) (inr low) = let e : n ≡ j = omega (arith, more, low) in here-step n j (test j) e (test n) (ap test (sym e))

pub all-append : (P : ℕ → Type 0) (xs ys : List ℕ) → AllByRecursion P xs → AllByRecursion P ys → AllByRecursion P (xs ++ ys)
all-append P [] ys all more = more
all-append P (x ∷ xs) ys all more = (all.0, all-append P xs ys all.1 more)

all-later : (xs : List ℕ) (n m : ℕ) → n ≤ m → AllByRecursion (λ j. j < n) xs → AllByRecursion (λ j. j < m) xs
all-later [] n m le all = tt
all-later (x ∷ xs) n m le all = (let l : x < n = all.0 in omega (arith, l, le), all-later xs n m le all.1)

-- each is below n
pub all-below : (n : ℕ) (test : ℕ → Bool) → AllByRecursion (λ j. j < n) (numbers_below n test)
all-below zero test = tt
all-below (suc n) test =
    all-append (λ j. j < suc n) (numbers_below n test) (if test n then n ∷ [] else []) (all-later (numbers_below n test) n (suc n) (omega arith) (all-below n test)) (last (test n))
  where
    last : (b : Bool) → AllByRecursion (λ j. j < suc n) (if b then n ∷ [] else [])
    last true = (omega arith, tt)
    last false = tt

-- ---- rows whose numbers are earlier ones

low-at : (i : ℕ) (xs : List ℕ) (p : ℕ) → AllByRecursion (λ j. j < i) xs → p < length xs → get_or xs p 0 < i
low-at i [] p all lt = absurd (omega arith)
low-at i (x ∷ xs) zero all lt = all.0
low-at i (x ∷ xs) (suc p) all lt = low-at i xs p all.1 (omega arith)

all-low : (i : ℕ) (xs : List ℕ) → ((p : ℕ) → p < length xs → get_or xs p 0 < i) → AllByRecursion (λ j. j < i) xs
all-low i [] low = tt
all-low i (x ∷ xs) low = (low 0 (omega arith), all-low i xs (λ p lt. low (suc p) (omega arith)))

-- what stands at a place of row k
row-at : (e : Edges) (k p : ℕ) → begin e k ≤ p → p < finish e k → get_or (targets_of e k) (p - begin e k) 0 ≡ target e p
row-at e k p low high =
    let here : begin e k + (p - begin e k) ≡ p = omega (arith, low) in
    get_or-between e.to.items (begin e k) (finish e k) (p - begin e k) 0 (omega (arith, low, high)) ∙ ap (λ place. get_or e.to.items place 0) here

-- the numbers of a row of earlier ones
pub targets-low : (e : Edges) (n i : ℕ) → AreEdges e n → AreEarlier e n → i < n → AllByRecursion (λ j. j < i) (targets_of e i)
targets-low e n i edges earlier lt = all-low i (targets_of e i) low
  where
    within : finish e i ≤ length e.to.items
    within = edges.within i lt

    low : (p : ℕ) → p < length (targets_of e i) → get_or (targets_of e i) p 0 < i
    low p less =
        let long : length (targets_of e i) ≡ finish e i - begin e i = length-between e.to.items (begin e i) (finish e i) within in
        let same : begin e i + p - begin e i ≡ p = omega arith in
        let high : begin e i + p < finish e i = omega (arith, less, long) in
        let at : get_or (targets_of e i) p 0 ≡ target e (begin e i + p) =
        sym (ap (λ place. get_or (targets_of e i) place 0) same) ∙ row-at e i (begin e i + p) (omega arith) high in
        rw at (earlier i (begin e i + p) lt (omega arith, high))

module _ (e : Edges) (n : ℕ) (row : ℕ → List ℕ) (are : AreRows e.from.items e.to.items n row) where
  -- past the count there is no edge
  pub rows-past : (i j : ℕ) → n ≤ i → is_edge e j i ≡ false
  rows-past i j past =
      let none : finish e i ≡ 0 = get_or_past e.from.items (i + 1) 0 (let l : length e.from.items ≡ n + 1 = are.long in omega (arith, l, past)) in
      ap (λ (row : List ℕ). list_any (λ t. t == j) row) (ap (λ (end : ℕ). between (begin e i) end e.to.items) none ∙ (between_is e.to.items (begin e i) 0 ∙ empty (begin e i)))
    where
      empty : (k : ℕ) → drop k (take 0 e.to.items) ≡ []
      empty zero = refl
      empty (suc k) = refl

  -- below it, those of the row are the edges
  pub rows-in : (i j : ℕ) → i < n → is_edge e j i ≡ list_any (λ t. t == j) (row i)
  rows-in i j lt = ap (λ (row : List ℕ). list_any (λ t. t == j) row) (are.rows i lt)

  module _ (low : (i : ℕ) → i < n → AllByRecursion (λ j. j < i) (row i)) where
    pub rows-earlier : AreEarlier e n
    rows-earlier = λ k p lt at.
        let below : begin e k ≤ p = at.0 in
        let high : p < finish e k = at.1 in
        let within : finish e k ≤ length e.to.items = are.within (k + 1) (omega (arith, lt)) in
        let long : length (targets_of e k) ≡ finish e k - begin e k = length-between e.to.items (begin e k) (finish e k) within in
        let is : targets_of e k ≡ row k = are.rows k lt in
        let inside : p - begin e k < length (row k) = rw is at (let l : p - begin e k < length (targets_of e k) = rw long (omega (arith, below, high)) in l) in
        rw (← row-at e k p below high, is) (low-at k (row k) (p - begin e k) (low k lt) inside)

    pub rows-edges : AreEdges e n
    rows-edges = record {
      long = are.long;
      rising = are.rising;
      within = λ k lt. are.within (k + 1) (omega (arith, lt));
      below = λ k p lt at. let l : target e p < k = rows-earlier k p lt at in omega (arith, l, lt);
    }

pub rows-at : (from to : List ℕ) (k n : ℕ) (row : ℕ → List ℕ) → k ≤ n → n ≤ k → AreRows from to k row → AreRows from to n row
rows-at from to k n row low high are = let e : k ≡ n = omega (arith, low, high) in subst (λ (count : ℕ). AreRows from to count row) e are

-- rows that agree below the count
pub rows-same : (from to : List ℕ) (k : ℕ) (row other : ℕ → List ℕ) → ((i : ℕ) → i < k → row i ≡ other i) → AreRows from to k row → AreRows from to k other
rows-same from to k row other same are = record {
  long = are.long;
  end = are.end;
  within = are.within;
  rising = are.rising;
  rows = λ i lt. are.rows i lt ∙ same i lt;
}

-- ---- transactions past the last

module _ (txs : List TxShape) (n : ℕ) (counted : n ≡ length txs) where
  past-none : (i : ℕ) → n ≤ i → slice_get txs i ≡ None
  past-none i past = slice_get_past txs i (omega (arith, past, counted))

  pub none-precede : (i j : ℕ) → n ≤ i → precedes_in txs j i ≡ false
  none-precede i j past = rw (past-none i past) (go (slice_get txs j))
    where
      go : (one : Option TxShape) → on_tx one (λ tx. false) ≡ false
      go None = refl
      go (Some tx) = refl

  pub none-named : (i j : ℕ) → n ≤ i → names_in txs i j ≡ false
  none-named i j past = rw (past-none i past) refl
