-- Standing on another, step by step.
use Rattle.std.proofs.Common.{◌≡◌, ℕ, zero, suc, ◌<◌, Bool, true, ◌&&◌, ◌||◌, ◌==◌, ◌⊎◌, inl, inr, refl, sym, ◌∙◌, arith}
use Rattle.std.proofs.lemmas.Bool.{and_from, and_parts, cases_eq, eq-eqb, eqb-true, ne_eqb, or_cases, or_left, or_right, true≢false}
use Rattle.saw_machine.specs.Orders.{any_below, stands, stands_below}

-- ---- some number below another

pub any-here : (n k : ℕ) (test : ℕ → Bool) → k < n → test k ≡ true → any_below n test ≡ true
any-here zero k test less e = absurd (omega arith)
any-here (suc n) k test less e = elim (cases_eq k n) [
  | inl here ↦ or_left (test n) (any_below n test) (rw here at e)
  | inr other ↦ or_right (test n) (any_below n test) (any-here n k test (omega arith) e)
]

pub any-found : (n : ℕ) (test : ℕ → Bool) → any_below n test ≡ true → (k : ℕ) × (k < n) × (test k ≡ true)
any-found zero test e = absurd (true≢false (sym e))
any-found (suc n) test e = elim (or_cases (test n) (any_below n test) e) [
  | inl here ↦ (n, omega arith, here)
  | inr below ↦ let found = any-found n test below in let less = found.1 in (found.0, omega arith, found.2)
]

pub any-same : (n : ℕ) (test other : ℕ → Bool) → ((k : ℕ) → k < n → test k ≡ other k) → any_below n test ≡ any_below n other
any-same zero test other same = refl
any-same (suc n) test other same = rw (same n (omega arith), any-same n test other (λ k less. same k (omega arith))) refl

-- ---- one step

-- k precedes i, and it is j or stands on j
abbrev is_step : (ℕ → ℕ → Bool) → ℕ → ℕ → ℕ → Bool
is_step precedes i j k = precedes k i && (k == j || stands_below precedes i k j)

stands-steps : (precedes : ℕ → ℕ → Bool) (i j : ℕ) → stands precedes i j ≡ any_below i (is_step precedes i j)
stands-steps precedes i j = rw (eq-eqb i i refl) refl

stands-below : (precedes : ℕ → ℕ → Bool) (n k j : ℕ) → k < n → stands_below precedes n k j ≡ stands precedes k j
stands-below precedes zero k j less = absurd (omega arith)
stands-below precedes (suc n) k j less = elim (cases_eq k n) [
  | inl here ↦ rw here refl
  | inr other ↦ rw (ne_eqb k n other) (stands-below precedes n k j (omega arith))
]

-- i stands on what precedes it
pub stands-direct : (precedes : ℕ → ℕ → Bool) (j i : ℕ) → j < i → precedes j i ≡ true → stands precedes i j ≡ true
stands-direct precedes j i less e =
    stands-steps precedes i j
    ∙ any-here i j (is_step precedes i j) less (and_from (precedes j i) _ e (or_left (j == j) _ (eq-eqb j j refl)))

-- and on what that stands on
pub stands-through : (precedes : ℕ → ℕ → Bool) (k i j : ℕ) → k < i → precedes k i ≡ true → stands precedes k j ≡ true → stands precedes i j ≡ true
stands-through precedes k i j less e on =
    stands-steps precedes i j
    ∙ any-here i k (is_step precedes i j) less (and_from (precedes k i) _ e (or_right (k == j) _ (stands-below precedes i k j less ∙ on)))

-- the first step from i down to j
pub record Through (precedes : ℕ → ℕ → Bool) (i j : ℕ) : Type 0 where
  pub by : ℕ
  pub less : by < i
  pub edge : precedes by i ≡ true
  pub rest : (by ≡ j) ⊎ (stands precedes by j ≡ true)

pub stands-back : (precedes : ℕ → ℕ → Bool) (i j : ℕ) → stands precedes i j ≡ true → Through precedes i j
stands-back precedes i j on =
    let found = any-found i (is_step precedes i j) (sym (stands-steps precedes i j) ∙ on) in
    let parts = and_parts (precedes found.0 i) _ found.2 in
    record {
      by = found.0;
      less = found.1;
      edge = parts.0;
      rest = elim (or_cases (found.0 == j) _ parts.1) [
        | inl same ↦ inl (eqb-true found.0 j same)
        | inr below ↦ inr (sym (stands-below precedes i found.0 j found.1) ∙ below)
      ];
    }

-- ---- many steps

-- what stands on another comes after it
after-below : (precedes : ℕ → ℕ → Bool) (n i j : ℕ) → i < n → stands precedes i j ≡ true → j < i
after-below precedes zero i j less on = absurd (omega arith)
after-below precedes (suc n) i j less on =
    let step : Through precedes i j = stands-back precedes i j on in
    elim step.rest [
      | inl here ↦ omega arith
      | inr below ↦ let lower = after-below precedes n step.by j (omega arith) below in omega arith
    ]

pub stands-after : (precedes : ℕ → ℕ → Bool) (i j : ℕ) → stands precedes i j ≡ true → j < i
stands-after precedes i j on = after-below precedes (suc i) i j (omega arith) on

trans-below : (precedes : ℕ → ℕ → Bool) (n i k j : ℕ) → i < n → stands precedes i k ≡ true → stands precedes k j ≡ true → stands precedes i j ≡ true
trans-below precedes zero i k j less on lower = absurd (omega arith)
trans-below precedes (suc n) i k j less on lower =
    let step : Through precedes i k = stands-back precedes i k on in
    stands-through precedes step.by i j step.less step.edge
    (elim step.rest [
      | inl here ↦ rw here lower
      | inr below ↦ trans-below precedes n step.by k j (omega arith) below lower
    ])

pub stands-trans : (precedes : ℕ → ℕ → Bool) (i k j : ℕ) → stands precedes i k ≡ true → stands precedes k j ≡ true → stands precedes i j ≡ true
stands-trans precedes i k j on lower = trans-below precedes (suc i) i k j (omega arith) on lower
