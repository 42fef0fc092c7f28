-- What stands on a failed batch.
use Rattle.std.proofs.Common.{◌≡◌, ℕ, ◌+◌, ◌<◌, ◌≤◌, Bool, true, false, ◌&&◌, ◌||◌, nat_le, inl, inr, arith}
use Rattle.std.proofs.lemmas.Bool.{and_from, and_parts, cases_Bool, le-leb, leb-true, or_cases, or_left, or_right}
use Rattle.saw_machine.specs.Orders.{any_below, stands}
use Rattle.saw_machine.specs.Serial.{within}
use Rattle.saw_machine.specs.Machine.{is_hit}
use Rattle.saw_machine.proofs.Closure.{Through, any-found, any-here, stands-after, stands-back, stands-direct, stands-through}

pub within-yes : (n size j : ℕ) → n ≤ j → j < n + size → within n size j ≡ true
within-yes n size j from to = grind arith

pub within-no : (n size j : ℕ) → n + size ≤ j → within n size j ≡ false
within-no n size j late = grind arith

pub within-before : (n size j : ℕ) → j < n → within n size j ≡ false
within-before n size j early = grind arith

pub within-is : (n size j : ℕ) → within n size j ≡ true → (n ≤ j) × (j < n + size)
within-is n size j is = (grind arith, grind arith)

pub outside : (n size j : ℕ) → within n size j ≡ false → n ≤ j → n + size ≤ j
outside n size j isnt from = grind arith

-- what i stands on, in the batch
abbrev is_member : (ℕ → ℕ → Bool) → ℕ → ℕ → ℕ → ℕ → Bool
is_member precedes n size i k = within n size k && stands precedes i k

hit-by : (precedes : ℕ → ℕ → Bool) (n size i k : ℕ) → n + size ≤ i → within n size k ≡ true → stands precedes i k ≡ true → is_hit precedes n size i ≡ true
hit-by precedes n size i k late is on =
    and_from (nat_le (n + size) i) _ (le-leb (n + size) i late)
    (any-here (n + size) k (is_member precedes n size i) (within-is n size k is).1 (and_from (within n size k) _ is on))

-- a hit comes after the batch
pub hit-late : (precedes : ℕ → ℕ → Bool) (n size i : ℕ) → is_hit precedes n size i ≡ true → n + size ≤ i
hit-late precedes n size i hit = leb-true (n + size) i (and_parts (nat_le (n + size) i) _ hit).0

hit-member : (precedes : ℕ → ℕ → Bool) (n size i : ℕ) → is_hit precedes n size i ≡ true → (k : ℕ) × (within n size k ≡ true) × (stands precedes i k ≡ true)
hit-member precedes n size i hit =
    let found = any-found (n + size) (is_member precedes n size i) (and_parts (nat_le (n + size) i) _ hit).1 in
    let parts = and_parts (within n size found.0) _ found.2 in
    (found.0, parts.0, parts.1)

-- what a member precedes is hit
pub hit-direct : (precedes : ℕ → ℕ → Bool) (n size j i : ℕ) → within n size j ≡ true → j < i → precedes j i ≡ true → n + size ≤ i
    → is_hit precedes n size i ≡ true
hit-direct precedes n size j i is less e late = hit-by precedes n size i j late is (stands-direct precedes j i less e)

-- and what a hit precedes
pub hit-through : (precedes : ℕ → ℕ → Bool) (n size j i : ℕ) → is_hit precedes n size j ≡ true → j < i → precedes j i ≡ true → is_hit precedes n size i ≡ true
hit-through precedes n size j i hit less e =
    let late = hit-late precedes n size j hit in
    let member = hit-member precedes n size j hit in
    hit-by precedes n size i member.0 (omega arith) member.1 (stands-through precedes j i member.0 less e member.2)

-- a member, or a hit
abbrev pub is_source : (ℕ → ℕ → Bool) → ℕ → ℕ → ℕ → Bool
is_source precedes n size k = within n size k || is_hit precedes n size k

-- and nothing else is hit
pub hit-back : (precedes : ℕ → ℕ → Bool) (n size i : ℕ) → is_hit precedes n size i ≡ true
    → any_below i (λ k. precedes k i && is_source precedes n size k) ≡ true
hit-back precedes n size i hit =
    let member = hit-member precedes n size i hit in
    let step : Through precedes i member.0 = stands-back precedes i member.0 member.2 in
    any-here i step.by (λ k. precedes k i && is_source precedes n size k) step.less
    (and_from (precedes step.by i) _ step.edge
    (elim step.rest [
      | inl here ↦ or_left (within n size step.by) _ (rw here member.1)
      | inr below ↦ source step.by member.0 member.1 below
    ]))
  where
    source : (k j : ℕ) → within n size j ≡ true → stands precedes k j ≡ true → is_source precedes n size k ≡ true
    source k j is on =
        let from = within-is n size j is in
        let less = stands-after precedes k j on in
        elim (cases_Bool (within n size k)) [
          | inl in_batch ↦ or_left (within n size k) _ in_batch
          | inr out ↦ or_right (within n size k) _ (hit-by precedes n size k j (outside n size k out (omega (arith, from.0))) is on)
        ]

pub hit-forth : (precedes : ℕ → ℕ → Bool) (n size i : ℕ) → n + size ≤ i
    → any_below i (λ k. precedes k i && is_source precedes n size k) ≡ true → is_hit precedes n size i ≡ true
hit-forth precedes n size i late some =
    let found = any-found i (λ k. precedes k i && is_source precedes n size k) some in
    let parts = and_parts (precedes found.0 i) _ found.2 in
    elim (or_cases (within n size found.0) _ parts.1) [
      | inl is ↦ hit-direct precedes n size found.0 i is found.1 parts.0 late
      | inr hit ↦ hit-through precedes n size found.0 i hit found.1 parts.0
    ]
