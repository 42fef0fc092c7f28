-- What lies between two offsets.
use Rattle.std.proofs.Common.{◌≡◌, ℕ, ◌+◌, ◌-◌, ◌≤◌, List, ◌++◌, length, take, drop, refl, sym, ap, ◌∙◌, append_assoc, arith}
use Rattle.std.proofs.lemmas.List.{length-append, length-drop, length-take, drop_at, drop-drop, take-append-drop}

-- a run of bytes from p to next of which P holds
pub record Lies (P : List ℕ → Type 0) (p : ℕ) (whole : List ℕ) (next : ℕ) : Type 0 where
  pub front : List ℕ
  pub parts : drop p whole ≡ front ++ drop next whole
  pub ends : next ≡ p + length front
  pub within : next ≤ length whole
  pub is : P front

-- one run behind another
pub both : {P Q R : List ℕ → Type 0} (p middle next : ℕ) (whole : List ℕ) → ((first others : List ℕ) → P first → Q others → R (first ++ others))
    → Lies P p whole middle → Lies Q middle whole next → Lies R p whole next
both p middle next whole join a b = record {
  front = a.front ++ b.front;
  parts = a.parts ∙ ap (λ (r : List ℕ). a.front ++ r) b.parts ∙ sym (append_assoc a.front b.front (drop next whole));
  ends = omega (arith, a.ends, b.ends, length-append a.front b.front);
  within = b.within;
  is = join a.front b.front a.is b.is;
}

pub taken : (n q : ℕ) (whole : List ℕ) → q + n ≤ length whole → Lies (λ v. (v ≡ take n (drop q whole)) × (length v ≡ n)) q whole (q + n)
taken n q whole room =
    let long : length (take n (drop q whole)) ≡ n = omega (arith, length-take n (drop q whole), length-drop q whole) in
    record {
      front = take n (drop q whole);
      parts = sym (take-append-drop n (drop q whole)) ∙ ap (λ (r : List ℕ). take n (drop q whole) ++ r) (drop-drop n q whole);
      ends = omega (arith, long);
      within = room;
      is = (refl, long);
    }

-- what lies behind a run
pub behind : (p : ℕ) (whole front rest : List ℕ) → p ≤ length whole → drop p whole ≡ front ++ rest → (drop (p + length front) whole ≡ rest)
    × (p + length front ≤ length whole)
behind p whole front rest le parts =
    let left : drop (p + length front) whole ≡ rest = sym (drop-drop (length front) p whole) ∙ ap (drop (length front)) parts
    ∙ drop_at front rest (length front) refl in
    let long : length whole - p ≡ length front + length rest = sym (length-drop p whole) ∙ ap (λ (xs : List ℕ). length xs) parts ∙ length-append front rest in
    (left, omega arith)
