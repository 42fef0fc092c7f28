-- What prefixes cover.
use Rattle.std.proofs.Common.{◌≡◌, ℕ, ◌-◌, ◌≤◌, true, List, ◌++◌, length, take, replicate, inl, inr, refl, sym, ap, ◌∙◌, arith, length-append}
use Rattle.std.specs.Prelude.{◌↔◌}
use Rattle.std.proofs.lemmas.Slice.Eq.{bytes_eq-Decides}
use Rattle.std.proofs.lemmas.Bool.{or_cases, or_left, or_right, cases_lt}
use Rattle.std.proofs.lemmas.List.{length-replicate, length-take, take-append-le, take-take, take_at}
use Rattle.saw_address.specs.Prefixes.{covers, overlaps}

-- what is covered begins with the prefix
pub take-covers : (prefix address : List ℕ) → covers prefix address ≡ true → take (length prefix) address ≡ prefix
take-covers prefix address h = sym ((bytes_eq-Decides prefix (take (length prefix) address)).0 h)

covers-take : (prefix address : List ℕ) → take (length prefix) address ≡ prefix → covers prefix address ≡ true
covers-take prefix address e = (bytes_eq-Decides prefix (take (length prefix) address)).1 (sym e)

-- what covers is no longer than what it covers
length-covers : (prefix address : List ℕ) → covers prefix address ≡ true → length prefix ≤ length address
length-covers prefix address h =
    let e = ap length (take-covers prefix address h) in
    omega (arith, e, length-take (length prefix) address)

-- what is covered stays so when it grows
covers-append : (prefix address rest : List ℕ) → covers prefix address ≡ true → covers prefix (address ++ rest) ≡ true
covers-append prefix address rest h =
    covers-take prefix (address ++ rest) (take-append-le (length prefix) address rest (length-covers prefix address h) ∙ take-covers prefix address h)

-- of two prefixes of an address the shorter begins the longer
covers-shorter : (first second address : List ℕ) → length first ≤ length second → covers first address ≡ true → covers second address ≡ true
    → covers first second ≡ true
covers-shorter first second address h f s =
    covers-take first second
    (ap (take (length first)) (sym (take-covers second address s)) ∙ take-take (length first) (length second) address h ∙ take-covers first address f)

-- some address is covered by both
abbrev MeetAt : List ℕ → List ℕ → Type 0
MeetAt first second = (address : List ℕ) × (length address ≡ 35) × (covers first address ≡ true) × (covers second address ≡ true)

-- the longer prefix with zeros after it
grown : (first second : List ℕ) → length second ≤ 35 → covers first second ≡ true → MeetAt first second
grown first second room h =
    let rest = replicate (35 - length second) 0 in (
      second ++ rest,
      omega (arith, length-append second rest, length-replicate {A = ℕ} (35 - length second) 0),
      covers-append first second rest h,
      covers-take second (second ++ rest) (take_at second rest (length second) refl),
    )

-- prefixes overlap exactly where some address is covered by both
pub overlaps_iff : (first second : List ℕ) → length first ≤ 35 → length second ≤ 35 → (overlaps first second ≡ true) ↔ MeetAt first second
overlaps_iff first second f s = (
  λ h. elim (or_cases (covers first second) (covers second first) h) [
    | inl here ↦ grown first second s here
    | inr there ↦ let m = grown second first f there in (m.0, m.1, m.3, m.2)
  ],
  λ m. elim (cases_lt (length first) (length second)) [
    | inl less ↦ or_left (covers first second) (covers second first) (covers-shorter first second m.0 (omega arith) m.2 m.3)
    | inr more ↦ or_right (covers first second) (covers second first) (covers-shorter second first m.0 more m.3 m.2)
  ],
)
