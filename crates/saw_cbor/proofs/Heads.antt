-- A head that is read is one, and a head is read.
use Rattle.std.proofs.Common.{◌≡◌, ℕ, ◌+◌, ◌*◌, ◌/◌, ◌%◌, ◌<◌, ◌≤◌, inl, inr, true, false, List, [], ◌∷◌, ◌++◌, length, take, drop, Ok, refl, sym, ap}
use Rattle.std.proofs.Common.{subst, ◌∙◌, arith}
use Rattle.std.specs.Prelude.{nat_lt, if◌then◌else◌}
use Rattle.std.proofs.lemmas.Bool.{cases_eq, cases_lt, lt-ltb, le-ltb, ltb-false}
use Rattle.std.proofs.lemmas.Bool.Decides.{nat_tests}
use Rattle.std.proofs.lemmas.List.{length-drop, length-take, nil_from_length, drop-drop, take_at, take-append-drop}
use Rattle.saw_cbor.specs.declared.fault.CborFault.TheVariants.{Cut, Unsupported}
use Rattle.saw_cbor.specs.Reading.{Head, is_unsupported, argument_size, head_from, first_of, head_by, head_at}
use Rattle.saw_cbor.specs.Spelling.{number_of, IsWide, IsArgument, IsHead}
use Rattle.saw_cbor.proofs.Results.{ok_is, guard_ok}
use Rattle.saw_cbor.proofs.Cuts.{Lies, behind}

-- the head that was read at p
pub record IsHeadAt (p : ℕ) (whole : List ℕ) (head : Head) : Type 0 where
  pub rest : List ℕ
  pub parts : drop p whole ≡ head.first ∷ (rest ++ drop head.behind whole)
  pub ends : head.behind ≡ p + 1 + length rest
  pub within : head.behind ≤ length whole
  pub argument : IsArgument (head.first % 32) head.argument rest
  pub supported : is_unsupported head.first ≡ false

-- ---- what is read has the form

size_low : (info : ℕ) → info < 24 → argument_size info ≡ 0
size_low info low = grind (arith, nat_tests)

size_high : (info size : ℕ) → 24 ≤ info → info < 28 → size ≡ argument_size info → IsWide info size
size_high info size high low long =
    elim (cases_eq info 24) [
      | inl e ↦ inl (e, long ∙ ap argument_size e)
      | inr a ↦
          elim (cases_eq info 25) [
            | inl e ↦ inr (inl (e, long ∙ ap argument_size e))
            | inr b ↦
                elim (cases_eq info 26) [
                  | inl e ↦ inr (inr (inl (e, long ∙ ap argument_size e)))
                  | inr c ↦ let e : info ≡ 27 = omega arith in inr (inr (inr (e, long ∙ ap argument_size e)))
                ]
          ]
    ]

few : (byte : ℕ) → is_unsupported byte ≡ false → byte % 32 < 28
few byte fine = grind (arith, nat_tests)

argument_found : (info : ℕ) (rest : List ℕ) → info < 28 → length rest ≡ argument_size info
    → IsArgument info (if nat_lt info 24 then info else number_of rest) rest
argument_found info rest fine long =
    elim (cases_lt info 24) [
      | inl low ↦ let t : nat_lt info 24 ≡ true = lt-ltb _ _ low in rw t (inl (low, refl, nil_from_length rest (long ∙ size_low info low)))
      | inr high ↦ let t : nat_lt info 24 ≡ false = le-ltb _ _ high in rw t (inr (size_high info (length rest) high fine long, refl))
    ]

next_drop : (p first : ℕ) (whole others : List ℕ) → drop p whole ≡ first ∷ others → drop (p + 1) whole ≡ others
next_drop p first whole others parts = sym (drop-drop 1 p whole) ∙ ap (drop 1) parts

found_by : (p : ℕ) (whole left : List ℕ) (head : Head) → drop p whole ≡ left → head_by p whole (first_of left) ≡ Ok head → IsHeadAt p whole head
unfolding head_from
found_by p whole [] head parts e = absurd cc
found_by p whole (first ∷ others) head parts e =
    let size = argument_size (first % 32) in
    let rest = take size (drop (p + 1) whole) in
    let a = guard_ok (is_unsupported first) (Unsupported p) _ head e in
    let b = guard_ok (nat_lt (length whole) (p + 1 + size)) Cut _ head a.1 in
    let inside : p + 1 + size ≤ length whole = ltb-false _ _ b.0 in
    let long : length rest ≡ size = omega (arith, length-take size (drop (p + 1) whole), length-drop (p + 1) whole) in
    let cut : others ≡ rest ++ drop (p + 1 + size) whole =
    sym (next_drop p first whole others parts) ∙ sym (take-append-drop size (drop (p + 1) whole))
    ∙ ap (λ (r : List ℕ). rest ++ r) (drop-drop size (p + 1) whole) in
    let made : Head = record { first = first; argument = if nat_lt (first % 32) 24 then first % 32 else number_of rest; behind = p + 1 + size } in
    let t : IsHeadAt p whole made = record {
      rest = rest;
      parts = parts ∙ ap (λ (r : List ℕ). first ∷ r) cut;
      ends = omega (arith, long);
      within = inside;
      argument = argument_found (first % 32) rest (few first a.0) long;
      supported = a.0;
    } in
    subst (λ (h : Head). IsHeadAt p whole h) (ok_is made head b.1) t

pub head_found : (p : ℕ) (whole : List ℕ) (head : Head) → head_at p whole ≡ Ok head → IsHeadAt p whole head
unfolding head_at
head_found p whole head e = found_by p whole (drop p whole) head refl e

pub head_lies : (p : ℕ) (whole : List ℕ) (head : Head) (major : ℕ) → IsHeadAt p whole head → head.first / 32 ≡ major
    → Lies (IsHead major head.argument) p whole head.behind
head_lies p whole head major h e =
    let first : head.first ≡ major * 32 + head.first % 32 = omega arith in
    record {
      front = head.first ∷ h.rest;
      parts = h.parts;
      ends = omega (arith, h.ends);
      within = h.within;
      is = record { info = head.first % 32; rest = h.rest; parts = ap (λ (b : ℕ). b ∷ h.rest) first; argument = h.argument };
    }

-- a head without an argument behind it
pub one_byte : (p : ℕ) (whole : List ℕ) (head : Head) → IsHeadAt p whole head → head.first % 32 < 24 → Lies (λ v. v ≡ head.first ∷ []) p whole head.behind
one_byte p whole head h low =
    let none : h.rest ≡ [] = elim h.argument [
      | inl is ↦ is.2
      | inr (inl is, same) ↦ absurd (omega (arith, is.0))
      | inr (inr (inl is), same) ↦ absurd
          (omega (arith, is.0))
      | inr (inr (inr (inl is)), same) ↦ absurd (omega (arith, is.0))
      | inr (inr (inr (inr is)), same) ↦ absurd
          (omega (arith, is.0))
    ] in
    record { front = head.first ∷ h.rest; parts = h.parts; ends = omega (arith, h.ends); within = h.within; is = ap (λ (r : List ℕ). head.first ∷ r) none }

-- ---- what has the form is read

pub head_step : (p first size : ℕ) (whole others : List ℕ) → drop p whole ≡ first ∷ others → is_unsupported first ≡ false
    → argument_size (first % 32) ≡ size → p + 1 + size ≤ length whole
    → head_at p whole ≡ Ok (record {
      first = first;
      argument = if nat_lt (first % 32) 24 then first % 32 else number_of (take size others);
      behind =
          p + 1 + size;
    })
unfolding head_at head_from
head_step p first size whole others parts fine long room =
    let t : nat_lt (length whole) (p + 1 + size) ≡ false = le-ltb _ _ room in
    rw (parts, fine, long, t, next_drop p first whole others parts) refl

size_of : (info n : ℕ) (rest : List ℕ) → IsArgument info n rest → argument_size info ≡ length rest
size_of info n rest (inl low) = rw (low.2, size_low info low.0) refl
size_of info n rest (inr (inl is, same)) = rw (is.0, is.1) refl
size_of info n rest (inr (inr (inl is), same)) = rw (is.0, is.1) refl
size_of info n rest (inr (inr (inr (inl is)), same)) = rw (is.0, is.1) refl
size_of info n rest (inr (inr (inr (inr is)), same)) = rw (is.0, is.1) refl

info_few : (info n : ℕ) (rest : List ℕ) → IsArgument info n rest → info < 28
info_few info n rest (inl low) = omega (arith, low.0)
info_few info n rest (inr (inl is, same)) = omega (arith, is.0)
info_few info n rest (inr (inr (inl is), same)) = omega (arith, is.0)
info_few info n rest (inr (inr (inr (inl is)), same)) = omega (arith, is.0)
info_few info n rest (inr (inr (inr (inr is)), same)) = omega (arith, is.0)

number_is : (info n : ℕ) (rest : List ℕ) → IsArgument info n rest → (if nat_lt info 24 then info else number_of rest) ≡ n
number_is info n rest (inl low) = let t : nat_lt info 24 ≡ true = lt-ltb _ _ low.0 in rw t (sym low.1)
number_is info n rest (inr (inl is, same)) = rw is.0 (sym same)
number_is info n rest (inr (inr (inl is), same)) = rw is.0 (sym same)
number_is info n rest (inr (inr (inr (inl is)), same)) = rw is.0 (sym same)
number_is info n rest (inr (inr (inr (inr is)), same)) = rw is.0 (sym same)

supported_is : (byte : ℕ) → byte % 32 < 28 → byte / 32 < 6 → is_unsupported byte ≡ false
supported_is byte a b = grind (arith, nat_tests)

pub major_is : (major n : ℕ) (front : List ℕ) (is : IsHead major n front) → (major * 32 + is.info) / 32 ≡ major
major_is major n front is = let low = info_few is.info n is.rest is.argument in omega arith

pub head_some : (major n : ℕ) (front : List ℕ) → IsHead major n front → 0 < length front
head_some major n front is = omega (arith, ap (λ (v : List ℕ). length v) is.parts)

pub head_again : (p major n : ℕ) (whole front left : List ℕ) → major < 6 → p ≤ length whole → drop p whole ≡ front ++ left → (is : IsHead major n front)
    → head_at p whole ≡ Ok (record { first = major * 32 + is.info; argument = n; behind = p + length front })
head_again p major n whole front left small le parts is =
    let first = major * 32 + is.info in
    let low = info_few is.info n is.rest is.argument in
    let info : first % 32 ≡ is.info = omega arith in
    let shown : drop p whole ≡ first ∷ (is.rest ++ left) = parts ∙ ap (λ (v : List ℕ). v ++ left) is.parts in
    let b = behind p whole front left le parts in
    let long : length front ≡ 1 + length is.rest = ap (λ (v : List ℕ). length v) is.parts ∙ omega arith in
    let size : argument_size (first % 32) ≡ length is.rest = rw info (size_of is.info n is.rest is.argument) in
    let step = head_step p first (length is.rest) whole (is.rest ++ left) shown (supported_is first (omega arith) (omega arith)) size (omega (arith, b.1)) in
    let cut : take (length is.rest) (is.rest ++ left) ≡ is.rest = take_at is.rest left (length is.rest) refl in
    let end : p + 1 + length is.rest ≡ p + length front = omega arith in
    step ∙ rw (info, cut, number_is is.info n is.rest is.argument, end) refl
