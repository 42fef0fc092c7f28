-- Lines that are written one after another.
use Rattle.std.proofs.Common.{◌≡◌, ◌≤◌, ◌<◌, ℕ, ◌+◌, List, [], ◌∷◌, ◌++◌, length, take, drop, get_or, Option, inl, inr, sym, ap, subst, ◌∙◌}
use Rattle.std.proofs.Common.{append_assoc, arith}
use Rattle.std.specs.Io.KnownBytes.{Appends}
use Rattle.std.specs.List.{flat_map}
use Rattle.std.proofs.KnownBytes.{Appends-nil, Appends-trans}
use Rattle.std.proofs.Math.Seq.{take-append-add}
use Rattle.std.proofs.lemmas.Bool.{cases_lt}
use Rattle.std.proofs.lemmas.Grind.{flat_map-append}
use Rattle.std.proofs.lemmas.List.{append-nil, take-append-drop, take-append-le, take_all, take_more}
use Rattle.std.proofs.lemmas.List.Concat.{flat_map-cons}

module _ {X : Type 0} (line : X → List ℕ) (all : List X) (i : ℕ) (x : X) (more : i < length all) (is : x ≡ get_or all i x) where
  abbrev before : List ℕ
  before = flat_map line (take i all)

  lines_more : flat_map line (take (i + 1) all) ≡ before ++ line x
  lines_more =
      ap (flat_map line) (take_more all i x more ∙ ap (λ (y : X). take i all ++ y ∷ []) (sym is))
      ∙ flat_map-append line (take i all) (x ∷ [])
      ∙ ap (λ (l : List ℕ). before ++ l) (flat_map-cons line x [] ∙ append-nil (line x))

  lines_whole : flat_map line all ≡ before ++ (line x ++ flat_map line (drop (i + 1) all))
  lines_whole =
      ap (flat_map line) (sym (take-append-drop (i + 1) all))
      ∙ flat_map-append line (take (i + 1) all) (drop (i + 1) all)
      ∙ ap (λ (l : List ℕ). l ++ flat_map line (drop (i + 1) all)) lines_more
      ∙ append_assoc before (line x) (flat_map line (drop (i + 1) all))

  -- a line of which a part was written
  lines_cut : (old mid new : Option (List ℕ)) (n : ℕ) → n ≤ length (line x) → Appends old mid before → Appends mid new (take n (line x))
      → (k : ℕ) × Appends old new (take k (flat_map line all))
  lines_cut old mid new n fits first second =
      let rest = flat_map line (drop (i + 1) all) in
      let front : take (length before + n) (flat_map line all) ≡ before ++ take n (line x) =
      ap (take (length before + n)) lines_whole ∙ take-append-add before (line x ++ rest) n
      ∙ ap (λ (l : List ℕ). before ++ l) (take-append-le n (line x) rest fits) in
      (length before + n, subst (Appends old new) (sym front) (Appends-trans old mid new before (take n (line x)) first second))

  -- the same of a text that is the line
  pub text_cut : (text : List ℕ) → text ≡ line x → (old mid new : Option (List ℕ)) → Appends old mid before
      → (n : ℕ) × (n < length text) × Appends mid new (take n text) → (k : ℕ) × Appends old new (take k (flat_map line all))
  text_cut text same old mid new first cut =
      lines_cut old mid new cut.0 (subst (λ (t : List ℕ). cut.0 ≤ length t) same (omega (arith, cut.1))) first
      (subst (λ (t : List ℕ). Appends mid new (take cut.0 t)) same cut.2)

-- nothing of the line was written
pub lines_before : {X : Type 0} (line : X → List ℕ) (all : List X) (i : ℕ) (x : X) → i < length all → x ≡ get_or all i x → (old new : Option (List ℕ))
    → Appends old new (flat_map line (take i all)) → (k : ℕ) × Appends old new (take k (flat_map line all))
lines_before line all i x more is old new first = lines_cut line all i x more is old new new 0 (omega arith) first (Appends-nil new)

-- ---- two texts, one behind the other

-- a part of the first
pub first_cut : (first second : List ℕ) (old new : Option (List ℕ)) → (n : ℕ) × Appends old new (take n first)
    → (k : ℕ) × Appends old new (take k (first ++ second))
first_cut first second old new cut =
    elim (cases_lt cut.0 (length first)) [
      | inl short ↦ (cut.0, subst (Appends old new) (sym (take-append-le cut.0 first second (omega (arith, short)))) cut.1)
      | inr long ↦
          let whole : take (length first) (first ++ second) ≡ take cut.0 first =
          take-append-le (length first) first second (omega arith) ∙ take_all (length first) first (omega arith) ∙ sym (take_all cut.0 first (omega (arith, long))) in
          (length first, subst (Appends old new) (sym whole) cut.1)
    ]

-- all of the first, and a part of the second
pub second_cut : (first second : List ℕ) (old mid new : Option (List ℕ)) → Appends old mid first → (n : ℕ) × Appends mid new (take n second)
    → (k : ℕ) × Appends old new (take k (first ++ second))
second_cut first second old mid new before cut =
    (length first + cut.0, subst (Appends old new) (sym (take-append-add first second cut.0)) (Appends-trans old mid new first (take cut.0 second) before cut.1))
