-- Text that is cut where it was joined.
use Rattle.std.proofs.Common.{◌≡◌, ◌==◌, ℕ, Bool, false, List, [], ◌∷◌, ◌++◌, refl, ap, ◌∙◌}
use Rattle.std.specs.List.{All, AllByRecursion, list_any, join_with_byte}
use Rattle.std.proofs.lemmas.Bool.{eq-eqb, or_from, or_parts}
use Rattle.std.proofs.lemmas.List.Elements.{All-nil, All-cons}
use Rattle.std.proofs.lemmas.List.Folds.{list_any-append}
use Rattle.std.proofs.lemmas.List.Splits.{slice_split_none, slice_split_at}
use Rattle.saw_xo.specs.Payloads.{parts_of}

-- the byte does not stand in the text
abbrev pub Lacks : ℕ → List ℕ → Type 0
Lacks c text = list_any (λ b. b == c) text ≡ false

pub lacks-append : (c : ℕ) (first second : List ℕ) → Lacks c first → Lacks c second → Lacks c (first ++ second)
lacks-append c first second f s = list_any-append (λ b. b == c) first second ∙ or_from (list_any (λ b. b == c) first) (list_any (λ b. b == c) second) f s

none_passes : (p : ℕ → Bool) (xs : List ℕ) → list_any p xs ≡ false → All (λ x. p x ≡ false) xs
none_passes p [] h = All-nil (λ x. p x ≡ false)
none_passes p (x ∷ xs) h =
    let parts = or_parts (p x) (list_any p xs) h in
    All-cons (λ x. p x ≡ false) x xs parts.0 (none_passes p xs parts.1)

pub parts_of-none : (c : ℕ) (text : List ℕ) → Lacks c text → parts_of c text ≡ text ∷ []
parts_of-none c text h = slice_split_none (λ b. b == c) text (none_passes (λ b. b == c) text h)

pub parts_of-first : (c : ℕ) (first rest : List ℕ) → Lacks c first → parts_of c (first ++ c ∷ rest) ≡ first ∷ parts_of c rest
parts_of-first c first rest h = slice_split_at (λ b. b == c) first c rest (none_passes (λ b. b == c) first h) (eq-eqb c c refl)

pub parts_of-join : (c : ℕ) (first : List ℕ) (texts : List (List ℕ)) → Lacks c first → AllByRecursion (Lacks c) texts
    → parts_of c (join_with_byte c (first ∷ texts)) ≡ first ∷ texts
parts_of-join c first [] h all = parts_of-none c first h
parts_of-join c first (next ∷ texts) h all = parts_of-first c first (join_with_byte c (next ∷ texts)) h
    ∙ ap (λ parts. first ∷ parts) (parts_of-join c next texts all.0 all.1)
