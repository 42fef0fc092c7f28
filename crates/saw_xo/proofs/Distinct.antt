-- Names that all differ.
use Rattle.std.proofs.Common.{◌≡◌, ℕ, Bool, true, false, not, List, [], ◌∷◌, ◌++◌, inl, inr, refl, ◌∙◌}
use Rattle.std.specs.List.{list_any}
use Rattle.std.specs.Str.{bytes_eq}
use Rattle.std.specs.Cmp.Lexicographic.{nat_list_eq_equiv}
use Rattle.std.proofs.lemmas.Bool.{and_from, and_left, and_parts, and_right, false≢true, not-true, not_from_false, not_from_true, or_cases, or_from}
use Rattle.std.proofs.lemmas.Bool.{or_left, or_parts, or_right}
use Rattle.std.proofs.lemmas.List.Folds.{list_any-append}
use Rattle.saw_messages.specs.Distinct.{are_distinct}

abbrev pub is_among : List ℕ → List (List ℕ) → Bool
is_among name names = list_any (λ other. bytes_eq other name) names

-- a new name may follow
pub are_distinct-push : (names : List (List ℕ)) (name : List ℕ) → are_distinct names ≡ true → is_among name names ≡ false
    → are_distinct (names ++ name ∷ []) ≡ true
are_distinct-push [] name d h = refl
are_distinct-push (first ∷ names) name d h =
    let so_far = and_parts (not (is_among first names)) (are_distinct names) d in
    let new = or_parts (bytes_eq first name) (is_among name names) h in
    let last : is_among first (name ∷ []) ≡ false = or_from (bytes_eq name first) false (nat_list_eq_equiv.symm name first ∙ new.0) refl in
    let absent : is_among first (names ++ name ∷ []) ≡ false =
    list_any-append (λ other. bytes_eq other first) names (name ∷ [])
    ∙ or_from (is_among first names) (is_among first (name ∷ [])) (not-true (is_among first names) so_far.0) last in
    and_from (not (is_among first (names ++ name ∷ []))) (are_distinct (names ++ name ∷ []))
    (not_from_false (is_among first (names ++ name ∷ [])) absent) (are_distinct-push names name so_far.1 new.1)

-- a name that stands before may not
pub not_distinct : (names : List (List ℕ)) (name : List ℕ) (rest : List (List ℕ)) → is_among name names ≡ true → are_distinct (names ++ name ∷ rest) ≡ false
not_distinct [] name rest h = absurd (false≢true h)
not_distinct (first ∷ names) name rest h =
    let all = names ++ name ∷ rest in
    elim (or_cases (bytes_eq first name) (is_among name names) h) [
      | inl same ↦
          let here : is_among first (name ∷ rest) ≡ true = or_left (bytes_eq name first) (is_among first rest) (nat_list_eq_equiv.symm name first ∙ same) in
          let there : is_among first all ≡ true = list_any-append (λ other. bytes_eq other first) names (name ∷ rest)
          ∙ or_right (is_among first names) (is_among first (name ∷ rest)) here in
          and_left (not (is_among first all)) (are_distinct all) (not_from_true (is_among first all) there)
      | inr later ↦ and_right (not (is_among first all)) (are_distinct all) (not_distinct names name rest later)
    ]
