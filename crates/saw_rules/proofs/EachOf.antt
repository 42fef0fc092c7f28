-- A list of what each element gives, made element by element.
use Rattle.std.proofs.Common.{◌≡◌, ℕ, ◌+◌, ◌<◌, ◌≤◌, List, [], ◌∷◌, ◌++◌, length, map, get_or, drop, Option, Some, None, option_map, refl, sym, ap, ◌∙◌, append_assoc, append-nil, drop_of_length-le}
use Rattle.std.proofs.lemmas.List.{drop_more}
use Rattle.saw_rules.specs.RuleTexts.{each_of}

same : {B : Type 0} (o : Option B) → option_map (λ b. b) o ≡ o
same None = refl
same (Some b) = refl

one_more : {B : Type 0} (made : List B) (b : B) (o : Option (List B))
    → option_map (λ bs. made ++ bs) (option_map (λ bs. b ∷ bs) o) ≡ option_map (λ bs. (made ++ b ∷ []) ++ bs) o
one_more made b None = refl
one_more made b (Some bs) = ap (λ all. Some all) (sym (append_assoc made (b ∷ []) bs))

module _ {A B C : Type 0} (f : C → Option B) (v : A → C) where
  -- what was made of the first i, and what the others give, is what all give
  abbrev pub Goes : List B → ℕ → List A → Type 0
  Goes made i xs = option_map (λ bs. made ++ bs) (each_of f (map v (drop i xs))) ≡ each_of f (map v xs)

  pub begins : (xs : List A) → Goes [] 0 xs
  begins xs = same (each_of f (map v xs))

  pub goes_on : (made : List B) (i : ℕ) (xs : List A) (x : A) (b : B) → i < length xs → x ≡ get_or xs i x → f (v x) ≡ Some b → Goes made i xs
      → Goes (made ++ b ∷ []) (i + 1) xs
  goes_on made i xs x b more here gives so_far =
      let cut : drop i xs ≡ x ∷ drop (i + 1) xs = drop_more xs i x more ∙ ap (λ y. y ∷ drop (i + 1) xs) (sym here) in
      sym (one_more made b (each_of f (map v (drop (i + 1) xs)))) ∙ rw (cut, gives) at so_far

  pub stops : (made : List B) (i : ℕ) (xs : List A) (x : A) → i < length xs → x ≡ get_or xs i x → f (v x) ≡ None → Goes made i xs
      → None ≡ each_of f (map v xs)
  stops made i xs x more here gives so_far =
      let cut : drop i xs ≡ x ∷ drop (i + 1) xs = drop_more xs i x more ∙ ap (λ y. y ∷ drop (i + 1) xs) (sym here) in
      rw (cut, gives) at so_far

  pub ends : (made : List B) (i : ℕ) (xs : List A) → length xs ≤ i → Goes made i xs → Some made ≡ each_of f (map v xs)
  ends made i xs past so_far =
      let cut : drop i xs ≡ [] = drop_of_length-le xs past in
      ap (λ all. Some all) (sym (append-nil made)) ∙ rw cut at so_far
