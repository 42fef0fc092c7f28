-- The first place at which a test passes, found place by place.
use Rattle.std.proofs.Common.{◌≡◌, ℕ, ◌+◌, ◌<◌, ◌≤◌, Bool, true, false, cond, not, List, [], ◌∷◌, length, get_or, drop, map, filter, suc, Some, None, position, refl, sym, ap, ◌∙◌, drop_of_length-le}
use Rattle.std.specs.List.{position_from, position_or_len}
use Rattle.std.proofs.lemmas.Iterator.Adapters.{position_from-zero}
use Rattle.std.proofs.lemmas.List.{drop_more, length-map}

module _ {A : Type 0} (p : A → Bool) where
  -- none of the first i passes
  abbrev pub Seeks : ℕ → List A → Type 0
  Seeks i xs = position_from p i (drop i xs) ≡ position p xs

  pub seeks : (xs : List A) → Seeks 0 xs
  seeks xs = sym (position_from-zero p xs)

  module _ (i : ℕ) (xs : List A) (x : A) (more : i < length xs) (here : x ≡ get_or xs i x) (so_far : Seeks i xs) where
    cut : drop i xs ≡ x ∷ drop (i + 1) xs
    cut = drop_more xs i x more ∙ ap (λ y. y ∷ drop (i + 1) xs) (sym here)

    pub seeks_on : p x ≡ false → Seeks (i + 1) xs
    seeks_on not_here = rw (cut, not_here) at so_far

    pub found_here : p x ≡ true → Some i ≡ position p xs
    found_here passes = rw (cut, passes) at so_far

  pub none_found : (i : ℕ) (xs : List A) → length xs ≤ i → Seeks i xs → None ≡ position p xs
  none_found i xs past so_far =
      let nothing : drop i xs ≡ [] = drop_of_length-le xs past in
      rw nothing at so_far

-- ---- a test of what is seen of the elements

module _ {A B : Type 0} (v : A → B) (p : B → Bool) where
  pub filter_seen : (xs : List A) → length (filter (λ x. p (v x)) xs) ≡ length (filter p (map v xs))
  filter_seen [] = refl
  filter_seen (x ∷ xs) = go (p (v x)) (filter_seen xs)
    where
      go : (b : Bool) → length (filter (λ y. p (v y)) xs) ≡ length (filter p (map v xs))
          → length (cond b (x ∷ filter (λ y. p (v y)) xs) (filter (λ y. p (v y)) xs)) ≡ length (cond b (v x ∷ filter p (map v xs)) (filter p (map v xs)))
      go true same = ap suc same
      go false same = same

  position_or_len_seen : (xs : List A) → position_or_len (λ x. p (v x)) xs ≡ position_or_len p (map v xs)
  position_or_len_seen [] = refl
  position_or_len_seen (x ∷ xs) = ap (λ n. cond (not (p (v x))) (1 + n) 0) (position_or_len_seen xs)

  pub position_seen : (xs : List A) → position (λ x. p (v x)) xs ≡ position p (map v xs)
  position_seen xs = rw (position_or_len_seen xs, ← length-map xs v) refl
