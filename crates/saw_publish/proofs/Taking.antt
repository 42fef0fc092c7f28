-- Elements of lists, one after another.
use Rattle.std.proofs.Common.{◌≡◌, ◌<◌, ◌+◌, ◌⊎◌, ℕ, List, [], ◌∷◌, ◌++◌, length, reverse, get_or, Option, Some, None, sym, ap, subst, ◌∙◌, inl, inr, arith}
use Rattle.std.specs.Option.{option_to_list}
use Rattle.std.proofs.lemmas.Bool.{cases_lt}
use Rattle.std.proofs.lemmas.List.{append-nil, get_or_default, reverse-append}

-- what a list that lies in reverse gives by its last element
pub front_taken : {A : Type 0} (old new : List A) (one : Option A) → old ≡ new ++ option_to_list one → reverse old ≡ option_to_list one ++ reverse new
front_taken old new None e = ap reverse (e ∙ append-nil new)
front_taken old new (Some x) e = ap reverse e ∙ reverse-append new (x ∷ [])

below_or_at : (k i : ℕ) → k < i + 1 → (k < i) ⊎ (k ≡ i)
below_or_at k i h = elim (cases_lt k i) [ inl below ↦ inl below | inr above ↦ inr (omega arith) ]

-- one element more that is less
pub less_more : {A : Type 0} (size : A → ℕ) (limit : ℕ) (xs : List A) (i : ℕ) (x : A) → i < length xs → x ≡ get_or xs i x → size x < limit
    → ((k : ℕ) (d : A) → k < i → size (get_or xs k d) < limit) → (k : ℕ) (d : A) → k < i + 1 → size (get_or xs k d) < limit
less_more size limit xs i x here is less before k d h = elim (below_or_at k i h) [
  | inl below ↦ before k d below
  | inr at ↦ subst (λ k. size (get_or xs k d) < limit) (sym at) (subst (λ x. size x < limit) (is ∙ get_or_default xs i x d here) less)
]
