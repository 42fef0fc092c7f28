-- Functions that give the actions of turns.
use Rattle.std.proofs.Common.{◌≡◌, ◌⊎◌, inl, inr, List, [], ◌∷◌, ◌++◌, append_assoc, refl, sym, ap, ◌∙◌}
use Rattle.saw_messages.specs.declared.talk.Action.{Action}
use Rattle.saw_messages.specs.declared.talk.Turn.{Turn}
use Rattle.saw_station.specs.Spoken.{IsSpokenBy}

-- where a list with one more element is split: before its end, or at it
abbrev SplitsAt : List Turn → Turn → List Turn → Turn → Type 0
SplitsAt turns last front turn = ((turns ≡ front) × (last ≡ turn)) ⊎ ((rest : List Turn) × (turns ≡ front ++ turn ∷ rest))

none_in_front : (front back : List Turn) (turn : Turn) → [] ≡ front ++ turn ∷ back → ⊥
none_in_front [] back turn e = cc
none_in_front (first ∷ front) back turn e = cc

first_is : (x y : Turn) (xs ys : List Turn) → x ∷ xs ≡ y ∷ ys → x ≡ y
first_is x y xs ys e = cc

rest_is : (x y : Turn) (xs ys : List Turn) → x ∷ xs ≡ y ∷ ys → xs ≡ ys
rest_is x y xs ys e = cc

behind_first : (x y : Turn) (turns front : List Turn) (last turn : Turn) → x ≡ y → SplitsAt turns last front turn → SplitsAt (x ∷ turns) last (y ∷ front) turn
behind_first x y turns front last turn e (inl h) = inl (ap (λ z. z ∷ turns) e ∙ ap (λ zs. y ∷ zs) h.0, h.1)
behind_first x y turns front last turn e (inr h) = inr (h.0, ap (λ z. z ∷ turns) e ∙ ap (λ zs. y ∷ zs) h.1)

split_at : (turns front back : List Turn) (last turn : Turn) → turns ++ last ∷ [] ≡ front ++ turn ∷ back → SplitsAt turns last front turn
split_at [] [] back last turn e = inl (refl, first_is last turn [] back e)
split_at [] (y ∷ front) back last turn e = absurd (none_in_front front back turn (rest_is last y [] (front ++ turn ∷ back) e))
split_at (x ∷ turns) [] back last turn e = inr (turns, ap (λ z. z ∷ turns) (first_is x turn (turns ++ last ∷ []) back e))
split_at (x ∷ turns) (y ∷ front) back last turn e =
    behind_first x y turns front last turn (first_is x y (turns ++ last ∷ []) (front ++ turn ∷ back) e)
    (split_at turns front back last turn (rest_is x y (turns ++ last ∷ []) (front ++ turn ∷ back) e))

module _ (f : List Turn → Action) where
  pub gives_none : IsSpokenBy f []
  gives_none front back turn e = absurd (none_in_front front back turn e)

  gives_split : (turns front : List Turn) (last turn : Turn) → IsSpokenBy f turns → f turns ≡ last.action → SplitsAt turns last front turn → f front ≡ turn.action
  gives_split turns front last turn gives is (inl h) = ap f (sym h.0) ∙ is ∙ ap (λ (t : Turn). t.action) h.1
  gives_split turns front last turn gives is (inr h) = gives front h.0 turn h.1

  -- one more turn
  pub gives_push : (turns : List Turn) (last : Turn) → IsSpokenBy f turns → f turns ≡ last.action → IsSpokenBy f (turns ++ last ∷ [])
  gives_push turns last gives is front back turn e = gives_split turns front last turn gives is (split_at turns front back last turn e)

  -- what gives the actions of turns gives those of the turns before the last one, and then that one's
  pub gives_front : (turns : List Turn) (last : Turn) → IsSpokenBy f (turns ++ last ∷ []) → IsSpokenBy f turns
  gives_front turns last gives front back turn e =
      gives front (back ++ last ∷ []) turn (ap (λ (ts : List Turn). ts ++ last ∷ []) e ∙ append_assoc front (turn ∷ back) (last ∷ []))

  pub gives_last : (turns : List Turn) (last : Turn) → IsSpokenBy f (turns ++ last ∷ []) → f turns ≡ last.action
  gives_last turns last gives = gives turns [] last refl
