-- What a filter wants, said of the attributes themselves.
use Rattle.std.proofs.Common.{◌≡◌, ℕ, Bool, true, false, cond, not, ◌&&◌, ◌||◌, List, [], ◌∷◌, map, refl, sym, ap, ap₂, ◌∙◌}
use Rattle.std.specs.List.{filter, list_all, list_any}
use Rattle.std.specs.Str.{bytes_eq}
use Rattle.saw_messages.specs.declared.receipt.Attribute.{Attribute}
use Rattle.saw_messages.specs.declared.receipt.Event.{Event}
use Rattle.saw_events.specs.Events.{meets, passes, texts_at}
use Rattle.saw_events.specs.declared.filter.Filter.{Filter}

-- whether there are texts
abbrev some : List (List ℕ) → Bool
some [] = false
some (text ∷ texts) = true

meets-false : (text : List ℕ) (texts : List (List ℕ)) → meets false text texts ≡ list_any (λ one. bytes_eq one text) texts
meets-false text [] = refl
meets-false text (one ∷ texts) = refl

meets-true : (text : List ℕ) (texts : List (List ℕ)) → meets true text texts ≡ (some texts && list_all (λ one. bytes_eq one text) texts)
meets-true text [] = refl
meets-true text (one ∷ texts) = refl

module _ (key text : List ℕ) where
  any_more : (b : Bool) (one : Attribute) (found : List Attribute) → list_any (λ t. bytes_eq t text) (map (λ one. one.value) (cond b (one ∷ found) found))
      ≡ ((b && bytes_eq one.value text) || list_any (λ t. bytes_eq t text) (map (λ one. one.value) found))
  any_more true one found = refl
  any_more false one found = refl

  any_texts : (xs : List Attribute) → list_any (λ t. bytes_eq t text) (texts_at key xs)
      ≡ list_any (λ one. bytes_eq one.key key && bytes_eq one.value text) xs
  any_texts [] = refl
  any_texts (x ∷ xs) = any_more (bytes_eq x.key key) x (filter (λ one. bytes_eq one.key key) xs)
      ∙ ap (λ rest. (bytes_eq x.key key && bytes_eq x.value text) || rest) (any_texts xs)

  all_more : (b : Bool) (one : Attribute) (found : List Attribute) → list_all (λ t. bytes_eq t text) (map (λ one. one.value) (cond b (one ∷ found) found))
      ≡ ((not b || bytes_eq one.value text) && list_all (λ t. bytes_eq t text) (map (λ one. one.value) found))
  all_more true one found = refl
  all_more false one found = refl

  all_texts : (xs : List Attribute) → list_all (λ t. bytes_eq t text) (texts_at key xs)
      ≡ list_all (λ one. not (bytes_eq one.key key) || bytes_eq one.value text) xs
  all_texts [] = refl
  all_texts (x ∷ xs) = all_more (bytes_eq x.key key) x (filter (λ one. bytes_eq one.key key) xs)
      ∙ ap (λ rest. (not (bytes_eq x.key key) || bytes_eq x.value text) && rest) (all_texts xs)

  some_more : (b : Bool) (one : Attribute) (found : List Attribute) → some (map (λ one. one.value) (cond b (one ∷ found) found))
      ≡ (b || some (map (λ one. one.value) found))
  some_more true one found = refl
  some_more false one found = refl

  some_texts : (xs : List Attribute) → some (texts_at key xs) ≡ list_any (λ one. bytes_eq one.key key) xs
  some_texts [] = refl
  some_texts (x ∷ xs) = some_more (bytes_eq x.key key) x (filter (λ one. bytes_eq one.key key) xs) ∙ ap (λ rest. bytes_eq x.key key || rest) (some_texts xs)

  -- a wish for one text
  pub meets_one : (xs : List Attribute) → meets false text (texts_at key xs) ≡ list_any (λ one. bytes_eq one.key key && bytes_eq one.value text) xs
  meets_one xs = meets-false text (texts_at key xs) ∙ any_texts xs

  -- a wish for all texts
  pub meets_all : (xs : List Attribute) → meets true text (texts_at key xs)
      ≡ (list_any (λ one. bytes_eq one.key key) xs && list_all (λ one. not (bytes_eq one.key key) || bytes_eq one.value text) xs)
  meets_all xs = meets-true text (texts_at key xs) ∙ ap₂ (λ a b. a && b) (some_texts xs) (all_texts xs)

module _ (wanted : Filter) (event : Event) (xs : List Attribute) (seen : xs ≡ event.attributes) where
  with_all : (all : Bool) → wanted.all ≡ all → meets all wanted.text (texts_at wanted.key xs) ≡ passes wanted event
  with_all all is = ap₂ (λ all attributes. meets all wanted.text (texts_at wanted.key attributes)) (sym is) seen

  pub passes-one : (one : Bool) → wanted.all ≡ false → one ≡ list_any (λ one. bytes_eq one.key wanted.key && bytes_eq one.value wanted.text) xs
      → one ≡ passes wanted event
  passes-one one is told = told ∙ sym (meets_one wanted.key wanted.text xs) ∙ with_all false is

  pub passes-all : (some all : Bool) → wanted.all ≡ true → some ≡ list_any (λ one. bytes_eq one.key wanted.key) xs
      → all ≡ list_all (λ one. not (bytes_eq one.key wanted.key) || bytes_eq one.value wanted.text) xs → (some && all) ≡ passes wanted event
  passes-all some all is there told = ap₂ (λ a b. a && b) there told ∙ sym (meets_all wanted.key wanted.text xs) ∙ with_all true is

  pub passes-none : (some : Bool) → wanted.all ≡ true → some ≡ list_any (λ one. bytes_eq one.key wanted.key) xs → some ≡ false
      → some ≡ passes wanted event
  passes-none some is there none =
      none ∙ ap (λ some. some && list_all (λ one. not (bytes_eq one.key wanted.key) || bytes_eq one.value wanted.text) xs) (sym none)
      ∙ passes-all some _ is there refl
