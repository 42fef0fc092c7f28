-- The first of the options that words are, and what it says of all.
use Rattle.std.proofs.Common.{◌≡◌, ℕ, ◌+◌, ◌<◌, ◌==◌, Bool, true, false, List, [], ◌∷◌, length, map, Bor, String, Global, cond, Option, Some, None}
use Rattle.std.proofs.Common.{MatchOption, option_map, refl, sym, ap, ◌∙◌, arith}
use Rattle.std.specs.Prelude.{◌&&◌, ◌||◌, IfSome, is_some, nat_lt, not}
use Rattle.std.specs.Cmp.Lexicographic.{nat_list_eq_equiv}
use Rattle.std.specs.List.{list_all, list_any, position_or_len}
use Rattle.std.specs.Option.{option_and_then}
use Rattle.std.specs.Str.{bytes_eq}
use Rattle.std.proofs.lemmas.Bool.{and_right, cond-true}
use Rattle.std.proofs.lemmas.Bool.Decides.{nat_tests}
use Rattle.std.proofs.lemmas.Str.Pattern.{IsSplitOnceResult, split_once_first}
use Rattle.saw_messages.specs.Distinct.{are_distinct}
use Rattle.saw_words.specs.Given.{Given, are_options, given_in, is_joined, is_known, is_value, names_of, one_more, options_in, value_of}
use Rattle.saw_words.specs.Options.{IsFirst, IsValueIn}
use Rattle.saw_words.specs.declared.options.First.{First}

-- ---- the words of one option

-- an element passes exactly where the first place that passes is one of the list
passes : (p : ℕ → Bool) (xs : List ℕ) → list_any p xs ≡ nat_lt (position_or_len p xs) (length xs)
passes p [] = refl
passes p (x ∷ xs) = split (p x) (passes p xs)
  where
    split : (b : Bool) → list_any p xs ≡ nat_lt (position_or_len p xs) (length xs)
        → (b || list_any p xs) ≡ nat_lt (cond (not b) (1 + position_or_len p xs) 0) (length (x ∷ xs))
    split true later = grind (arith, nat_tests)
    split false later = grind (arith, nat_tests)

-- a word that is cut is an option, and another one a name
pub cut_read : (word : List ℕ) (words : List (List ℕ)) (cut : Option (Bor (List ℕ) × Bor (List ℕ))) → IsSplitOnceResult 61 word cut
    → MatchOption cut (given_in None (word ∷ words) ≡ given_in (Some word) words)
    (λ parts. given_in None (word ∷ words) ≡ one_more parts.0.now parts.1.now (given_in None words))
cut_read word words None is =
    let end = split_once_first 61 word None is (omega arith) in
    let apart : is_joined word ≡ false = grind (arith, nat_tests, passes (λ b. b == 61) word) in
    rw apart refl
cut_read word words (Some parts) is =
    let found = split_once_first 61 word (Some parts) is (omega arith) in
    let joined : is_joined word ≡ true = grind (arith, nat_tests, passes (λ b. b == 61) word) in
    rw (joined, found.1, found.2) refl

-- an option is the first of these words, if its value may be one
pub first_by : (words : List (String Global)) (name value : Bor (List ℕ)) (rest : Bor (List (String Global))) (result : Option First)
    → options_in words ≡ one_more name.now value.now (options_in rest.now) → length rest.now < length words
    → MatchOption result (is_value value.now ≡ false) (λ first. (is_value value.now ≡ true) × (first ≡ record { name = name; value = value; rest = rest }))
    → IsFirst words result
first_by words name value rest None e less none =
    let some : (length words == 0) ≡ false = grind (arith, nat_tests) in
    rw (some, e, none) refl
first_by words name value rest (Some first) e less is = rw (is.1) (e ∙ cond-true (is_value value.now) _ None is.0, less)

-- ---- the value for a name

-- what the first option and those behind it say of all
module _ (name : List ℕ) (known text : List ℕ) where
  pub value_here : (left : Option (List Given)) (value : Bor (List ℕ)) → bytes_eq known name ≡ true → value.now ≡ text
      → IsValueIn name (option_map (λ given. (known, text) ∷ given) left) (Some value)
  value_here None value same is = tt
  value_here (Some given) value same is = rw (same, is) refl

  pub value_later : (left : Option (List Given)) (value : Option (Bor (List ℕ))) → bytes_eq known name ≡ false → IsValueIn name left value
      → IsValueIn name (option_map (λ given. (known, text) ∷ given) left) value
  value_later None value other later = tt
  value_later (Some given) value other later = rw other later

-- ---- options of known names

-- a name has a value exactly where it is given
among : (name : List ℕ) (given : List Given) → list_any (λ other. bytes_eq other name) (names_of given) ≡ is_some (value_of name given)
among name [] = refl
among name (one ∷ given) = rw (among name given) (split (bytes_eq one.0 name))
  where
    split : (b : Bool) → (b || is_some (value_of name given)) ≡ is_some (cond b (Some one.1) (value_of name given))
    split true = refl
    split false = refl

module _ (name text : List ℕ) where
  -- whether the name stands in the list
  abbrev pub stands_in : List (Bor (List ℕ)) → Bool
  stands_in names = list_any (λ other. bytes_eq other.now name) names

  -- a name is known exactly where it stands among the names
  known_alike : (names : List (Bor (List ℕ))) → is_known (map (λ other. other.now) names) (name, text) ≡ stands_in names
  known_alike [] = refl
  known_alike (first ∷ names) = rw (known_alike names, nat_list_eq_equiv.symm name first.now) refl

  -- one more option has a known name, which is given for none of the others
  pub are_more : (names : List (Bor (List ℕ))) (left : Option (List Given)) (value : Option (Bor (List ℕ))) → IsValueIn name left value
      → are_options (map (λ other. other.now) names) (option_map (λ given. (name, text) ∷ given) left) ≡
      (stands_in names && not (is_some value) && are_options (map (λ other. other.now) names) left)
  are_more names None value is = sym (and_right (stands_in names && not (is_some value)) false refl)
  are_more names (Some given) value is =
      rw (known_alike names, among name given, ← is, is_some_now value)
      (split (stands_in names) (list_all (is_known (map (λ other. other.now) names)) given) (is_some value) (are_distinct (names_of given)))
    where
      is_some_now : (value : Option (Bor (List ℕ))) → is_some (option_map (λ text. text.now) value) ≡ is_some value
      is_some_now None = refl
      is_some_now (Some found) = refl

      split : (k a s d : Bool) → (k && a && (not s && d)) ≡ (k && not s && (a && d))
      split true true s d = refl
      split true false true d = refl
      split true false false d = refl
      split false a s d = refl
