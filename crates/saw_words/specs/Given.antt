-- The options that words are.
use Rattle.std.specs.Prelude.{ℕ, Bool, false, ◌&&◌, not, List, [], ◌∷◌, length, map, String, string_bytes, Option, Some, None, option_map, ◌==◌}
use Rattle.std.specs.Prelude.{nat_eq, nat_lt, if◌then◌else◌, codes}
use Rattle.std.specs.List.{starts_with, before_first, after_first, list_all, list_any}
use Rattle.std.specs.Str.{bytes_eq}
use Rattle.std.specs.declared.alloc.Global.{Global}
use Rattle.saw_messages.specs.Distinct.{are_distinct}

-- a value is not empty and does not begin with `-`
abbrev pub is_value : List ℕ → Bool
is_value word = not (length word == 0) && not (starts_with nat_eq word (codes "-"))

-- what stands before the first `=` of a word, and what stands behind it
abbrev pub name_part : List ℕ → List ℕ
name_part word = before_first (λ b. b == 61) word

abbrev pub value_part : List ℕ → List ℕ
value_part word = after_first (λ b. b == 61) word

abbrev pub is_joined : List ℕ → Bool
is_joined word = list_any (λ b. b == 61) word

-- an option: its name and its value
abbrev pub Given : Type 0
Given = List ℕ × List ℕ

abbrev pub one_more : List ℕ → List ℕ → Option (List Given) → Option (List Given)
one_more name value others =
    if is_value value then option_map (λ given. (name, value) ∷ given) others else None

-- The options that words are, each as `--name value` or as `--name=value`, cut at the first `=`. Where a name was
-- read, its value comes first.
abbrev pub given_in : Option (List ℕ) → List (List ℕ) → Option (List Given)
given_in None [] = Some []
given_in (Some name) [] = None
given_in (Some name) (value ∷ words) = one_more name value (given_in None words)
given_in None (word ∷ words) =
    if is_joined word then one_more (name_part word) (value_part word) (given_in None words)
    else given_in (Some word) words

-- whether an option has one of these names
abbrev pub is_known : List (List ℕ) → Given → Bool
is_known names one = list_any (λ name. bytes_eq one.0 name) names

abbrev pub names_of : List Given → List (List ℕ)
names_of given = map (λ one. one.0) given

-- options with these names, each at most once
abbrev pub are_of : List (List ℕ) → List Given → Bool
are_of names given = list_all (is_known names) given && are_distinct (names_of given)

-- the value that is given for a name
abbrev pub value_of : List ℕ → List Given → Option (List ℕ)
value_of name [] = None
value_of name (one ∷ others) = if bytes_eq one.0 name then Some one.1 else value_of name others

-- the options that words are
abbrev pub options_in : List (String Global) → Option (List Given)
options_in words = given_in None (map string_bytes words)

-- options of these names, each at most once
abbrev pub are_options : List (List ℕ) → Option (List Given) → Bool
are_options names None = false
are_options names (Some given) = are_of names given

-- ---- names

-- two hyphens, and behind them a text that is not empty and has no `=`
abbrev pub is_option_name : List ℕ → Bool
is_option_name name = starts_with nat_eq name (codes "--") && (nat_lt 2 (length name) && not (is_joined name))
