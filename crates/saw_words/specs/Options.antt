-- Options as they are read, the first of the words first.
use Rattle.std.specs.Prelude.{◌≡◌, ◌<◌, ℕ, List, [], ◌∷◌, length, String, Option, Some, None, IfSome, option_map, ◌==◌, if◌then◌else◌}
use Rattle.std.specs.Borrow.{Bor}
use Rattle.std.specs.declared.alloc.Global.{Global}
use Rattle.clap.specs.Words.{first_value, found_of}
use Rattle.saw_words.specs.Given.{Given, options_in, value_of}
use Rattle.saw_words.specs.declared.options.First.{First}
use Rattle.saw_words.specs.declared.parsed.Values.{Values}

-- one more before the options of the rest
abbrev pub with_first : First → Option (List Given)
with_first first = option_map (λ given. (first.name.now, first.value.now) ∷ given) (options_in first.rest.now)

-- The words are this option and those behind it. Where there is none, they are no options, or no words.
abbrev pub IsFirst : List (String Global) → Option First → Type 0
IsFirst words (Some first) = (options_in words ≡ with_first first) × (length first.rest.now < length words)
IsFirst words None = options_in words ≡ (if length words == 0 then Some [] else None)

-- the value that options have for a name, where words are options
abbrev pub IsValueIn : List ℕ → Option (List Given) → Option (Bor (List ℕ)) → Type 0
IsValueIn name all value = IfSome all (λ given. option_map (λ text. text.now) value ≡ value_of name given)

-- the value that clap has found for a name
abbrev pub told_by : Values → List ℕ → Option (List ℕ)
told_by values name = first_value (found_of values.matches) name

-- it has found what the options have, for every name
abbrev pub Tell : Values → List Given → Type 0
Tell values given = (name : List ℕ) → told_by values name ≡ value_of name given
