-- What is true of the words of options.
use Rattle.std.specs.Prelude.{◌≡◌, Bool, true, false, ℕ, List, [], ◌∷◌, ◌++◌, map, Some, None}
use Rattle.std.specs.List.{AllByRecursion, flat_map}
use Rattle.saw_words.specs.Given.{Given, given_in, is_joined, is_value}

-- an option as words: `--name=value` in one, or `--name value` in two
abbrev pub spelled : Bool → Given → List (List ℕ)
spelled true option = (option.0 ++ 61 ∷ option.1) ∷ []
spelled false option = option.0 ∷ option.1 ∷ []

-- an option's name has no `=`, and its value may be one
abbrev pub IsOption : Given → Type 0
IsOption option = (is_joined option.0 ≡ false) × (is_value option.1 ≡ true)

-- options in either form are read as these options
abbrev pub OptionsAreRead : Type 0
OptionsAreRead = (options : List (Bool × Given)) → AllByRecursion (λ option. IsOption option.1) options
    → given_in None (flat_map (λ option. spelled option.0 option.1) options)
    ≡ Some (map (λ option. option.1) options)
