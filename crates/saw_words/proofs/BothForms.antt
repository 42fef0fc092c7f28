-- That options are read in both forms.
use Rattle.std.proofs.Common.{◌≡◌, ℕ, ◌==◌, Bool, true, false, List, [], ◌∷◌, ◌++◌, length, map, Some, None, option_map, refl, ap, ◌∙◌, arith}
use Rattle.std.specs.List.{AllByRecursion, flat_map, position_or_len}
use Rattle.std.proofs.Math.Seq.{drop-append-add, take-append_seam}
use Rattle.std.proofs.lemmas.Bool.{or_parts}
use Rattle.saw_words.specs.Given.{Given, given_in, is_joined}
use Rattle.saw_words.specs.Laws.{IsOption, spelled}

-- a name without `=` ends at the first `=` behind it
ends : (name value : List ℕ) → is_joined name ≡ false
    → (is_joined (name ++ 61 ∷ value) ≡ true) × (position_or_len (λ b. b == 61) (name ++ 61 ∷ value) ≡ length name)
ends [] value apart = (refl, refl)
ends (b ∷ name) value apart =
    let parts = or_parts (b == 61) (is_joined name) apart in
    let later = ends name value parts.1 in
    rw parts.0 (later.0, omega (arith, later.1))

-- an option in either form is the first of those that the words are
option_read : (joined : Bool) (option : Given) (words : List (List ℕ)) → IsOption option
    → given_in None (spelled joined option ++ words) ≡ option_map (λ given. option ∷ given) (given_in None words)
option_read true (name, value) words is =
    let at = ends name value is.0 in
    rw (at.0, at.1, take-append_seam name (61 ∷ value), drop-append-add name (61 ∷ value) 1, is.1) refl
option_read false (name, value) words is = rw (is.0, is.1) refl

pub options_are_read : (options : List (Bool × Given)) → AllByRecursion (λ option. IsOption option.1) options
    → given_in None (flat_map (λ option. spelled option.0 option.1) options) ≡ Some (map (λ option. option.1) options)
options_are_read [] all = refl
options_are_read ((joined, option) ∷ options) all = option_read joined option _ all.0
    ∙ ap (option_map (λ given. option ∷ given)) (options_are_read options all.1)
