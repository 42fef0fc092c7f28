-- The setting of block validation rules.
use Rattle.std.specs.Prelude.{ℕ, List, [], ◌∷◌, map, filter, length, not, Option, Some, None, option_map, option_and_then, codes, ◌==◌, if◌then◌else◌, ℤ, pos, neg_ℤ}
use Rattle.std.specs.List.{before_first, after_first, slice_split}
use Rattle.std.specs.Str.{bytes_eq}
use Rattle.saw_settings.specs.Values.{number_in, trimmed}
use Rattle.saw_rules.specs.declared.rule.Rule.{Rule}
use Rattle.saw_rules.specs.declared.rule.Rule.TheVariants.{NofX, XatY, Local}

-- ---- arguments

-- the parts between commas, without the spaces at their ends
abbrev pub arguments_in : List ℕ → List (List ℕ)
arguments_in text = map trimmed (slice_split (λ b. b == 44) text)

-- the name of a family, which is not empty
abbrev pub family_name : List ℕ → Option (List ℕ)
family_name text = if length text == 0 then None else Some text

-- a number with one `-` before it, or none; `-0` is 0
abbrev pub position_in : List ℕ → Option ℤ
position_in [] = None
position_in (first ∷ rest) = if first == 45 then option_map (λ n. neg_ℤ (pos n)) (number_in rest) else option_map pos (number_in (first ∷ rest))

-- what each of a list gives, where all give something
abbrev pub each_of : {A B : Type 0} → (A → Option B) → List A → Option (List B)
each_of f [] = Some []
each_of f (a ∷ others) = option_and_then (λ b. option_map (λ bs. b ∷ bs) (each_of f others)) (f a)

-- ---- rules

-- the two of a list of two
abbrev pub two_in : {A : Type 0} → List A → Option (A × A)
two_in (a ∷ b ∷ []) = Some (a, b)
two_in _ = None

-- `NofX:n,family`
abbrev pub n_of_x : List (List ℕ) → Option Rule
n_of_x arguments = option_and_then (λ two. option_and_then (λ most. option_map (NofX most) (family_name two.1)) (number_in two.0)) (two_in arguments)

-- `XatY:family,position`
abbrev pub x_at_y : List (List ℕ) → Option Rule
x_at_y arguments = option_and_then (λ two. option_and_then (λ name. option_map (XatY name) (position_in two.1)) (family_name two.0)) (two_in arguments)

-- `local:index,..`
abbrev pub local : List (List ℕ) → Option Rule
local indices = option_map Local (each_of number_in indices)

-- a rule by its name and its arguments
abbrev pub rule_by : List ℕ → List (List ℕ) → Option Rule
rule_by name arguments =
    if bytes_eq name (codes "NofX") then n_of_x arguments
    else if bytes_eq name (codes "XatY") then x_at_y arguments
    else if bytes_eq name (codes "local") then local arguments
    else None

-- a rule: its name stands before the first colon
abbrev pub rule_in : List ℕ → Option Rule
rule_in part = rule_by (trimmed (before_first (λ b. b == 58) part)) (arguments_in (after_first (λ b. b == 58) part))

-- the parts between semicolons, without the spaces at their ends, of which empty ones are none
abbrev pub parts_in : List ℕ → List (List ℕ)
parts_in text = filter (λ part. not (length part == 0)) (map trimmed (slice_split (λ b. b == 59) text))

-- the rules that a text lists
unfoldable pub rules_of : List ℕ → Option (List Rule)
rules_of text = each_of rule_in (parts_in text)
