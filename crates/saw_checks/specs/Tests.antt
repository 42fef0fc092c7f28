-- Tests in order: the first that holds decides.
use Rattle.std.specs.Prelude.{ℕ, suc, Bool, List, [], ◌∷◌, Option, Some, None, option_map, if◌then◌else◌}
use Rattle.std.specs.Str.{bytes_eq}

-- the fault of the first test that holds
abbrev pub first_of : {F : Type 0} → List (Bool × F) → Option F
first_of [] = None
first_of (test ∷ tests) = if test.0 then Some test.1 else first_of tests

infixr 9 ◌<|>◌
-- the first of two faults
abbrev pub ◌<|>◌ : {F : Type 0} → Option F → Option F → Option F
(Some fault) <|> others = Some fault
None <|> others = others

-- the first index at which two lists of ids differ, or at which one of them has ended
abbrev pub first_difference : List (List ℕ) → List (List ℕ) → Option ℕ
first_difference [] [] = None
first_difference (id ∷ ids) (other ∷ others) = if bytes_eq id other then option_map suc (first_difference ids others) else Some 0
first_difference _ _ = Some 0
