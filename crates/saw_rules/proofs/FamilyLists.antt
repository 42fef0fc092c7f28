-- The families of a list, as what each of its elements gives.
use Rattle.std.proofs.Common.{◌≡◌, true, false, List, [], ◌∷◌, length, None, option_map, option_and_then, refl, ap, arith}
use Rattle.std.specs.Prelude.{◌==◌}
use Rattle.std.proofs.lemmas.Bool.{eqb-true}
use Rattle.serde_json.specs.Data.{Data}
use Rattle.serde_json.specs.View.{items_of, items_view}
use Rattle.serde_json.specs.declared.value.Value.{Value}
use Rattle.saw_rules.specs.Families.{family_in, families_among, families_in}
use Rattle.saw_rules.specs.RuleTexts.{each_of}

pub families_each : (elements : List Data) → families_in (items_of elements) ≡ each_of family_in elements
families_each [] = refl
families_each (element ∷ elements) =
    ap (λ others. option_and_then (λ family. option_map (λ families. family ∷ families) others) (family_in element)) (families_each elements)

pub among_some : (vs : List Value) → (length vs == 0) ≡ false → families_in (items_view vs) ≡ families_among (items_view vs)
among_some [] some = absurd (cc)
among_some (v ∷ vs) some = refl

pub among_none : (vs : List Value) → (length vs == 0) ≡ true → None ≡ families_among (items_view vs)
among_none [] none = refl
among_none (v ∷ vs) none = absurd (omega (arith, eqb-true (length (v ∷ vs)) 0 none))
