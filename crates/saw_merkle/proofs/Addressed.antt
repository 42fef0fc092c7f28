-- Maps that have only addresses, said in two ways.
use Rattle.std.proofs.Common.{◌≡◌, sym, ap, ◌∙◌, Option, Some, None, refl, inl, inr, true}
use Rattle.std.specs.Prelude.{is_some}
use Rattle.std.specs.FinMap as finite
use Rattle.std.proofs.lemmas.Bool.{true≢false, cases_Bool}
use Rattle.saw_address.specs.Maps.{AreAddresses, StateMap, is_address, value_at}
use Rattle.saw_runs.specs.Places.{AreAddressed}
use Rattle.saw_merkle.proofs.Addresses.{in_map, of_map}

not_none : {A : Type 0} (o : Option A) → o ≡ None → is_some o ≡ true → ⊥
not_none o none some = true≢false (sym some ∙ ap is_some none)

pub addressed : (m : StateMap) → AreAddresses (finite.entries m) → AreAddressed m
addressed m all q some = elim (cases_Bool (is_address q)) [
  | inl is ↦ is
  | inr other ↦ absurd (not_none (value_at m q) (in_map m all q other) some)
]

none_of : {A : Type 0} (o : Option A) → (is_some o ≡ true → ⊥) → o ≡ None
none_of None never = refl
none_of (Some x) never = absurd (never refl)

pub addresses : (m : StateMap) → AreAddressed m → AreAddresses (finite.entries m)
addresses m are = of_map m (λ q other. none_of (value_at m q) (λ some. true≢false (sym (are q some) ∙ other)))
