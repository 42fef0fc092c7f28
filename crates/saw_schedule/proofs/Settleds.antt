-- What settling leaves of changes.
use Rattle.std.proofs.Common.{◌≡◌, ℕ, List, Option, Some, None, refl, sym, ◌∙◌, arith}
use Rattle.saw_context.specs.declared.batch_result.BatchResult.{BatchResult}
use Rattle.saw_context.specs.declared.batch_result.BatchResult.TheVariants.{Applied, Failed}
use Rattle.saw_machine.specs.Machine.{Slots, State, front, made}
use Rattle.saw_machine.specs.Orders.{Order}
use Rattle.saw_machine.proofs.Fates.{Closes, Stays, WaitsAgain, fate}
use Rattle.saw_machine.proofs.Inductions.{settle-all, settled}
use Rattle.saw_machine.proofs.Puts.{again-made}
use Rattle.saw_schedule.specs.Inside.{DoPlacesRise}
use Rattle.saw_schedule.specs.Settling.{settled as settled_all}
use Rattle.saw_schedule.specs.declared.kept.Kept.{Kept}

-- each change of the second was one of the first
abbrev pub Loses : Slots → Slots → Type 0
Loses old new = (j : ℕ) (at : List ℕ) (value : Option (List ℕ)) → made (new j) at ≡ Some value → made (old j) at ≡ Some value

pub settled-loses : (order : Order) (st : State) → Loses st.slots (settled_all order st).slots
settled-loses order st = settle-all order st.attempts (λ next. Loses st.slots next.slots) more st.slots st.results st.first st.rest (λ j at value e. e)
  where
    more : (slots : Slots) (results : List BatchResult) (first size : ℕ) (rest : List ℕ) (result : BatchResult) → front slots first size ≡ Some result
        → Loses st.slots slots → Loses st.slots (settled order slots st.attempts results first size rest result).slots
    more slots results first size rest (Applied outcomes) found loses j at value e = loses j at value e
    more slots results first size rest (Failed t reason) found loses j at value e = elim (fate order first size t reason slots j) [
      | Closes is new ↦ absurd (none≢some (sym (rw new refl) ∙ e))
      | WaitsAgain out hit new ↦ absurd (none≢some (sym (rw new (again-made (slots j) at)) ∙ e))
      | Stays out safe new ↦ loses j at value (sym (rw new refl) ∙ e)
    ]
      where
        none≢some : None ≡ Some value → ⊥
        none≢some x = grind arith

pub settled-rise : (order : Order) (st : State) (kept : List Kept) → DoPlacesRise st kept → DoPlacesRise (settled_all order st) kept
settled-rise order st kept rise i j one other at v w less a b = rise i j one other at v w less (settled-loses order st i at v a) (settled-loses order st j at w b)
