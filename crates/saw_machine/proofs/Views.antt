-- Views and maps of slots that show the same.
use Rattle.std.proofs.Common.{◌≡◌, ℕ, zero, suc, ◌<◌, Bool, true, ◌&&◌, if◌then◌else◌, List, Option, Some, None, inl, inr, refl, arith}
use Rattle.std.proofs.lemmas.Bool.{cases_Bool}
use Rattle.saw_context.specs.Views.{layered}
use Rattle.saw_context.specs.declared.view.ViewEntry.{ViewEntry}
use Rattle.saw_machine.specs.Orders.{Map, Order, changed, stands}
use Rattle.saw_machine.specs.Serial.{names_failed}
use Rattle.saw_machine.specs.Machine.{Slots, look, made, seen, view_below, view_of}
use Rattle.saw_machine.proofs.Closure.{any-same}
use Rattle.saw_machine.proofs.Puts.{none_or_some}

-- what i may see of the change of n at an address
abbrev pub told : Order → Slots → ℕ → List ℕ → ℕ → Option (Option (List ℕ))
told order slots i at n = if stands order.precedes i n then made (slots n) at else None

pub told-none : (order : Order) (slots : Slots) (i : ℕ) (at : List ℕ) (n : ℕ) → made (slots n) at ≡ None → told order slots i at n ≡ None
told-none order slots i at n none = elim (cases_Bool (stands order.precedes i n)) [ inl on ↦ rw (on, none) refl | inr isnt ↦ rw isnt refl ]

view_below-same : (order : Order) (slots others : Slots) (i n : ℕ) (at : List ℕ)
    → ((j : ℕ) → j < n → told order slots i at j ≡ told order others i at j)
    → view_below order slots i n at ≡ view_below order others i n at
view_below-same order slots others i zero at same = refl
view_below-same order slots others i (suc n) at same =
    rw (same n (omega arith), view_below-same order slots others i n at (λ j less. same j (omega arith))) refl

pub view_of-same : (order : Order) (slots others : Slots) (i : ℕ) (at : List ℕ)
    → (order.reads i at ≡ true → (j : ℕ) → j < i → told order slots i at j ≡ told order others i at j)
    → view_of order slots i at ≡ view_of order others i at
view_of-same order slots others i at same = elim (cases_Bool (order.reads i at)) [
  | inl is ↦ rw is (view_below-same order slots others i i at (same is))
  | inr isnt ↦ rw isnt refl
]

pub look-same : (base : Map) (slots others : Slots) (n : ℕ) → ((j : ℕ) (at : List ℕ) → j < n → made (slots j) at ≡ made (others j) at)
    → (at : List ℕ) → look base slots n at ≡ look base others n at
look-same base slots others zero same at = refl
look-same base slots others (suc n) same at =
    rw (same n at (omega arith), look-same base slots others n (λ j at less. same j at (omega arith)) at) refl

pub names_failed-same : (order : Order) (failed others : ℕ → Bool) (i : ℕ) → ((j : ℕ) → j < i → order.names i j ≡ true → failed j ≡ others j)
    → names_failed order failed i ≡ names_failed order others i
names_failed-same order failed others i same =
    any-same i (λ j. order.names i j && failed j) (λ j. order.names i j && others j)
    (λ j less. elim (cases_Bool (order.names i j)) [ inl is ↦ rw is (same j less is) | inr isnt ↦ rw isnt refl ])

layered-seen : (n : ℕ) (change : Option (Option (List ℕ))) (older : Option ViewEntry) (below : Option (List ℕ))
    → layered (seen n change older) below ≡ changed change (layered older below)
layered-seen n None older below = refl
layered-seen n (Some value) older below = refl

-- where i stands on each that made a change, its view shows what the slots show
pub view-looks : (order : Order) (base : Map) (slots : Slots) (i n : ℕ) (at : List ℕ)
    → ((j : ℕ) (value : Option (List ℕ)) → j < n → made (slots j) at ≡ Some value → stands order.precedes i j ≡ true)
    → layered (view_below order slots i n at) (base at) ≡ look base slots n at
view-looks order base slots i zero at on = refl
view-looks order base slots i (suc n) at on =
    let below : layered (view_below order slots i n at) (base at) ≡ look base slots n at
    = view-looks order base slots i n at (λ j value less. on j value (omega arith)) in
    elim (none_or_some (made (slots n) at)) [
      | inl none ↦ rw (told-none order slots i at n none, none) below
      | inr some ↦ rw (on n some.0 (omega arith) some.1, layered-seen n (made (slots n) at) (view_below order slots i n at) (base at), below) refl
    ]
