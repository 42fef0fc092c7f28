-- The last change at an address, without a closure.
use Rattle.std.proofs.Common.{◌≡◌, ℕ, zero, suc, ◌<◌, ◌≤◌, true, List, Option, Some, inl, inr, refl, sym, ap, ◌∙◌, arith}
use Rattle.std.proofs.lemmas.Bool.{cases_Bool, true≢false}
use Rattle.saw_machine.specs.Orders.{AreMeetings, Order}
use Rattle.saw_machine.specs.Machine.{Slots, State, holds_ok, made, view_below}
use Rattle.saw_machine.specs.Laws.{AreDeclared, IsLawful, NoLaterChange, NoLaterWrite, ViewIsLast, last_below}
use Rattle.saw_machine.proofs.Closure.{stands-direct}
use Rattle.saw_machine.proofs.Kept.{made-precedes}
use Rattle.saw_machine.proofs.Puts.{made-ok, none_or_some, ok-task}
use Rattle.saw_machine.proofs.Views.{told, told-none}

-- at an address that i reads, it stands on each that made a change
told-all : (order : Order) (slots : Slots) (i n : ℕ) (at : List ℕ) → AreMeetings order → AreDeclared order slots → order.reads i at ≡ true → n < i
    → told order slots i at n ≡ made (slots n) at
told-all order slots i n at meetings declared reads less = elim (none_or_some (made (slots n) at)) [
  | inl none ↦ told-none order slots i at n none ∙ sym none
  | inr some ↦ rw (stands-direct order.precedes n i less (made-precedes order slots meetings declared n i at some.0 less some.1 reads)) refl
]

last-below : (order : Order) (slots : Slots) (i n : ℕ) (at : List ℕ) → AreMeetings order → AreDeclared order slots → order.reads i at ≡ true → n ≤ i
    → view_below order slots i n at ≡ last_below slots n at
last-below order slots i zero at meetings declared reads to = refl
last-below order slots i (suc n) at meetings declared reads to =
    rw (told-all order slots i n at meetings declared reads (omega arith), last-below order slots i n at meetings declared reads (omega arith)) refl

pub view-is-last : ViewIsLast
view-is-last order slots i at meetings declared = elim (cases_Bool (order.reads i at)) [
  | inl reads ↦ rw reads (last-below order slots i i at meetings declared reads (omega arith))
  | inr isnt ↦ rw isnt refl
]

-- what made a change has none before it, in an unsettled batch, that precedes it and holds no Ok
pub changed-after : (order : Order) (st : State) (i j : ℕ) (at : List ℕ) (value : Option (List ℕ)) → IsLawful order st → st.first ≤ i → i < j
    → made (st.slots j) at ≡ Some value → order.precedes i j ≡ true → holds_ok (st.slots i) ≡ true
changed-after order st i j at value kept from less e edge =
    let has = ok-task (st.slots j) (made-ok (st.slots j) at value e) in
    (kept.tasks j has.0 (omega arith) has.1).preds i from less edge

pub no-later-change : NoLaterChange
no-later-change order st i j at meetings kept from waits reads less = elim (none_or_some (made (st.slots j) at)) [
  | inl none ↦ none
  | inr some ↦
      let edge = meetings.read i j at less reads (kept.declared j at some.0 some.1) in
      absurd (true≢false (sym (changed-after order st i j at some.0 kept from less some.1 edge) ∙ ap holds_ok waits))
]

pub no-later-write : NoLaterWrite
no-later-write order st i j n task at meetings kept runs writes less = elim (none_or_some (made (st.slots j) at)) [
  | inl none ↦ none
  | inr some ↦
      let edge = meetings.rewritten i j at less writes (kept.declared j at some.0 some.1) in
      absurd (true≢false (sym (changed-after order st i j at some.0 kept (kept.running i n task runs) less some.1 edge) ∙ ap holds_ok runs))
]
