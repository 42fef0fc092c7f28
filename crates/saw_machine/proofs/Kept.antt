-- A change of one slot keeps what every move keeps.
use Rattle.std.proofs.Common.{◌≡◌, ℕ, ◌<◌, ◌≤◌, true, false, List, Option, Some, ◌⊎◌, inl, inr, refl, sym, ◌∙◌}
use Rattle.std.proofs.lemmas.Bool.{true≢false}
use Rattle.saw_machine.specs.Orders.{AreMeetings, Order}
use Rattle.saw_machine.specs.Machine.{Running, Slot, Slots, State, Task, closed_in, holds_ok, is_closed, made, put, task_in}
use Rattle.saw_machine.specs.Laws.{AreDeclared, IsLawful, KeepsTask}
use Rattle.saw_machine.proofs.Puts.{made-none, none_or_some, put-other, put-same, same_or}
use Rattle.saw_machine.proofs.Views.{names_failed-same, told, told-none, view_of-same}

-- what every move keeps, of slots of which those below first are settled
pub record Keeps (order : Order) (slots : Slots) (first : ℕ) : Type 0 where
  pub tasks : (i : ℕ) (task : Task) → first ≤ i → task_in (slots i) ≡ Some task → KeepsTask order slots first i task
  pub running : (i n : ℕ) (task : Task) → slots i ≡ Running n task → first ≤ i
  pub declared : AreDeclared order slots

-- the same of a state, both ways
pub is_kept : (order : Order) (st : State) → Keeps order st.slots st.first → IsLawful order st
is_kept order st keeps = record { tasks = keeps.tasks; running = keeps.running; declared = keeps.declared }

pub keeps_of : (order : Order) (st : State) → IsLawful order st → Keeps order st.slots st.first
keeps_of order st kept = record { tasks = kept.tasks; running = kept.running; declared = kept.declared }

-- what made a change at an address that i reads precedes i
pub made-precedes : (order : Order) (slots : Slots) → AreMeetings order → AreDeclared order slots
    → (j i : ℕ) (at : List ℕ) (value : Option (List ℕ)) → j < i → made (slots j) at ≡ Some value → order.reads i at ≡ true → order.precedes j i ≡ true
made-precedes order slots meetings declared j i at value less e reads = meetings.written j i at less (declared j at value e) reads

-- what i may put into its slot, where it held no Ok
pub record MayPut (order : Order) (slots : Slots) (first i : ℕ) (slot : Slot) : Type 0 where
  pub unsettled : first ≤ i
  pub was_open : holds_ok (slots i) ≡ false
  pub as_closed : is_closed slot ≡ is_closed (slots i)
  pub task : (task : Task) → task_in slot ≡ Some task → KeepsTask order slots first i task
  pub declared : (at : List ℕ) (value : Option (List ℕ)) → made slot at ≡ Some value → order.writes i at ≡ true

pub put-closed : (order : Order) (slots : Slots) (first i : ℕ) (slot : Slot) → MayPut order slots first i slot
    → (j : ℕ) → closed_in slots j ≡ closed_in (put slots i slot) j
put-closed order slots first i slot puts j = elim (same_or j i) [
  | inl here ↦ rw (here, put-same slots i slot) (sym puts.as_closed)
  | inr other ↦ rw (put-other slots i slot j other) refl
]

put-declared : (order : Order) (slots : Slots) (first i : ℕ) (slot : Slot) → MayPut order slots first i slot
    → AreDeclared order slots → AreDeclared order (put slots i slot)
put-declared order slots first i slot puts declared j at value e = elim (same_or j i) [
  | inl here ↦ rw here (puts.declared at value (rw (here, put-same slots i slot) at e))
  | inr other ↦ declared j at value (rw (put-other slots i slot j other) at e)
]

-- a task that stays
put-task : (order : Order) (slots : Slots) (first i : ℕ) (slot : Slot) → AreMeetings order → AreDeclared order slots → MayPut order slots first i slot
    → (j : ℕ) (task : Task) → KeepsTask order slots first j task → KeepsTask order (put slots i slot) first j task
put-task order slots first i slot meetings declared puts j task keeps = record {
  preds = λ p from less e. elim (same_or p i) [
    | inl here ↦ absurd (never (rw here at less) (rw here at e))
    | inr other ↦ rw (put-other slots i slot p other) (keeps.preds p from less e)
  ];
  view = λ at. keeps.view at ∙ view_of-same order slots (put slots i slot) j at (λ reads p less. told-put at reads p less (same_or p i));
  failed = keeps.failed ∙ names_failed-same order (closed_in slots) (closed_in (put slots i slot)) j
      (λ p less names. put-closed order slots first i slot puts p);
}
  where
    never : i < j → order.precedes i j ≡ true → ⊥
    never less e = true≢false (sym (keeps.preds i puts.unsettled less e) ∙ puts.was_open)

    told-put : (at : List ℕ) → order.reads j at ≡ true → (p : ℕ) → p < j → (p ≡ i) ⊎ (p ≡ i → ⊥)
        → told order slots j at p ≡ told order (put slots i slot) j at p
    told-put at reads p less (inr other) = rw (put-other slots i slot p other) refl
    told-put at reads p less (inl here) = elim (none_or_some (made (put slots i slot p) at)) [
      | inl none ↦
          told-none order slots j at p (rw here (made-none (slots i) at puts.was_open))
          ∙ sym (told-none order (put slots i slot) j at p none)
      | inr some ↦
          let e = made-precedes order (put slots i slot) meetings (put-declared order slots first i slot puts declared) p j at some.0 less some.1 reads in
          absurd (never (rw here at less) (rw here at e))
    ]

pub keep-put : (order : Order) (slots : Slots) (first i : ℕ) (slot : Slot) → AreMeetings order → MayPut order slots first i slot
    → Keeps order slots first → Keeps order (put slots i slot) first
keep-put order slots first i slot meetings puts keeps = record {
  tasks = λ j task from e. stays j task (elim (same_or j i) [
    | inl here ↦ rw here (puts.task task (rw (here, put-same slots i slot) at e))
    | inr other ↦ keeps.tasks j task from (rw (put-other slots i slot j other) at e)
  ]);
  running = λ j n task e. elim (same_or j i) [
    | inl here ↦ rw here puts.unsettled
    | inr other ↦ keeps.running j n task (rw (put-other slots i slot j other) at e)
  ];
  declared = put-declared order slots first i slot puts keeps.declared;
}
  where
    stays : (j : ℕ) (task : Task) → KeepsTask order slots first j task → KeepsTask order (put slots i slot) first j task
    stays j task = put-task order slots first i slot meetings keeps.declared puts j task
