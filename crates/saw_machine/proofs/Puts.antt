-- Slots, and slots with another at one place.
use Rattle.std.proofs.Common.{◌≡◌, ℕ, true, false, List, Option, Some, None, ◌⊎◌, inl, inr, refl, sym, ◌∙◌}
use Rattle.std.proofs.lemmas.Bool.{cases_eq, eq-eqb, ne_eqb, true≢false}
use Rattle.saw_messages.specs.declared.outcome.Outcome.TheVariants.{Ok, Invalid}
use Rattle.saw_machine.specs.Machine.{Closed, Held, Running, Slot, Slots, Task, Waiting, again, holds_invalid, holds_ok, is_closed, made, put, task_in}

-- equal or not
pub same_or : (j i : ℕ) → (j ≡ i) ⊎ (j ≡ i → ⊥)
same_or = cases_eq

pub put-same : (slots : Slots) (i : ℕ) (slot : Slot) → put slots i slot i ≡ slot
put-same slots i slot = rw (eq-eqb i i refl) refl

pub put-other : (slots : Slots) (i : ℕ) (slot : Slot) (j : ℕ) → (j ≡ i → ⊥) → put slots i slot j ≡ slots j
put-other slots i slot j other = rw (ne_eqb j i other) refl

-- ---- what a slot holds

pub none_or_some : {A : Type 0} (o : Option A) → (o ≡ None) ⊎ ((value : A) × (o ≡ Some value))
none_or_some None = inl refl
none_or_some (Some value) = inr (value, refl)

-- only what holds Ok has made a change
pub made-ok : (slot : Slot) (at : List ℕ) (value : Option (List ℕ)) → made slot at ≡ Some value → holds_ok slot ≡ true
made-ok Waiting at value e = absurd cc
made-ok (Running n task) at value e = absurd cc
made-ok (Held task (Ok changes events)) at value e = refl
made-ok (Held task (Invalid reason)) at value e = absurd cc
made-ok Closed at value e = absurd cc

pub made-none : (slot : Slot) (at : List ℕ) → holds_ok slot ≡ false → made slot at ≡ None
made-none slot at isnt = elim (none_or_some (made slot at)) [
  | inl none ↦ none
  | inr some ↦ absurd (true≢false (sym (made-ok slot at some.0 some.1) ∙ isnt))
]

-- and has a task
pub ok-task : (slot : Slot) → holds_ok slot ≡ true → (task : Task) × (task_in slot ≡ Some task)
ok-task Waiting is = absurd cc
ok-task (Running n task) is = absurd cc
ok-task (Held task outcome) is = (task, refl)
ok-task Closed is = absurd cc

-- and is no invalid one
pub ok-valid : (slot : Slot) → holds_ok slot ≡ true → holds_invalid slot ≡ false
ok-valid Waiting is = refl
ok-valid (Running n task) is = refl
ok-valid (Held task (Ok changes events)) is = refl
ok-valid (Held task (Invalid reason)) is = absurd cc
ok-valid Closed is = refl

-- ---- a slot that waits again

pub again-made : (slot : Slot) (at : List ℕ) → made (again slot) at ≡ None
again-made Waiting at = refl
again-made (Running n task) at = refl
again-made (Held task outcome) at = refl
again-made Closed at = refl

pub again-task : (slot : Slot) → task_in (again slot) ≡ None
again-task Waiting = refl
again-task (Running n task) = refl
again-task (Held task outcome) = refl
again-task Closed = refl

pub again-closed : (slot : Slot) → is_closed (again slot) ≡ is_closed slot
again-closed Waiting = refl
again-closed (Running n task) = refl
again-closed (Held task outcome) = refl
again-closed Closed = refl
