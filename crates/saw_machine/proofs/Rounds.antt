-- One round of settling, by what the first batch holds.
use Rattle.std.proofs.Common.{◌≡◌, ℕ, zero, suc, ◌+◌, ◌<◌, ◌≤◌, true, false, List, [], ◌∷◌, Option, Some, None, option_map, refl, sym, ap, ◌∙◌, arith}
use Rattle.std.proofs.lemmas.Bool.{le-ltb}
use Rattle.saw_messages.specs.declared.outcome.Outcome.{Outcome}
use Rattle.saw_messages.specs.declared.outcome.Outcome.TheVariants.{Ok, Invalid}
use Rattle.saw_messages.specs.declared.outcome.Reason.{Reason}
use Rattle.saw_context.specs.Serial.{behind}
use Rattle.saw_context.specs.declared.batch_result.BatchResult.{BatchResult}
use Rattle.saw_context.specs.declared.batch_result.BatchResult.TheVariants.{Applied, Failed}
use Rattle.saw_machine.specs.Orders.{Order}
use Rattle.saw_machine.specs.Machine.{Closed, Held, Running, Slot, Slots, State, Task, Waiting, front, front_at, holds_invalid, holds_ok, own_start, settle}
use Rattle.saw_machine.proofs.Inductions.{settled, state}

-- those of a batch before this number hold Ok
abbrev pub AreOk : Slots → ℕ → ℕ → Type 0
AreOk slots n to = (j : ℕ) → n ≤ j → j < to → holds_ok (slots j) ≡ true

-- what stands before one that holds Ok
front-ok : (slots : Slots) (n size : ℕ) → holds_ok (slots n) ≡ true
    → (outcome : Outcome) × (front slots n (suc size) ≡ option_map (behind outcome) (front slots (suc n) size))
front-ok slots n size is = go (slots n) refl is
  where
    go : (slot : Slot) → slots n ≡ slot → holds_ok slot ≡ true
        → (outcome : Outcome) × (front slots n (suc size) ≡ option_map (behind outcome) (front slots (suc n) size))
    go Waiting e is = absurd cc
    go (Running k task) e is = absurd cc
    go (Held task (Ok changes events)) e is = (Ok changes events, rw e refl)
    go (Held task (Invalid reason)) e is = absurd cc
    go Closed e is = absurd cc

pub front-whole : (slots : Slots) (n size : ℕ) → AreOk slots n (n + size) → (outcomes : List Outcome) × (front slots n size ≡ Some (Applied outcomes))
front-whole slots n zero are = ([], refl)
front-whole slots n (suc size) are =
    let first = front-ok slots n size (are n (omega arith) (omega arith)) in
    let others = front-whole slots (suc n) size (λ j from less. are j (omega arith) (omega arith)) in
    (first.0 ∷ others.0, first.1 ∙ ap (option_map (behind first.0)) others.1)

front_at-open : (slot : Slot) (found : Option BatchResult) → holds_ok slot ≡ false → holds_invalid slot ≡ false → front_at slot found ≡ None
front_at-open Waiting found isnt valid = refl
front_at-open (Running n task) found isnt valid = refl
front_at-open (Held task (Ok changes events)) found isnt valid = absurd cc
front_at-open (Held task (Invalid reason)) found isnt valid = absurd cc
front_at-open Closed found isnt valid = refl

pub front-open : (slots : Slots) (n size t : ℕ) → t < size → AreOk slots n (n + t)
    → holds_ok (slots (n + t)) ≡ false → holds_invalid (slots (n + t)) ≡ false → front slots n size ≡ None
front-open slots n zero t less are isnt valid = absurd (omega arith)
front-open slots n (suc size) zero less are isnt valid =
    let here : n + 0 ≡ n = omega arith in
    front_at-open (slots n) (front slots (suc n) size) (rw here at isnt) (rw here at valid)
front-open slots n (suc size) (suc t) less are isnt valid =
    let first = front-ok slots n size (are n (omega arith) (omega arith)) in
    let here : n + suc t ≡ suc n + t = omega arith in
    let others = front-open slots (suc n) size t (omega arith) (λ j from less. are j (omega arith) (omega arith)) (rw here at isnt) (rw here at valid) in
    first.1 ∙ ap (option_map (behind first.0)) others

pub front-broken : (slots : Slots) (n size t : ℕ) (task : Task) (reason : Reason) → t < size → AreOk slots n (n + t)
    → slots (n + t) ≡ Held task (Invalid reason) → front slots n size ≡ Some (Failed t reason)
front-broken slots n zero t task reason less are held = absurd (omega arith)
front-broken slots n (suc size) zero task reason less are held =
    let here : n + 0 ≡ n = omega arith in
    ap (λ slot. front_at slot (front slots (suc n) size)) (rw here at held)
front-broken slots n (suc size) (suc t) task reason less are held =
    let first = front-ok slots n size (are n (omega arith) (omega arith)) in
    let here : n + suc t ≡ suc n + t = omega arith in
    let others = front-broken slots (suc n) size t task reason (omega arith) (λ j from less. are j (omega arith) (omega arith)) (rw here at held) in
    first.1 ∙ ap (option_map (behind first.0)) others

-- all settling from a state on
abbrev pub settled_all : Order → State → State
settled_all order st = settle order st.slots st.attempts st.results st.first st.rest

module _ (order : Order) (st : State) (size : ℕ) (rest : List ℕ) (is : st.rest ≡ size ∷ rest) where
  pub settle-stays : front st.slots st.first size ≡ None → settled_all order st ≡ st
  settle-stays none =
      ap (settle order st.slots st.attempts st.results st.first) is ∙ (rw none (ap (state st.slots st.attempts st.results st.first) (sym is)))

  pub settle-goes : (result : BatchResult) → front st.slots st.first size ≡ Some result
      → settled_all order st ≡ settled_all order (settled order st.slots st.attempts st.results st.first size rest result)
  settle-goes result e = ap (settle order st.slots st.attempts st.results st.first) is ∙ (rw e refl)

-- the batch of what comes after the first one
pub own_start-next : (first size : ℕ) (rest : List ℕ) (i : ℕ) → first + size ≤ i → own_start first (size ∷ rest) i ≡ own_start (first + size) rest i
own_start-next first size rest i late = rw (le-ltb i (first + size) late) refl
