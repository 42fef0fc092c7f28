-- What a batch holds that has a result.
use Rattle.std.proofs.Common.{◌≡◌, ℕ, zero, suc, ◌+◌, ◌<◌, ◌≤◌, List, [], ◌∷◌, Option, Some, None, inl, inr, refl, sym, ap, ◌∙◌, arith}
use Rattle.std.proofs.Math.Path.{fun_ext}
use Rattle.saw_messages.specs.declared.outcome.Change.{Change}
use Rattle.saw_messages.specs.declared.receipt.Event.{Event}
use Rattle.saw_messages.specs.declared.outcome.Outcome.{Outcome}
use Rattle.saw_messages.specs.declared.outcome.Outcome.TheVariants.{Ok, Invalid}
use Rattle.saw_context.specs.declared.batch_result.BatchResult.{BatchResult}
use Rattle.saw_context.specs.declared.batch_result.BatchResult.TheVariants.{Applied, Failed}
use Rattle.saw_machine.specs.Orders.{Map, after}
use Rattle.saw_machine.specs.Serial.{after_all}
use Rattle.saw_machine.specs.Machine.{Closed, Held, Running, Slot, Slots, Task, Waiting, front, front_at, look, made}
use Rattle.saw_machine.proofs.Puts.{same_or}

-- the first transaction of an applied batch, and what is behind it
pub record Leads (slots : Slots) (n size : ℕ) (outcomes : List Outcome) : Type 0 where
  pub task : Task
  pub changes : List Change
  pub events : List Event
  pub others : List Outcome
  pub held : slots n ≡ Held task (Ok changes events)
  pub onward : front slots (suc n) size ≡ Some (Applied others)
  pub is : outcomes ≡ Ok changes events ∷ others

pub front-leads : (slots : Slots) (n size : ℕ) (outcomes : List Outcome) → front slots n (suc size) ≡ Some (Applied outcomes) → Leads slots n size outcomes
front-leads slots n size outcomes e = go (slots n) refl (front slots (suc n) size) refl e
  where
    go : (slot : Slot) → slots n ≡ slot → (others : Option BatchResult) → front slots (suc n) size ≡ others
        → front_at slot others ≡ Some (Applied outcomes) → Leads slots n size outcomes
    go Waiting is others onward e = absurd cc
    go (Running k task) is others onward e = absurd cc
    go (Held task (Ok changes events)) is None onward e = absurd cc
    go (Held task (Ok changes events)) is (Some (Applied others)) onward e =
        record { task = task; changes = changes; events = events; others = others; held = is; onward = onward; is = cc }
    go (Held task (Ok changes events)) is (Some (Failed t reason)) onward e = absurd cc
    go (Held task (Invalid reason)) is others onward e = absurd cc
    go Closed is others onward e = absurd cc

-- nothing of an applied batch runs
pub front-running : (slots : Slots) (n size i k : ℕ) (task : Task) (outcomes : List Outcome) → front slots n size ≡ Some (Applied outcomes)
    → n ≤ i → i < n + size → slots i ≡ Running k task → ⊥
front-running slots n zero i k task outcomes e from to runs = omega arith
front-running slots n (suc size) i k task outcomes e from to runs =
    let leads : Leads slots n size outcomes = front-leads slots n size outcomes e in
    elim (same_or i n) [
      | inl here ↦ absurd (clash leads.task (Ok leads.changes leads.events) (sym leads.held ∙ (rw here at runs)))
      | inr other ↦ front-running slots (suc n) size i k task leads.others leads.onward (omega arith) (omega arith) runs
    ]
  where
    clash : (held : Task) (outcome : Outcome) → Held held outcome ≡ Running k task → ⊥
    clash held outcome e = cc

-- the slots of an applied batch show its outcomes
pub front-look : (base : Map) (slots : Slots) (n size m : ℕ) (outcomes : List Outcome) → front slots n size ≡ Some (Applied outcomes) → m ≡ n + size
    → look base slots m ≡ after_all (look base slots n) outcomes
front-look base slots n zero m outcomes e to =
    let here : m ≡ n = omega arith in
    let none : outcomes ≡ [] = cc in
    rw (here, none) refl
front-look base slots n (suc size) m outcomes e to =
    let leads : Leads slots n size outcomes = front-leads slots n size outcomes e in
    let onward : look base slots m ≡ after_all (look base slots (suc n)) leads.others
    = front-look base slots (suc n) size m leads.others leads.onward (omega arith) in
    let one : look base slots (suc n) ≡ after (look base slots n) leads.changes = fun_ext (λ at. rw leads.held refl) in
    onward ∙ ap (λ map. after_all map leads.others) one ∙ sym (ap (after_all (look base slots n)) leads.is)

-- slots that show nothing from n on
pub look-none : (base : Map) (slots : Slots) (n size m : ℕ) → ((j : ℕ) (at : List ℕ) → n ≤ j → j < n + size → made (slots j) at ≡ None) → m ≡ n + size
    → look base slots m ≡ look base slots n
look-none base slots n zero m none to = let here : m ≡ n = omega arith in rw here refl
look-none base slots n (suc size) m none to =
    let here : m ≡ suc (n + size) = omega arith in
    let below : look base slots (n + size) ≡ look base slots n
    = look-none base slots n size (n + size) (λ j at from less. none j at from (omega arith)) refl in
    rw here (fun_ext (λ at. rw (none (n + size) at (omega arith) (omega arith)) (ap (λ m. m at) below)))
