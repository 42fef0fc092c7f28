-- What a batch holds may come of it.
use Rattle.std.proofs.Common.{◌≡◌, ℕ, zero, suc, ◌+◌, ◌≤◌, Bool, true, List, Option, Some, None, refl, sym, ap, subst, ◌∙◌, arith}
use Rattle.std.proofs.Math.Path.{fun_ext}
use Rattle.saw_messages.specs.declared.outcome.Outcome.{Outcome}
use Rattle.saw_messages.specs.declared.outcome.Outcome.TheVariants.{Ok, Invalid}
use Rattle.saw_context.specs.declared.batch_result.BatchResult.{BatchResult}
use Rattle.saw_context.specs.declared.batch_result.BatchResult.TheVariants.{Applied, Failed}
use Rattle.saw_machine.specs.Orders.{AreMeetings, Map, Order, after}
use Rattle.saw_machine.specs.Serial.{MayComeOfBatch, ReadsOnly, failed_after, map_after, names_failed}
use Rattle.saw_machine.specs.Machine.{Closed, Held, Running, Slot, Slots, Task, Waiting, closed_in, front, front_at, look, made, over, slots_after}
use Rattle.saw_machine.specs.Laws.{KeepsTask}
use Rattle.saw_machine.proofs.Closure.{stands-direct}
use Rattle.saw_machine.proofs.Fates.{Closes, Stays, WaitsAgain, fate, fate-before, fate-within}
use Rattle.saw_machine.proofs.Fronts.{front-look, look-none}
use Rattle.saw_machine.proofs.Kept.{Keeps, made-precedes}
use Rattle.saw_machine.proofs.Puts.{again-closed}
use Rattle.saw_machine.proofs.Views.{look-same, view-looks}

-- ---- what may come

module _ (order : Order) (May : ℕ → Map → Bool → Outcome → Type 0) (base : Map) where
  -- each held outcome may come over what its task shows
  abbrev pub AreTold : Slots → Type 0
  AreTold slots = (i : ℕ) (task : Task) (outcome : Outcome) → slots i ≡ Held task outcome → May i (over base task.view) task.failed outcome

  module _ (slots : Slots) (first : ℕ) (meetings : AreMeetings order) (reads : ReadsOnly order May)
      (keeps : Keeps order slots first) (told : AreTold slots) where
    -- and over what the slots before it show
    held-comes : (n : ℕ) (task : Task) (outcome : Outcome) → first ≤ n → slots n ≡ Held task outcome
        → May n (look base slots n) (names_failed order (closed_in slots) n) outcome
    held-comes n task outcome from held =
        subst (λ (failed : Bool). May n (look base slots n) failed outcome) kept.failed
        (reads n (over base task.view) (look base slots n) task.failed outcome same (told n task outcome held))
      where
        kept : KeepsTask order slots first n task
        kept = keeps.tasks n task from (rw held refl)

        same : (at : List ℕ) → order.reads n at ≡ true → over base task.view at ≡ look base slots n at
        same at is =
            rw (kept.view at, is)
            (view-looks order base slots n n at
            (λ j value less e. stands-direct order.precedes j n less (made-precedes order slots meetings keeps.declared j n at value less e is)))

    pub front-comes : (n size : ℕ) (result : BatchResult) → first ≤ n → front slots n size ≡ Some result
        → MayComeOfBatch order May (closed_in slots) n size (look base slots n) result
    front-comes n zero result from e = cc
    front-comes n (suc size) result from e =
        go (slots n) refl (front slots (suc n) size) refl e (λ others is. front-comes (suc n) size others (omega arith) is)
      where
        go : (slot : Slot) → slots n ≡ slot → (found : Option BatchResult) → front slots (suc n) size ≡ found → front_at slot found ≡ Some result
            → ((others : BatchResult) → front slots (suc n) size ≡ Some others
            → MayComeOfBatch order May (closed_in slots) (suc n) size (look base slots (suc n)) others)
            → MayComeOfBatch order May (closed_in slots) n (suc size) (look base slots n) result
        go Waiting held found onward e more = absurd cc
        go (Running k task) held found onward e more = absurd cc
        go (Held task (Ok changes events)) held None onward e more = absurd cc
        go (Held task (Ok changes events)) held (Some others) onward e more =
            let one : look base slots (suc n) ≡ after (look base slots n) changes = fun_ext (λ at. rw held refl) in (
              Ok changes events,
              held-comes n task (Ok changes events) from held,
              (
                others,
                subst (λ (m : Map). MayComeOfBatch order May (closed_in slots) (suc n) size m others) one (more others onward),
                cc,
              ),
            )
        go (Held task (Invalid reason)) held found onward e more = (Invalid reason, held-comes n task (Invalid reason) from held, cc)
        go Closed held found onward e more = absurd cc

-- ---- the map and the failed ones after a batch

pub front-map : (order : Order) (base : Map) (slots : Slots) (n size : ℕ) (result : BatchResult) → front slots n size ≡ Some result
    → map_after (look base slots n) result ≡ look base (slots_after order n size result slots) (n + size)
front-map order base slots n size (Applied outcomes) e = sym (front-look base slots n size (n + size) outcomes e refl)
front-map order base slots n size (Failed t reason) e =
    let afterwards = slots_after order n size (Failed t reason) slots in
    fun_ext (look-same base slots afterwards n (λ j at less. ap (λ slot. made slot at) (sym (fate-before order n size t reason slots j less))))
    ∙ sym (look-none base afterwards n size (n + size) (λ j at from to. ap (λ slot. made slot at) (fate-within order n size t reason slots j from to)) refl)

pub front-closed : (order : Order) (slots : Slots) (n size : ℕ) (result : BatchResult)
    → failed_after (closed_in slots) n size result ≡ closed_in (slots_after order n size result slots)
front-closed order slots n size (Applied outcomes) = refl
front-closed order slots n size (Failed t reason) = fun_ext (λ j. elim (fate order n size t reason slots j) [
  | Closes is e ↦ rw is refl
  | WaitsAgain out hit e ↦ rw (out, hit) (sym (again-closed (slots j)))
  | Stays out safe e ↦ rw (out, safe) refl
])
