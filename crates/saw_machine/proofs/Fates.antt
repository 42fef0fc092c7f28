-- What a failed batch makes of each slot.
use Rattle.std.proofs.Common.{◌≡◌, ℕ, ◌+◌, ◌<◌, ◌≤◌, Bool, true, false, List, Some, None, inl, inr, refl, sym, ap, ◌∙◌, arith}
use Rattle.std.proofs.lemmas.Bool.{cases_Bool, true≢false}
use Rattle.saw_messages.specs.declared.outcome.Reason.{Reason}
use Rattle.saw_context.specs.declared.batch_result.BatchResult.TheVariants.{Failed}
use Rattle.saw_machine.specs.Orders.{AreMeetings, Order}
use Rattle.saw_machine.specs.Serial.{within}
use Rattle.saw_machine.specs.Machine.{Closed, Slot, Slots, Task, again, closed_in, is_closed, is_hit, made, slots_after, task_in}
use Rattle.saw_machine.specs.Laws.{AreDeclared, KeepsTask}
use Rattle.saw_machine.proofs.Hits.{hit-direct, hit-late, hit-through, within-is, within-yes}
use Rattle.saw_machine.proofs.Kept.{made-precedes}
use Rattle.saw_machine.proofs.Puts.{again-made, again-task, none_or_some}
use Rattle.saw_machine.proofs.Views.{names_failed-same, told, told-none, view_of-same}

-- a member is closed, what is hit waits again, all else stays
pub data Fate (precedes : ℕ → ℕ → Bool) (n size j : ℕ) (old new : Slot) : Type 0 where
  Closes : within n size j ≡ true → new ≡ Closed → Fate precedes n size j old new
  WaitsAgain : within n size j ≡ false → is_hit precedes n size j ≡ true → new ≡ again old → Fate precedes n size j old new
  Stays : within n size j ≡ false → is_hit precedes n size j ≡ false → new ≡ old → Fate precedes n size j old new

module _ (order : Order) (n size t : ℕ) (reason : Reason) (slots : Slots) where
  -- the slots once the batch has failed
  abbrev afterwards : Slots
  afterwards = slots_after order n size (Failed t reason) slots

  pub fate : (j : ℕ) → Fate order.precedes n size j (slots j) (afterwards j)
  fate j = elim (cases_Bool (within n size j)) [
    | inl is ↦ Closes is (rw is refl)
    | inr out ↦ elim (cases_Bool (is_hit order.precedes n size j)) [
      | inl hit ↦ WaitsAgain out hit (rw (out, hit) refl)
      | inr safe ↦ Stays out safe (rw (out, safe) refl)
    ]
  ]

  -- what is left with a task stays
  pub fate-task_in : (j : ℕ) (task : Task) → task_in (afterwards j) ≡ Some task
      → (within n size j ≡ false) × (is_hit order.precedes n size j ≡ false) × (afterwards j ≡ slots j)
  fate-task_in j task has = elim (fate j) [
    | Closes is e ↦ let none : task_in (afterwards j) ≡ None = rw e refl in absurd cc
    | WaitsAgain out hit e ↦ let none : task_in (afterwards j) ≡ None = rw e (again-task (slots j)) in absurd cc
    | Stays out safe e ↦ (out, safe, e)
  ]

  pub fate-before : (j : ℕ) → j < n → afterwards j ≡ slots j
  fate-before j less = elim (fate j) [
    | Closes is e ↦ let from = (within-is n size j is).0 in absurd (omega arith)
    | WaitsAgain out hit e ↦ let late = hit-late order.precedes n size j hit in absurd (omega arith)
    | Stays out safe e ↦ e
  ]

  pub fate-within : (j : ℕ) → n ≤ j → j < n + size → afterwards j ≡ Closed
  fate-within j from to = rw (within-yes n size j from to) refl

  fate-made : (j : ℕ) (at : List ℕ) → made (slots j) at ≡ None → made (afterwards j) at ≡ None
  fate-made j at none = elim (fate j) [
    | Closes is e ↦ rw e refl
    | WaitsAgain out hit e ↦ rw e (again-made (slots j) at)
    | Stays out safe e ↦ rw e none
  ]

  -- what precedes a transaction that stays does so too
  fate-stays : (j i : ℕ) → j < i → order.precedes j i ≡ true → n + size ≤ i → is_hit order.precedes n size i ≡ false → afterwards j ≡ slots j
  fate-stays j i less edge late safe = elim (fate j) [
    | Closes is e ↦ absurd (true≢false (sym (hit-direct order.precedes n size j i is less edge late) ∙ safe))
    | WaitsAgain out hit e ↦ absurd (true≢false (sym (hit-through order.precedes n size j i hit less edge) ∙ safe))
    | Stays out other e ↦ e
  ]

  -- so its task is that of the state after
  pub fate-task : (i : ℕ) (task : Task) → AreMeetings order → AreDeclared order slots → n + size ≤ i → is_hit order.precedes n size i ≡ false
      → KeepsTask order slots n i task → KeepsTask order afterwards (n + size) i task
  fate-task i task meetings declared late safe keeps = record {
    preds = λ j from less edge. rw (fate-stays j i less edge late safe) (keeps.preds j (omega arith) less edge);
    view = λ at. keeps.view at ∙ view_of-same order slots afterwards i at (λ reads j less. told-same at reads j less);
    failed = keeps.failed ∙ names_failed-same order (closed_in slots) (closed_in afterwards) i
        (λ j less names. ap is_closed (sym (fate-stays j i less (meetings.named j i less names) late safe)));
  }
    where
      told-same : (at : List ℕ) → order.reads i at ≡ true → (j : ℕ) → j < i → told order slots i at j ≡ told order afterwards i at j
      told-same at reads j less = elim (none_or_some (made (slots j) at)) [
        | inl none ↦ told-none order slots i at j none ∙ sym (told-none order afterwards i at j (fate-made j at none))
        | inr some ↦
            let edge = made-precedes order slots meetings declared j i at some.0 less some.1 reads in
            rw (fate-stays j i less edge late safe) refl
      ]
