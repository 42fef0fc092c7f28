-- Settling a batch keeps what every move keeps.
use Rattle.std.proofs.Common.{◌≡◌, ℕ, ◌+◌, Some, inl, inr, sym, ap, ◌∙◌, arith}
use Rattle.std.proofs.lemmas.Bool.{cases_lt}
use Rattle.saw_context.specs.declared.batch_result.BatchResult.{BatchResult}
use Rattle.saw_context.specs.declared.batch_result.BatchResult.TheVariants.{Applied, Failed}
use Rattle.saw_machine.specs.Orders.{AreMeetings, Order}
use Rattle.saw_machine.specs.Machine.{Slots, front, made, slots_after, task_in}
use Rattle.saw_machine.proofs.Fates.{fate-task, fate-task_in}
use Rattle.saw_machine.proofs.Fronts.{front-running}
use Rattle.saw_machine.proofs.Hits.{outside}
use Rattle.saw_machine.proofs.Kept.{Keeps}
use Rattle.saw_machine.proofs.Puts.{made-ok, ok-task}

pub keep-front : (order : Order) (slots : Slots) (n size : ℕ) (result : BatchResult) → AreMeetings order → front slots n size ≡ Some result
    → Keeps order slots n → Keeps order (slots_after order n size result slots) (n + size)
keep-front order slots n size (Applied outcomes) meetings e keeps = record {
  tasks = λ i task late has.
      let kept = keeps.tasks i task (omega arith) has in
      record { preds = λ j from less edge. kept.preds j (omega arith) less edge; view = kept.view; failed = kept.failed };
  running = λ i k task runs. elim (cases_lt i (n + size)) [
    | inl less ↦ absurd (front-running slots n size i k task outcomes e (keeps.running i k task runs) less runs)
    | inr late ↦ late
  ];
  declared = keeps.declared;
}
keep-front order slots n size (Failed t reason) meetings e keeps = record {
  tasks = λ i task late has.
      let stays = fate-task_in order n size t reason slots i task has in
      fate-task order n size t reason slots i task meetings keeps.declared late stays.1
      (keeps.tasks i task (omega arith) (sym (ap task_in stays.2) ∙ has));
  running = λ i k task runs.
      let stays = fate-task_in order n size t reason slots i task (ap task_in runs) in
      outside n size i stays.0 (keeps.running i k task (sym stays.2 ∙ runs));
  declared = λ j at value is.
      let has = ok-task (slots_after order n size (Failed t reason) slots j) (made-ok _ at value is) in
      let stays = fate-task_in order n size t reason slots j has.0 has.1 in
      keeps.declared j at value (sym (ap (λ slot. made slot at) stays.2) ∙ is);
}
