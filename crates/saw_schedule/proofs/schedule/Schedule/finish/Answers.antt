use Rattle.std.proofs.Common.{◌≡◌, ◌-◌, ℕ, List, Some, None, refl, sym, ap, subst, ◌∙◌, vec_capacity, arith}
use Rattle.std.specs.Arc.{arc_value}
use Rattle.saw_machine.specs.Machine.{State}
use Rattle.saw_machine.specs.Orders.{Order}
use Rattle.saw_ready.specs.Queues.{with_mark}
use Rattle.saw_schedule.specs.Inside.{AreSlotsOf, IsPlacedAt}
use Rattle.saw_schedule.specs.Settling.{HaveState, IsOpen, settled}
use Rattle.saw_schedule.specs.Histories.{History, RunsIn, difference_in, state_of, txs_in, with_step}
use Rattle.saw_schedule.specs.declared.step.Step.{Step}
use Rattle.saw_schedule.specs.declared.step.Step.TheVariants.{Finish}
use Rattle.saw_schedule.proofs.Finishing.{accepted, found-code, kept-at, mid-long, mid-state, refused, tx-at, tx-inside}
use Rattle.saw_schedule.proofs.GivingBack.{has-room, inside, running-some, task-so}
use Rattle.saw_schedule.proofs.ScheduleSteps.{runs-iff}
use Rattle.saw_schedule.proofs.schedule.Schedule.finish.Goals as goal

pub returns-then-not-runs : goal.returns-then-not-runs
returns-then-not-runs c = (
  refl,
  λ r. c.if-not-runs.ensures.no refl ((runs-iff _ c.self.inside.txs c.self.inside.named c.self.inside.slots c.self.inside.lasts (vec_capacity c.self.inside.steps) c.self.invariant c.args.done.ticket).1
      (subst (λ (h : History). RunsIn (state_of h) c.args.done.ticket) (sym c.self.view_is) r)),
)

pub bounds-as_slice-k : goal.bounds-as_slice-k
bounds-as_slice-k c = tx-inside _ c.self.inside.txs c.self.inside.named c.self.inside.slots c.self.inside.lasts (vec_capacity c.self.inside.steps) c.self.invariant c.args.done (c.if-not-runs.ensures.yes refl) c.as_slice.result.now c.as_slice.ensures

pub add_step-requires : goal.add_step-requires
add_step-requires c = rw c.self.inside.steps.ok.0 (has-room _ c.self.inside.txs c.self.inside.named c.self.inside.slots c.self.inside.lasts (vec_capacity c.self.inside.steps) c.self.invariant c.args.done.ticket (c.if-not-runs.ensures.yes refl))

pub overflow_sub-self : goal.overflow_sub-self
overflow_sub-self c = running-some _ c.self.inside.txs c.self.inside.named c.self.inside.slots c.self.inside.lasts (vec_capacity c.self.inside.steps) c.self.invariant c.args.done.ticket (c.if-not-runs.ensures.yes refl)

pub invariant_of-self : goal.invariant_of-self
invariant_of-self c =
    refused _ c.self.inside.txs c.self.inside.named c.self.inside.slots c.self.inside.lasts (vec_capacity c.self.inside.steps) c.self.invariant c.args.done (c.if-not-runs.ensures.yes refl) c.in-Some.why (sym (found-code _ c.self.inside.txs c.self.inside.named c.self.inside.slots c.self.inside.lasts (vec_capacity c.self.inside.steps) c.self.invariant c.args.done (c.if-not-runs.ensures.yes refl) c.difference_kept-found.result c.index-as_slice-k.result c.index.result.now c.deref.result.now (tx-at _ c.self.inside.txs c.self.inside.named c.self.inside.slots c.self.inside.lasts (vec_capacity c.self.inside.steps) c.self.invariant c.args.done (c.if-not-runs.ensures.yes refl) c.as_slice.result.now c.index-as_slice-k.result c.as_slice.ensures c.index-as_slice-k.is) (kept-at _ c.self.inside.txs c.self.inside.named c.self.inside.slots c.self.inside.lasts (vec_capacity c.self.inside.steps) c.self.invariant c.args.done (c.if-not-runs.ensures.yes refl) c.index.result.now c.index.ensures) c.deref.ensures c.difference_kept-found.ensures) ∙ c.in-Some.is) _ c.add_step.new.steps.items (vec_capacity c.add_step.new.steps)
    c.back.ensures refl refl refl c.place_result.ensures.long c.place_result.ensures.others (subst (λ (place : ℕ). IsPlacedAt c.self.inside.slots.kept.items c.place_result.new.kept.items c.args.done.ticket.index place) (c.len.ensures ∙ c.self.inside.steps.ok.0) c.place_result.ensures.here) refl c.add_step.ensures.more c.add_step.ensures.room

pub returns-in-Some : goal.returns-in-Some
returns-in-Some c = (
  ap (λ (steps : List Step). record { batches = (arc_value c.self.inside.plan).batches; steps = steps }) c.add_step.ensures.more
      ∙ ap (λ (h : History). with_step h (Finish c.args.done)) c.self.view_is,
  subst (λ (h : History). RunsIn (state_of h) c.args.done.ticket) c.self.view_is (task-so _ c.self.inside.txs c.self.inside.named c.self.inside.slots c.self.inside.lasts (vec_capacity c.self.inside.steps) c.self.invariant c.args.done.ticket (c.if-not-runs.ensures.yes refl)),
  subst (λ (h : History). difference_in (txs_in h) (state_of h) c.args.done ≡ Some c.in-Some.why) c.self.view_is (sym (found-code _ c.self.inside.txs c.self.inside.named c.self.inside.slots c.self.inside.lasts (vec_capacity c.self.inside.steps) c.self.invariant c.args.done (c.if-not-runs.ensures.yes refl) c.difference_kept-found.result c.index-as_slice-k.result c.index.result.now c.deref.result.now (tx-at _ c.self.inside.txs c.self.inside.named c.self.inside.slots c.self.inside.lasts (vec_capacity c.self.inside.steps) c.self.invariant c.args.done (c.if-not-runs.ensures.yes refl) c.as_slice.result.now c.index-as_slice-k.result c.as_slice.ensures c.index-as_slice-k.is) (kept-at _ c.self.inside.txs c.self.inside.named c.self.inside.slots c.self.inside.lasts (vec_capacity c.self.inside.steps) c.self.invariant c.args.done (c.if-not-runs.ensures.yes refl) c.index.result.now c.index.ensures) c.deref.ensures c.difference_kept-found.ensures) ∙ c.in-Some.is),
)

pub settle-requires-clause-state : goal.settle-requires-clause-state
settle-requires-clause-state c =
    subst (λ (steps : List Step). HaveState steps (record { queue = c.hold.new.queue; ends = c.self.inside.slots.ends; hits = c.self.inside.slots.hits; kept = c.place_result.new.kept; verdicts = c.self.inside.slots.verdicts; running = c.self.inside.slots.running - 1 })) (sym (c.deref-2.ensures.value ∙ c.add_step.ensures.more))
    (mid-state _ c.self.inside.txs c.self.inside.named c.self.inside.slots c.self.inside.lasts (vec_capacity c.self.inside.steps) c.self.invariant c.args.done (c.if-not-runs.ensures.yes refl) (sym (found-code _ c.self.inside.txs c.self.inside.named c.self.inside.slots c.self.inside.lasts (vec_capacity c.self.inside.steps) c.self.invariant c.args.done (c.if-not-runs.ensures.yes refl) c.difference_kept-found.result c.index-as_slice-k.result c.index.result.now c.deref.result.now (tx-at _ c.self.inside.txs c.self.inside.named c.self.inside.slots c.self.inside.lasts (vec_capacity c.self.inside.steps) c.self.invariant c.args.done (c.if-not-runs.ensures.yes refl) c.as_slice.result.now c.index-as_slice-k.result c.as_slice.ensures c.index-as_slice-k.is) (kept-at _ c.self.inside.txs c.self.inside.named c.self.inside.slots c.self.inside.lasts (vec_capacity c.self.inside.steps) c.self.invariant c.args.done (c.if-not-runs.ensures.yes refl) c.index.result.now c.index.ensures) c.deref.ensures c.difference_kept-found.ensures) ∙ c.in_default.is) (record { queue = c.hold.new.queue; ends = c.self.inside.slots.ends; hits = c.self.inside.slots.hits; kept = c.place_result.new.kept; verdicts = c.self.inside.slots.verdicts; running = c.self.inside.slots.running - 1 }) (c.hold.ensures ∙ ap (λ mark. with_mark c.self.inside.slots.queue c.args.done.ticket.index mark) (sym c.is_valid-valid.ensures)) refl refl refl c.place_result.ensures.long c.place_result.ensures.others (subst (λ (place : ℕ). IsPlacedAt c.self.inside.slots.kept.items c.place_result.new.kept.items c.args.done.ticket.index place) (c.len.ensures ∙ c.self.inside.steps.ok.0) c.place_result.ensures.here) refl)

pub settle-requires-clause-long : goal.settle-requires-clause-long
settle-requires-clause-long c =
    mid-long _ c.self.inside.txs c.self.inside.named c.self.inside.slots c.self.inside.lasts (vec_capacity c.self.inside.steps) c.self.invariant c.args.done (c.if-not-runs.ensures.yes refl) (sym (found-code _ c.self.inside.txs c.self.inside.named c.self.inside.slots c.self.inside.lasts (vec_capacity c.self.inside.steps) c.self.invariant c.args.done (c.if-not-runs.ensures.yes refl) c.difference_kept-found.result c.index-as_slice-k.result c.index.result.now c.deref.result.now (tx-at _ c.self.inside.txs c.self.inside.named c.self.inside.slots c.self.inside.lasts (vec_capacity c.self.inside.steps) c.self.invariant c.args.done (c.if-not-runs.ensures.yes refl) c.as_slice.result.now c.index-as_slice-k.result c.as_slice.ensures c.index-as_slice-k.is) (kept-at _ c.self.inside.txs c.self.inside.named c.self.inside.slots c.self.inside.lasts (vec_capacity c.self.inside.steps) c.self.invariant c.args.done (c.if-not-runs.ensures.yes refl) c.index.result.now c.index.ensures) c.deref.ensures c.difference_kept-found.ensures) ∙ c.in_default.is) (record { queue = c.hold.new.queue; ends = c.self.inside.slots.ends; hits = c.self.inside.slots.hits; kept = c.place_result.new.kept; verdicts = c.self.inside.slots.verdicts; running = c.self.inside.slots.running - 1 }) (c.hold.ensures ∙ ap (λ mark. with_mark c.self.inside.slots.queue c.args.done.ticket.index mark) (sym c.is_valid-valid.ensures)) refl refl refl c.place_result.ensures.long c.place_result.ensures.others (subst (λ (place : ℕ). IsPlacedAt c.self.inside.slots.kept.items c.place_result.new.kept.items c.args.done.ticket.index place) (c.len.ensures ∙ c.self.inside.steps.ok.0) c.place_result.ensures.here) refl

pub invariant_of-self-2 : goal.invariant_of-self-2
invariant_of-self-2 c =
    accepted _ c.self.inside.txs c.self.inside.named c.self.inside.slots c.self.inside.lasts (vec_capacity c.self.inside.steps) c.self.invariant c.args.done (c.if-not-runs.ensures.yes refl) (sym (found-code _ c.self.inside.txs c.self.inside.named c.self.inside.slots c.self.inside.lasts (vec_capacity c.self.inside.steps) c.self.invariant c.args.done (c.if-not-runs.ensures.yes refl) c.difference_kept-found.result c.index-as_slice-k.result c.index.result.now c.deref.result.now (tx-at _ c.self.inside.txs c.self.inside.named c.self.inside.slots c.self.inside.lasts (vec_capacity c.self.inside.steps) c.self.invariant c.args.done (c.if-not-runs.ensures.yes refl) c.as_slice.result.now c.index-as_slice-k.result c.as_slice.ensures c.index-as_slice-k.is) (kept-at _ c.self.inside.txs c.self.inside.named c.self.inside.slots c.self.inside.lasts (vec_capacity c.self.inside.steps) c.self.invariant c.args.done (c.if-not-runs.ensures.yes refl) c.index.result.now c.index.ensures) c.deref.ensures c.difference_kept-found.ensures) ∙ c.in_default.is) (record { queue = c.hold.new.queue; ends = c.self.inside.slots.ends; hits = c.self.inside.slots.hits; kept = c.place_result.new.kept; verdicts = c.self.inside.slots.verdicts; running = c.self.inside.slots.running - 1 }) (c.hold.ensures ∙ ap (λ mark. with_mark c.self.inside.slots.queue c.args.done.ticket.index mark) (sym c.is_valid-valid.ensures)) refl refl refl c.place_result.ensures.long c.place_result.ensures.others (subst (λ (place : ℕ). IsPlacedAt c.self.inside.slots.kept.items c.place_result.new.kept.items c.args.done.ticket.index place) (c.len.ensures ∙ c.self.inside.steps.ok.0) c.place_result.ensures.here) refl
    c.settle.new.slots c.settle.new.undone c.add_step.new.steps.items (vec_capacity c.add_step.new.steps)
    (subst (λ (steps : List Step). (order : Order) (sizes : List ℕ) (x : State) → IsOpen x → AreSlotsOf order sizes x steps (record { queue = c.hold.new.queue; ends = c.self.inside.slots.ends; hits = c.self.inside.slots.hits; kept = c.place_result.new.kept; verdicts = c.self.inside.slots.verdicts; running = c.self.inside.slots.running - 1 }) → AreSlotsOf order sizes (settled order x) steps c.settle.new.slots)
    (c.deref-2.ensures.value ∙ c.add_step.ensures.more) c.settle.ensures.settled)
    c.settle.ensures.stays.0 c.settle.ensures.stays.1 c.settle.ensures.marks c.settle.ensures.undone c.add_step.ensures.more c.add_step.ensures.room

pub returns : goal.returns
returns c = (
  ap (λ (steps : List Step). record { batches = (arc_value c.self.inside.plan).batches; steps = steps }) c.add_step.ensures.more
      ∙ ap (λ (h : History). with_step h (Finish c.args.done)) c.self.view_is,
  subst (λ (h : History). RunsIn (state_of h) c.args.done.ticket) c.self.view_is (task-so _ c.self.inside.txs c.self.inside.named c.self.inside.slots c.self.inside.lasts (vec_capacity c.self.inside.steps) c.self.invariant c.args.done.ticket (c.if-not-runs.ensures.yes refl)),
  subst (λ (h : History). difference_in (txs_in h) (state_of h) c.args.done ≡ None) c.self.view_is (sym (found-code _ c.self.inside.txs c.self.inside.named c.self.inside.slots c.self.inside.lasts (vec_capacity c.self.inside.steps) c.self.invariant c.args.done (c.if-not-runs.ensures.yes refl) c.difference_kept-found.result c.index-as_slice-k.result c.index.result.now c.deref.result.now (tx-at _ c.self.inside.txs c.self.inside.named c.self.inside.slots c.self.inside.lasts (vec_capacity c.self.inside.steps) c.self.invariant c.args.done (c.if-not-runs.ensures.yes refl) c.as_slice.result.now c.index-as_slice-k.result c.as_slice.ensures c.index-as_slice-k.is) (kept-at _ c.self.inside.txs c.self.inside.named c.self.inside.slots c.self.inside.lasts (vec_capacity c.self.inside.steps) c.self.invariant c.args.done (c.if-not-runs.ensures.yes refl) c.index.result.now c.index.ensures) c.deref.ensures c.difference_kept-found.ensures) ∙ c.in_default.is),
)

pub runs-requires : goal.runs-requires
runs-requires c = c.self.invariant.slots_are.kept_long

pub index-requires : goal.index-requires
index-requires c =
    let inner = inside _ c.self.inside.txs c.self.inside.named c.self.inside.slots c.self.inside.lasts (vec_capacity c.self.inside.steps) c.self.invariant c.args.done.ticket (c.if-not-runs.ensures.yes refl) in
    let long = c.self.invariant.slots_are.kept_long in
    let len = c.self.inside.slots.kept.ok.0 in
    omega (arith, inner, long, len)

pub place_result-requires : goal.place_result-requires
place_result-requires c =
    let inner = inside _ c.self.inside.txs c.self.inside.named c.self.inside.slots c.self.inside.lasts (vec_capacity c.self.inside.steps) c.self.invariant c.args.done.ticket (c.if-not-runs.ensures.yes refl) in
    let long = c.self.invariant.slots_are.kept_long in
    omega (arith, inner, long)

pub back-requires-clause-inside : goal.back-requires-clause-inside
back-requires-clause-inside c =
    inside _ c.self.inside.txs c.self.inside.named c.self.inside.slots c.self.inside.lasts (vec_capacity c.self.inside.steps) c.self.invariant c.args.done.ticket (c.if-not-runs.ensures.yes refl)

pub back-requires-clause-runs : goal.back-requires-clause-runs
back-requires-clause-runs c = (c.if-not-runs.ensures.yes refl).mark

pub hold-requires-clause-inside : goal.hold-requires-clause-inside
hold-requires-clause-inside c =
    inside _ c.self.inside.txs c.self.inside.named c.self.inside.slots c.self.inside.lasts (vec_capacity c.self.inside.steps) c.self.invariant c.args.done.ticket (c.if-not-runs.ensures.yes refl)

pub hold-requires-clause-runs : goal.hold-requires-clause-runs
hold-requires-clause-runs c = (c.if-not-runs.ensures.yes refl).mark
