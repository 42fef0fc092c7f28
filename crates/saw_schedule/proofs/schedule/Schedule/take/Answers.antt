use Rattle.std.proofs.Common.{◌≡◌, ◌+◌, ◌<◌, ◌≤◌, ◌++◌, ◌∷◌, [], ℕ, nat_lt, true, List, Some, slice_get, length, length-set, vec_capacity, Result, Ok, Err, OnErr, refl, sym, ap, subst, ◌∙◌, arith}
use Rattle.std.specs.Arc.{arc_value}
use Rattle.std.specs.Global.{Global}
use Rattle.std.specs.declared.sync.Arc.{Arc}
use Rattle.saw_messages.specs.declared.tx.Tx.{Tx}
use Rattle.saw_machine.specs.Machine.{IsReady}
use Rattle.saw_schedule.proofs.Replays.{histories-are-lawful}
use Rattle.saw_ready.specs.Edges.{AreEdges, begin, finish}
use Rattle.saw_ready.specs.Queues.{Waits, with_mark}
use Rattle.saw_ready.specs.declared.slot_state.SlotState.TheVariants as marks
use Rattle.saw_schedule.specs.Histories.{History, IsTake, order_in, state_of, with_step}
use Rattle.saw_schedule.specs.Jobs.{IsJobAt}
use Rattle.saw_schedule.specs.Layering.{AreLastsOf}
use Rattle.saw_schedule.specs.LookedUp.{do_read_whole}
use Rattle.saw_schedule.specs.Shown.{shown_at}
use Rattle.saw_schedule.specs.declared.step.Step.{Step}
use Rattle.saw_schedule.specs.declared.step.Step.TheVariants.{Take}
use Rattle.saw_schedule.proofs.Showing.{ready-taken}
use Rattle.saw_schedule.proofs.ScheduleSteps.{txs-all}
use Rattle.saw_schedule.proofs.TakeEnds.{attempts-few, back-is, kept-on, kept-still, lefts-taken, one-is, shown-taken}
use Rattle.saw_schedule.proofs.Taking.{attempt-is, first-reads, is-take, taken}
use Rattle.saw_schedule.proofs.schedule.Schedule.take.Goals as goal

pub invariant_of-self-in_default : goal.invariant_of-self-in_default
invariant_of-self-in_default c =
    kept-on _ c.self.inside.txs c.self.inside.named c.self.inside.slots c.self.inside.lasts c.refresh.new.self (vec_capacity c.self.inside.steps) (vec_capacity c.reserve.new.self)
    c.take.new.self c.reserve.new.self.items c.self.invariant
    (subst (λ (all : List Step). AreLastsOf all c.self.inside.slots c.refresh.new.self) (c.deref-2.ensures.value ∙ c.reserve.ensures.items) c.in_ok-refresh.ensures.so)
    (c.refresh.ensures.stays.1 ∙ c.absorb.ensures.wide)
    (let more = c.in_ok-reserve.ensures.capacity in let long = c.self.inside.steps.ok.0 in omega (arith, more, long)) c.in_default.ensures.taken.0 c.reserve.ensures.items

pub returns-in_default-clause-ok : goal.returns-in_default-clause-ok
returns-in_default-clause-ok c = record {
  same = ap (λ (steps : List Step). record { batches = (arc_value c.self.inside.plan).batches; steps = steps }) c.reserve.ensures.items ∙ c.self.view_is;
  none = λ i ready. c.in_default.ensures.taken.1 i
      (ready-taken (order_in (record { batches = (arc_value c.self.inside.plan).batches; steps = c.self.inside.steps.items })) (state_of (record { batches = (arc_value c.self.inside.plan).batches; steps = c.self.inside.steps.items })) c.self.inside.slots.queue i
      c.self.invariant.slots_are.shows (histories-are-lawful (record { batches = (arc_value c.self.inside.plan).batches; steps = c.self.inside.steps.items }) c.self.invariant.replay)
      (subst (λ (h : History). IsReady (order_in h) (state_of h) i) (sym c.self.view_is) ready));
}

pub job_of-found-requires-clause-edges : goal.job_of-found-requires-clause-edges
job_of-found-requires-clause-edges c =
    let long = txs-all _ c.self.inside.txs c.self.inside.named c.self.inside.slots c.self.inside.lasts (vec_capacity c.self.inside.steps) c.self.invariant in
    subst (λ (n : ℕ). AreEdges c.self.inside.named n)
    (long ∙ sym (ap (λ (q : Waits). length q.marks) c.in-Some.ensures.taken.0 ∙ length-set c.self.inside.slots.queue.marks c.in-Some.k marks.Running)) c.self.invariant.edges

pub job_of-found-requires-clause-there : goal.job_of-found-requires-clause-there
job_of-found-requires-clause-there c =
    let long = txs-all _ c.self.inside.txs c.self.inside.named c.self.inside.slots c.self.inside.lasts (vec_capacity c.self.inside.steps) c.self.invariant in
    let inside = c.in-Some.ensures.taken.1.inside in
    subst (λ (xs : List (Arc Tx Global)). c.in-Some.k < length xs) (sym c.as_slice.ensures) (omega (arith, long, inside))

pub invariant_of-self-in_default-found : goal.invariant_of-self-in_default-found
invariant_of-self-in_default-found c =
    kept-on _ c.self.inside.txs c.self.inside.named c.self.inside.slots c.self.inside.lasts c.refresh.new.self (vec_capacity c.self.inside.steps) (vec_capacity c.reserve.new.self)
    c.back.new.self c.reserve.new.self.items c.self.invariant
    (subst (λ (all : List Step). AreLastsOf all c.self.inside.slots c.refresh.new.self) (c.deref-2.ensures.value ∙ c.reserve.ensures.items) c.in_ok-refresh.ensures.so)
    (c.refresh.ensures.stays.1 ∙ c.absorb.ensures.wide)
    (let more = c.in_ok-reserve.ensures.capacity in let long = c.self.inside.steps.ok.0 in omega (arith, more, long))
    (c.back.ensures ∙ (ap (λ (q : Waits). with_mark q c.in-Some.k marks.Waiting) c.in-Some.ensures.taken.0 ∙ back-is c.self.inside.slots.queue c.in-Some.k c.in-Some.ensures.taken.1))
    c.reserve.ensures.items

pub keep_job-requires-clause-few : goal.keep_job-requires-clause-few
keep_job-requires-clause-few c =
    let lefts = (subst (λ (all : List Step). AreLastsOf all c.self.inside.slots c.refresh.new.self) (c.deref-2.ensures.value ∙ c.reserve.ensures.items) c.in_ok-refresh.ensures.so) in
    let is = kept-still (record { batches = (arc_value c.self.inside.plan).batches; steps = c.self.inside.steps.items }) c.self.inside.txs c.self.inside.named c.self.inside.slots c.self.inside.lasts c.refresh.new.self (vec_capacity c.self.inside.steps) c.self.invariant lefts (c.refresh.ensures.stays.1 ∙ c.absorb.ensures.wide) in
    let job : IsJobAt c.self.inside.txs c.self.inside.named (record { queue = c.take.new.self; ends = c.self.inside.slots.ends; hits = c.self.inside.slots.hits; kept = c.self.inside.slots.kept; verdicts = c.self.inside.slots.verdicts; running = c.self.inside.slots.running }) (shown_at c.self.inside.steps.items (record { queue = c.take.new.self; ends = c.self.inside.slots.ends; hits = c.self.inside.slots.hits; kept = c.self.inside.slots.kept; verdicts = c.self.inside.slots.verdicts; running = c.self.inside.slots.running })) c.in-Some.k c.in-Ok.job c.in-Ok.view =
    subst (λ (all : List Step). IsJobAt c.self.inside.txs c.self.inside.named (record { queue = c.take.new.self; ends = c.self.inside.slots.ends; hits = c.self.inside.slots.hits; kept = c.self.inside.slots.kept; verdicts = c.self.inside.slots.verdicts; running = c.self.inside.slots.running }) (shown_at all (record { queue = c.take.new.self; ends = c.self.inside.slots.ends; hits = c.self.inside.slots.hits; kept = c.self.inside.slots.kept; verdicts = c.self.inside.slots.verdicts; running = c.self.inside.slots.running })) c.in-Some.k c.in-Ok.job c.in-Ok.view) (c.deref-3.ensures.value ∙ c.reserve.ensures.items)
    (subst (λ (xs : List (Arc Tx Global)). IsJobAt xs c.self.inside.named (record { queue = c.take.new.self; ends = c.self.inside.slots.ends; hits = c.self.inside.slots.hits; kept = c.self.inside.slots.kept; verdicts = c.self.inside.slots.verdicts; running = c.self.inside.slots.running }) (shown_at c.deref-3.result.now (record { queue = c.take.new.self; ends = c.self.inside.slots.ends; hits = c.self.inside.slots.hits; kept = c.self.inside.slots.kept; verdicts = c.self.inside.slots.verdicts; running = c.self.inside.slots.running })) c.in-Some.k c.in-Ok.job c.in-Ok.view) c.as_slice.ensures c.in-Ok.ensures) in
    let shown = shown-taken (record { batches = (arc_value c.self.inside.plan).batches; steps = c.self.inside.steps.items }) c.self.inside.txs c.self.inside.named c.self.inside.slots (record { queue = c.take.new.self; ends = c.self.inside.slots.ends; hits = c.self.inside.slots.hits; kept = c.self.inside.slots.kept; verdicts = c.self.inside.slots.verdicts; running = c.self.inside.slots.running }) c.self.inside.lasts c.refresh.new.self (vec_capacity c.self.inside.steps) c.in-Some.k c.self.invariant lefts c.in_ok-refresh.ensures.ok c.in-Some.ensures.taken.1 c.in-Some.ensures.taken.0 refl in
    let attempt = attempt-is (record { batches = (arc_value c.self.inside.plan).batches; steps = c.self.inside.steps.items }) c.self.inside.txs c.self.inside.named c.self.inside.slots c.refresh.new.self (vec_capacity c.self.inside.steps) is c.in-Some.k c.in-Some.ensures.taken.1 (record { queue = c.take.new.self; ends = c.self.inside.slots.ends; hits = c.self.inside.slots.hits; kept = c.self.inside.slots.kept; verdicts = c.self.inside.slots.verdicts; running = c.self.inside.slots.running }) c.in-Some.ensures.taken.0 refl c.in-Ok.job c.in-Ok.view (shown_at c.self.inside.steps.items (record { queue = c.take.new.self; ends = c.self.inside.slots.ends; hits = c.self.inside.slots.hits; kept = c.self.inside.slots.kept; verdicts = c.self.inside.slots.verdicts; running = c.self.inside.slots.running })) job shown in
    let few = attempts-few (record { batches = (arc_value c.self.inside.plan).batches; steps = c.self.inside.steps.items }) c.in-Some.k in
    let long = c.self.inside.steps.ok.0 in
    let small = c.self.inside.steps.small in
    omega (arith, attempt, few, long, small)

pub invariant_of-self-2 : goal.invariant_of-self-2
invariant_of-self-2 c =
    let lefts = (subst (λ (all : List Step). AreLastsOf all c.self.inside.slots c.refresh.new.self) (c.deref-2.ensures.value ∙ c.reserve.ensures.items) c.in_ok-refresh.ensures.so) in
    let is = kept-still (record { batches = (arc_value c.self.inside.plan).batches; steps = c.self.inside.steps.items }) c.self.inside.txs c.self.inside.named c.self.inside.slots c.self.inside.lasts c.refresh.new.self (vec_capacity c.self.inside.steps) c.self.invariant lefts (c.refresh.ensures.stays.1 ∙ c.absorb.ensures.wide) in
    let job : IsJobAt c.self.inside.txs c.self.inside.named (record { queue = c.take.new.self; ends = c.self.inside.slots.ends; hits = c.self.inside.slots.hits; kept = c.self.inside.slots.kept; verdicts = c.self.inside.slots.verdicts; running = c.self.inside.slots.running }) (shown_at c.self.inside.steps.items (record { queue = c.take.new.self; ends = c.self.inside.slots.ends; hits = c.self.inside.slots.hits; kept = c.self.inside.slots.kept; verdicts = c.self.inside.slots.verdicts; running = c.self.inside.slots.running })) c.in-Some.k c.in-Ok.job c.in-Ok.view =
    subst (λ (all : List Step). IsJobAt c.self.inside.txs c.self.inside.named (record { queue = c.take.new.self; ends = c.self.inside.slots.ends; hits = c.self.inside.slots.hits; kept = c.self.inside.slots.kept; verdicts = c.self.inside.slots.verdicts; running = c.self.inside.slots.running }) (shown_at all (record { queue = c.take.new.self; ends = c.self.inside.slots.ends; hits = c.self.inside.slots.hits; kept = c.self.inside.slots.kept; verdicts = c.self.inside.slots.verdicts; running = c.self.inside.slots.running })) c.in-Some.k c.in-Ok.job c.in-Ok.view) (c.deref-3.ensures.value ∙ c.reserve.ensures.items)
    (subst (λ (xs : List (Arc Tx Global)). IsJobAt xs c.self.inside.named (record { queue = c.take.new.self; ends = c.self.inside.slots.ends; hits = c.self.inside.slots.hits; kept = c.self.inside.slots.kept; verdicts = c.self.inside.slots.verdicts; running = c.self.inside.slots.running }) (shown_at c.deref-3.result.now (record { queue = c.take.new.self; ends = c.self.inside.slots.ends; hits = c.self.inside.slots.hits; kept = c.self.inside.slots.kept; verdicts = c.self.inside.slots.verdicts; running = c.self.inside.slots.running })) c.in-Some.k c.in-Ok.job c.in-Ok.view) c.as_slice.ensures c.in-Ok.ensures) in
    let shown = shown-taken (record { batches = (arc_value c.self.inside.plan).batches; steps = c.self.inside.steps.items }) c.self.inside.txs c.self.inside.named c.self.inside.slots (record { queue = c.take.new.self; ends = c.self.inside.slots.ends; hits = c.self.inside.slots.hits; kept = c.self.inside.slots.kept; verdicts = c.self.inside.slots.verdicts; running = c.self.inside.slots.running }) c.self.inside.lasts c.refresh.new.self (vec_capacity c.self.inside.steps) c.in-Some.k c.self.invariant lefts c.in_ok-refresh.ensures.ok c.in-Some.ensures.taken.1 c.in-Some.ensures.taken.0 refl in
    let enough : length c.self.inside.steps.items + (c.self.inside.slots.running + 2) ≤ vec_capacity c.reserve.new.self =
    (let more = c.in_ok-reserve.ensures.ok in let long = c.self.inside.steps.ok.0 in omega (arith, more, long)) in
    let room : vec_capacity c.reserve.new.self ≤ vec_capacity c.add_step.new.steps = c.add_step.ensures.room in
    taken (record { batches = (arc_value c.self.inside.plan).batches; steps = c.self.inside.steps.items }) c.self.inside.txs c.self.inside.named c.self.inside.slots c.refresh.new.self (vec_capacity c.self.inside.steps) is c.in-Some.k c.in-Some.ensures.taken.1 (record { queue = c.take.new.self; ends = c.self.inside.slots.ends; hits = c.self.inside.slots.hits; kept = c.self.inside.slots.kept; verdicts = c.self.inside.slots.verdicts; running = c.self.inside.slots.running }) c.in-Some.ensures.taken.0 refl c.in-Ok.job c.in-Ok.view (shown_at c.self.inside.steps.items (record { queue = c.take.new.self; ends = c.self.inside.slots.ends; hits = c.self.inside.slots.hits; kept = c.self.inside.slots.kept; verdicts = c.self.inside.slots.verdicts; running = c.self.inside.slots.running })) job shown
    (record { queue = c.take.new.self; ends = c.self.inside.slots.ends; hits = c.self.inside.slots.hits; kept = c.keep_job.new.kept; verdicts = c.self.inside.slots.verdicts; running = c.self.inside.slots.running + 1 })
    c.add_step.new.steps.items (vec_capacity c.add_step.new.steps)
    refl refl refl refl c.keep_job.ensures.long c.keep_job.ensures.others (λ one e. one-is c.keep_job.new.kept.items c.in-Some.k _ one c.keep_job.ensures.here e) refl
    (c.add_step.ensures.more ∙ ap (λ (all : List Step). all ++ Take c.in-Ok.job.ticket ∷ []) c.reserve.ensures.items) (omega (arith, enough, room)) c.in_ok-refresh.ensures.ok

pub returns-clause-ok : goal.returns-clause-ok
returns-clause-ok c =
    let lefts = (subst (λ (all : List Step). AreLastsOf all c.self.inside.slots c.refresh.new.self) (c.deref-2.ensures.value ∙ c.reserve.ensures.items) c.in_ok-refresh.ensures.so) in
    let is = kept-still (record { batches = (arc_value c.self.inside.plan).batches; steps = c.self.inside.steps.items }) c.self.inside.txs c.self.inside.named c.self.inside.slots c.self.inside.lasts c.refresh.new.self (vec_capacity c.self.inside.steps) c.self.invariant lefts (c.refresh.ensures.stays.1 ∙ c.absorb.ensures.wide) in
    let job : IsJobAt c.self.inside.txs c.self.inside.named (record { queue = c.take.new.self; ends = c.self.inside.slots.ends; hits = c.self.inside.slots.hits; kept = c.self.inside.slots.kept; verdicts = c.self.inside.slots.verdicts; running = c.self.inside.slots.running }) (shown_at c.self.inside.steps.items (record { queue = c.take.new.self; ends = c.self.inside.slots.ends; hits = c.self.inside.slots.hits; kept = c.self.inside.slots.kept; verdicts = c.self.inside.slots.verdicts; running = c.self.inside.slots.running })) c.in-Some.k c.in-Ok.job c.in-Ok.view =
    subst (λ (all : List Step). IsJobAt c.self.inside.txs c.self.inside.named (record { queue = c.take.new.self; ends = c.self.inside.slots.ends; hits = c.self.inside.slots.hits; kept = c.self.inside.slots.kept; verdicts = c.self.inside.slots.verdicts; running = c.self.inside.slots.running }) (shown_at all (record { queue = c.take.new.self; ends = c.self.inside.slots.ends; hits = c.self.inside.slots.hits; kept = c.self.inside.slots.kept; verdicts = c.self.inside.slots.verdicts; running = c.self.inside.slots.running })) c.in-Some.k c.in-Ok.job c.in-Ok.view) (c.deref-3.ensures.value ∙ c.reserve.ensures.items)
    (subst (λ (xs : List (Arc Tx Global)). IsJobAt xs c.self.inside.named (record { queue = c.take.new.self; ends = c.self.inside.slots.ends; hits = c.self.inside.slots.hits; kept = c.self.inside.slots.kept; verdicts = c.self.inside.slots.verdicts; running = c.self.inside.slots.running }) (shown_at c.deref-3.result.now (record { queue = c.take.new.self; ends = c.self.inside.slots.ends; hits = c.self.inside.slots.hits; kept = c.self.inside.slots.kept; verdicts = c.self.inside.slots.verdicts; running = c.self.inside.slots.running })) c.in-Some.k c.in-Ok.job c.in-Ok.view) c.as_slice.ensures c.in-Ok.ensures) in
    let shown = shown-taken (record { batches = (arc_value c.self.inside.plan).batches; steps = c.self.inside.steps.items }) c.self.inside.txs c.self.inside.named c.self.inside.slots (record { queue = c.take.new.self; ends = c.self.inside.slots.ends; hits = c.self.inside.slots.hits; kept = c.self.inside.slots.kept; verdicts = c.self.inside.slots.verdicts; running = c.self.inside.slots.running }) c.self.inside.lasts c.refresh.new.self (vec_capacity c.self.inside.steps) c.in-Some.k c.self.invariant lefts c.in_ok-refresh.ensures.ok c.in-Some.ensures.taken.1 c.in-Some.ensures.taken.0 refl in
    subst (λ (h : History). IsTake c.args.self.now h c.in-Ok.job)
    (ap (λ (h : History). with_step h (Take c.in-Ok.job.ticket)) (sym c.self.view_is)
    ∙ sym (ap (λ (all : List Step). record { batches = (arc_value c.self.inside.plan).batches; steps = all }) (c.add_step.ensures.more ∙ ap (λ (all : List Step). all ++ Take c.in-Ok.job.ticket ∷ []) c.reserve.ensures.items)))
    (subst (λ (h : History). IsTake h (with_step h (Take c.in-Ok.job.ticket)) c.in-Ok.job) c.self.view_is (is-take (record { batches = (arc_value c.self.inside.plan).batches; steps = c.self.inside.steps.items }) c.self.inside.txs c.self.inside.named c.self.inside.slots c.refresh.new.self (vec_capacity c.self.inside.steps) is c.in-Some.k c.in-Some.ensures.taken.1 (record { queue = c.take.new.self; ends = c.self.inside.slots.ends; hits = c.self.inside.slots.hits; kept = c.self.inside.slots.kept; verdicts = c.self.inside.slots.verdicts; running = c.self.inside.slots.running }) c.in-Some.ensures.taken.0 refl c.in-Ok.job c.in-Ok.view (shown_at c.self.inside.steps.items (record { queue = c.take.new.self; ends = c.self.inside.slots.ends; hits = c.self.inside.slots.hits; kept = c.self.inside.slots.kept; verdicts = c.self.inside.slots.verdicts; running = c.self.inside.slots.running })) job shown))

on_err : {T E : Type 0} (r : Result T E) (P : Type 0) → P → OnErr r P
on_err (Ok x) P p = tt
on_err (Err e) P p = p

pub invariant_of-self : goal.invariant_of-self
invariant_of-self c =
    kept-on _ c.self.inside.txs c.self.inside.named c.self.inside.slots c.self.inside.lasts c.self.inside.lasts (vec_capacity c.self.inside.steps) (vec_capacity c.reserve.new.self)
    c.self.inside.slots.queue c.reserve.new.self.items c.self.invariant c.self.invariant.lasts_are refl
    (let more = c.reserve.ensures.capacity in let room = c.self.invariant.room in omega (arith, more, room)) refl c.reserve.ensures.items

pub returns-in_err-reserve-clause-err : goal.returns-in_err-reserve-clause-err
returns-in_err-reserve-clause-err c = on_err c.from_residual.result _
    (ap (λ (steps : List Step). record { batches = (arc_value c.self.inside.plan).batches; steps = steps }) c.reserve.ensures.items ∙ c.self.view_is)

pub absorb-requires-clause-long : goal.absorb-requires-clause-long
absorb-requires-clause-long c = c.self.invariant.slots_are.kept_long

pub absorb-requires-clause-so : goal.absorb-requires-clause-so
absorb-requires-clause-so c =
    subst (λ (all : List Step). AreLastsOf all c.self.inside.slots c.self.inside.lasts) (sym (c.deref.ensures.value ∙ c.reserve.ensures.items)) c.self.invariant.lasts_are

pub invariant_of-self-in_err-absorb : goal.invariant_of-self-in_err-absorb
invariant_of-self-in_err-absorb c =
    kept-on _ c.self.inside.txs c.self.inside.named c.self.inside.slots c.self.inside.lasts c.absorb.new.self (vec_capacity c.self.inside.steps) (vec_capacity c.reserve.new.self)
    c.self.inside.slots.queue c.reserve.new.self.items c.self.invariant
    (subst (λ (all : List Step). AreLastsOf all c.self.inside.slots c.absorb.new.self) (c.deref.ensures.value ∙ c.reserve.ensures.items) c.absorb.ensures.so)
    c.absorb.ensures.wide
    (let more = c.reserve.ensures.capacity in let room = c.self.invariant.room in omega (arith, more, room)) refl c.reserve.ensures.items

pub returns-in_err-absorb-clause-err : goal.returns-in_err-absorb-clause-err
returns-in_err-absorb-clause-err c = on_err c.from_residual-in_err-absorb.result _
    (ap (λ (steps : List Step). record { batches = (arc_value c.self.inside.plan).batches; steps = steps }) c.reserve.ensures.items ∙ c.self.view_is)

pub refresh-requires-clause-long : goal.refresh-requires-clause-long
refresh-requires-clause-long c = c.self.invariant.slots_are.kept_long

pub refresh-requires-clause-so : goal.refresh-requires-clause-so
refresh-requires-clause-so c =
    subst (λ (all : List Step). AreLastsOf all c.self.inside.slots c.absorb.new.self) (c.deref.ensures.value ∙ sym c.deref-2.ensures.value) c.absorb.ensures.so

pub invariant_of-self-in_err-refresh : goal.invariant_of-self-in_err-refresh
invariant_of-self-in_err-refresh c =
    kept-on _ c.self.inside.txs c.self.inside.named c.self.inside.slots c.self.inside.lasts c.refresh.new.self (vec_capacity c.self.inside.steps) (vec_capacity c.reserve.new.self)
    c.self.inside.slots.queue c.reserve.new.self.items c.self.invariant
    (subst (λ (all : List Step). AreLastsOf all c.self.inside.slots c.refresh.new.self) (c.deref-2.ensures.value ∙ c.reserve.ensures.items) c.refresh.ensures.so)
    (c.refresh.ensures.stays.1 ∙ c.absorb.ensures.wide)
    (let more = c.reserve.ensures.capacity in let room = c.self.invariant.room in omega (arith, more, room)) refl c.reserve.ensures.items

pub returns-in_err-refresh-clause-err : goal.returns-in_err-refresh-clause-err
returns-in_err-refresh-clause-err c = on_err c.from_residual-in_err-refresh.result _
    (ap (λ (steps : List Step). record { batches = (arc_value c.self.inside.plan).batches; steps = steps }) c.reserve.ensures.items ∙ c.self.view_is)

pub returns-in_default-clause-err : goal.returns-in_default-clause-err
returns-in_default-clause-err c = tt

pub job_of-found-requires-clause-long : goal.job_of-found-requires-clause-long
job_of-found-requires-clause-long c =
    c.self.invariant.slots_are.kept_long ∙ sym (ap (λ (q : Waits). length q.marks) c.in-Some.ensures.taken.0 ∙ length-set c.self.inside.slots.queue.marks c.in-Some.k marks.Running)

pub job_of-found-requires-clause-inside : goal.job_of-found-requires-clause-inside
job_of-found-requires-clause-inside c =
    subst (λ (n : ℕ). c.in-Some.k < n)
    (sym (ap (λ (q : Waits). length q.marks) c.in-Some.ensures.taken.0 ∙ length-set c.self.inside.slots.queue.marks c.in-Some.k marks.Running)) c.in-Some.ensures.taken.1.inside

pub job_of-found-requires-clause-few : goal.job_of-found-requires-clause-few
job_of-found-requires-clause-few c =
    let inside = c.in-Some.ensures.taken.1.inside in
    let few = c.self.invariant.slots_are.few in
    omega (arith, inside, few)

pub back-requires-clause-inside : goal.back-requires-clause-inside
back-requires-clause-inside c =
    subst (λ (n : ℕ). c.in-Some.k < n)
    (sym (ap (λ (q : Waits). length q.marks) c.in-Some.ensures.taken.0 ∙ length-set c.self.inside.slots.queue.marks c.in-Some.k marks.Running)) c.in-Some.ensures.taken.1.inside

pub returns-in_default-found-clause-ok : goal.returns-in_default-found-clause-ok
returns-in_default-found-clause-ok c = tt

pub returns-in_default-found-clause-err : goal.returns-in_default-found-clause-err
returns-in_default-found-clause-err c =
    ap (λ (steps : List Step). record { batches = (arc_value c.self.inside.plan).batches; steps = steps }) c.reserve.ensures.items ∙ c.self.view_is

pub keep_job-requires-clause-inside : goal.keep_job-requires-clause-inside
keep_job-requires-clause-inside c =
    let inside = c.in-Some.ensures.taken.1.inside in
    let long = c.self.invariant.slots_are.kept_long in
    omega (arith, inside, long)

pub overflow_add-self : goal.overflow_add-self
overflow_add-self c =
    let few = c.self.invariant.few in
    let long = c.self.inside.steps.ok.0 in
    let small = c.self.inside.steps.small in
    omega (arith, few, long, small)

pub add_step-requires : goal.add_step-requires
add_step-requires c =
    let more = c.in_ok-reserve.ensures.ok in
    let was = c.self.inside.steps.ok.0 in
    let now = c.reserve.new.self.ok.0 in
    let items = ap (λ (all : List Step). length all) c.reserve.ensures.items in
    omega (arith, more, was, now, items)

pub returns-clause-err : goal.returns-clause-err
returns-clause-err c = tt

pub job_of-found-requires-clause-so : goal.job_of-found-requires-clause-so
job_of-found-requires-clause-so c =
    let lefts = (subst (λ (all : List Step). AreLastsOf all c.self.inside.slots c.refresh.new.self) (c.deref-2.ensures.value ∙ c.reserve.ensures.items) c.in_ok-refresh.ensures.so) in
    subst (λ (all : List Step). AreLastsOf all (record { queue = c.take.new.self; ends = c.self.inside.slots.ends; hits = c.self.inside.slots.hits; kept = c.self.inside.slots.kept; verdicts = c.self.inside.slots.verdicts; running = c.self.inside.slots.running }) c.refresh.new.self) (sym (c.deref-3.ensures.value ∙ c.reserve.ensures.items))
    (lefts-taken (record { batches = (arc_value c.self.inside.plan).batches; steps = c.self.inside.steps.items }) c.self.inside.txs c.self.inside.named c.self.inside.slots (record { queue = c.take.new.self; ends = c.self.inside.slots.ends; hits = c.self.inside.slots.hits; kept = c.self.inside.slots.kept; verdicts = c.self.inside.slots.verdicts; running = c.self.inside.slots.running }) c.self.inside.lasts c.refresh.new.self (vec_capacity c.self.inside.steps) c.in-Some.k c.self.invariant lefts c.in_ok-refresh.ensures.ok c.in-Some.ensures.taken.1 c.in-Some.ensures.taken.0 refl)

pub job_of-found-requires-clause-all : goal.job_of-found-requires-clause-all
job_of-found-requires-clause-all c =
    c.refresh.ensures.stays.0 ∙ (c.in_ok-absorb.ensures.ok ∙ ap (λ (all : List Step). length all) (c.deref.ensures.value ∙ sym c.deref-3.ensures.value))

pub job_of-found-requires-clause-none : goal.job_of-found-requires-clause-none
job_of-found-requires-clause-none c = c.in_ok-refresh.ensures.ok

pub job_of-found-requires-clause-whole : goal.job_of-found-requires-clause-whole
job_of-found-requires-clause-whole c = λ narrow.
    subst (λ (xs : List (Arc Tx Global)). do_read_whole xs ≡ true) (sym c.as_slice.ensures) (c.self.invariant.whole (sym (c.refresh.ensures.stays.1 ∙ c.absorb.ensures.wide) ∙ narrow))

pub job_of-found-requires-clause-first : goal.job_of-found-requires-clause-first
job_of-found-requires-clause-first c = λ first tx there at covers.
    let lefts = (subst (λ (all : List Step). AreLastsOf all c.self.inside.slots c.refresh.new.self) (c.deref-2.ensures.value ∙ c.reserve.ensures.items) c.in_ok-refresh.ensures.so) in
    let shown = shown-taken (record { batches = (arc_value c.self.inside.plan).batches; steps = c.self.inside.steps.items }) c.self.inside.txs c.self.inside.named c.self.inside.slots (record { queue = c.take.new.self; ends = c.self.inside.slots.ends; hits = c.self.inside.slots.hits; kept = c.self.inside.slots.kept; verdicts = c.self.inside.slots.verdicts; running = c.self.inside.slots.running }) c.self.inside.lasts c.refresh.new.self (vec_capacity c.self.inside.steps) c.in-Some.k c.self.invariant lefts c.in_ok-refresh.ensures.ok c.in-Some.ensures.taken.1 c.in-Some.ensures.taken.0 refl in
    ap (λ (all : List Step). shown_at all (record { queue = c.take.new.self; ends = c.self.inside.slots.ends; hits = c.self.inside.slots.hits; kept = c.self.inside.slots.kept; verdicts = c.self.inside.slots.verdicts; running = c.self.inside.slots.running }) at) (c.deref-3.ensures.value ∙ c.reserve.ensures.items)
    ∙ (shown at ∙ first-reads (record { batches = (arc_value c.self.inside.plan).batches; steps = c.self.inside.steps.items }) c.self.inside.txs c.self.inside.named c.self.inside.slots c.self.inside.lasts (vec_capacity c.self.inside.steps) c.self.invariant c.in-Some.k c.in-Some.ensures.taken.1
    (ap (λ (q : Waits). nat_lt (begin q.preds c.in-Some.k) (finish q.preds c.in-Some.k)) (sym c.in-Some.ensures.taken.0) ∙ first) tx (subst (λ (xs : List (Arc Tx Global)). slice_get xs c.in-Some.k ≡ Some tx) c.as_slice.ensures there) at covers)
