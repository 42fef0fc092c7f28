use Rattle.std.proofs.Common.{◌≡◌, ◌+◌, List, [], ◌∷◌, ◌++◌, length, refl, sym, ap, subst, ◌∙◌, arith, true≢false}
use Rattle.std.proofs.lemmas.List.{length_push}
use Rattle.saw_ready.specs.Queues.{Waits, with_first}
use Rattle.saw_ready.specs.Resets.{IsFailed}
use Rattle.saw_schedule.specs.declared.verdict.Verdict.{Verdict}
use Rattle.saw_schedule.specs.declared.verdict.Verdict.TheVariants.{Failed}
use Rattle.saw_schedule.proofs.SettlingRounds.{at-place, some-inj, some-state, broken-code, kept-stands, none≢some, broken-held, ends-late, fewer, high, low, no-fewer, none-left, open-code, reason-at, room-for, valid-code, whole-code}
use Rattle.saw_schedule.specs.Settling.{LeavesUndone}
use Rattle.saw_schedule.proofs.Undoing.{leaves-failed, leaves-same}
use Rattle.saw_schedule.proofs.slots.settle_next.Goals as goal

pub returns-then-batch-len-clause-over : goal.returns-then-batch-len-clause-over
returns-then-batch-len-clause-over c = λ e order sizes st open_ are.
    (none-left order sizes st c.args.steps.now c.args.slots.now open_ are (no-fewer c.args.slots.now c.len-batch.result c.len.result c.len-batch.ensures c.len.ensures c.if-batch-len.true), are)

pub overflow_sub-end : goal.overflow_sub-end
overflow_sub-end c = rw c.first-first.ensures (low c.requires.state.order c.requires.state.sizes c.requires.state.state c.args.steps.now c.args.slots.now c.requires.state.open_ c.requires.state.are (fewer c.args.slots.now c.len-batch.result c.len.result c.len-batch.ensures c.len.ensures c.if-batch-len.false) c.index-end.result.now (at-place c.args.slots.now c.len-batch.result c.index-end.result.now c.len-batch.ensures c.index-end.ensures))

pub front-requires : goal.front-requires
front-requires c =
    let a = low c.requires.state.order c.requires.state.sizes c.requires.state.state c.args.steps.now c.args.slots.now c.requires.state.open_ c.requires.state.are (fewer c.args.slots.now c.len-batch.result c.len.result c.len-batch.ensures c.len.ensures c.if-batch-len.false) c.index-end.result.now (at-place c.args.slots.now c.len-batch.result c.index-end.result.now c.len-batch.ensures c.index-end.ensures) in
    let b = high c.requires.state.order c.requires.state.sizes c.requires.state.state c.args.steps.now c.args.slots.now c.requires.state.open_ c.requires.state.are (fewer c.args.slots.now c.len-batch.result c.len.result c.len-batch.ensures c.len.ensures c.if-batch-len.false) c.index-end.result.now (at-place c.args.slots.now c.len-batch.result c.index-end.result.now c.len-batch.ensures c.index-end.ensures) in
    let e = c.first-first.ensures in
    omega (arith, a, b, e)

pub apply-requires-clause-within : goal.apply-requires-clause-within
apply-requires-clause-within c = rw c.front.ensures.same (low c.requires.state.order c.requires.state.sizes c.requires.state.state c.args.steps.now c.args.slots.now c.requires.state.open_ c.requires.state.are (fewer c.args.slots.now c.len-batch.result c.len.result c.len-batch.ensures c.len.ensures c.if-batch-len.false) c.index-end.result.now (at-place c.args.slots.now c.len-batch.result c.index-end.result.now c.len-batch.ensures c.index-end.ensures), high c.requires.state.order c.requires.state.sizes c.requires.state.state c.args.steps.now c.args.slots.now c.requires.state.open_ c.requires.state.are (fewer c.args.slots.now c.len-batch.result c.len.result c.len-batch.ensures c.len.ensures c.if-batch-len.false) c.index-end.result.now (at-place c.args.slots.now c.len-batch.result c.index-end.result.now c.len-batch.ensures c.index-end.ensures))

pub fail-requires-clause-within : goal.fail-requires-clause-within
fail-requires-clause-within c = rw c.front.ensures.same (low c.requires.state.order c.requires.state.sizes c.requires.state.state c.args.steps.now c.args.slots.now c.requires.state.open_ c.requires.state.are (fewer c.args.slots.now c.len-batch.result c.len.result c.len-batch.ensures c.len.ensures c.if-batch-len.false) c.index-end.result.now (at-place c.args.slots.now c.len-batch.result c.index-end.result.now c.len-batch.ensures c.index-end.ensures), high c.requires.state.order c.requires.state.sizes c.requires.state.state c.args.steps.now c.args.slots.now c.requires.state.open_ c.requires.state.are (fewer c.args.slots.now c.len-batch.result c.len.result c.len-batch.ensures c.len.ensures c.if-batch-len.false) c.index-end.result.now (at-place c.args.slots.now c.len-batch.result c.index-end.result.now c.len-batch.ensures c.index-end.ensures))

pub add_verdict-requires : goal.add_verdict-requires
add_verdict-requires c = room-for c.args.steps.now c.args.slots.now c.requires.state (fewer c.args.slots.now c.len-batch.result c.len.result c.len-batch.ensures c.len.ensures c.if-batch-len.false)

pub add_verdict-requires-in-Broken : goal.add_verdict-requires-in-Broken
add_verdict-requires-in-Broken c = room-for c.args.steps.now c.args.slots.now c.requires.state (fewer c.args.slots.now c.len-batch.result c.len.result c.len-batch.ensures c.len.ensures c.if-batch-len.false)

pub returns-in-Open-clause-over : goal.returns-in-Open-clause-over
returns-in-Open-clause-over c = λ e order sizes st open_ are.
    (open-code order sizes st c.args.steps.now c.args.slots.now open_ are (fewer c.args.slots.now c.len-batch.result c.len.result c.len-batch.ensures c.len.ensures c.if-batch-len.false) c.index-end.result.now (at-place c.args.slots.now c.len-batch.result c.index-end.result.now c.len-batch.ensures c.index-end.ensures) c.first-first.result c.first-first.ensures c.in-Open.ensures.front, rw c.front.ensures.same are)

pub apply-requires-clause-valid : goal.apply-requires-clause-valid
apply-requires-clause-valid c = rw c.front.ensures.same (valid-code c.requires.state.order c.requires.state.sizes c.requires.state.state c.args.steps.now c.args.slots.now c.requires.state.open_ c.requires.state.are (fewer c.args.slots.now c.len-batch.result c.len.result c.len-batch.ensures c.len.ensures c.if-batch-len.false) c.index-end.result.now (at-place c.args.slots.now c.len-batch.result c.index-end.result.now c.len-batch.ensures c.index-end.ensures) c.first-first.result c.first-first.ensures c.in-Whole.ensures.front)

pub fail-requires-clause-ends : goal.fail-requires-clause-ends
fail-requires-clause-ends c = rw c.front.ensures.same (ends-late c.requires.state.order c.requires.state.sizes c.requires.state.state c.args.steps.now c.args.slots.now c.requires.state.open_ c.requires.state.are (fewer c.args.slots.now c.len-batch.result c.len.result c.len-batch.ensures c.len.ensures c.if-batch-len.false) c.index-end.result.now (at-place c.args.slots.now c.len-batch.result c.index-end.result.now c.len-batch.ensures c.index-end.ensures))

pub returns-in-Whole-clause-on : goal.returns-in-Whole-clause-on
returns-in-Whole-clause-on c = λ e order sizes st open_ are.
    whole-code order sizes st c.args.steps.now c.args.slots.now open_ are (fewer c.args.slots.now c.len-batch.result c.len.result c.len-batch.ensures c.len.ensures c.if-batch-len.false) c.index-end.result.now (at-place c.args.slots.now c.len-batch.result c.index-end.result.now c.len-batch.ensures c.index-end.ensures) c.first-first.result c.first-first.ensures _ c.in-Whole.ensures.front
    (c.apply.ensures ∙ ap (λ queue. with_first queue c.index-end.result.now) c.front.ensures.same) refl refl refl c.add_verdict.ensures.more c.add_verdict.ensures.room refl

pub returns-in-Whole-clause-state : goal.returns-in-Whole-clause-state
returns-in-Whole-clause-state c =
    some-state c.args.steps.now _ (returns-in-Whole-clause-on c refl c.requires.state.order c.requires.state.sizes c.requires.state.state c.requires.state.open_ c.requires.state.are)

pub returns-in_default-clause-over : goal.returns-in_default-clause-over
returns-in_default-clause-over c = λ e order sizes st open_ are.
    let told = c.reason_in.ensures (st.first + c.in-Broken.t) (broken-held order sizes st c.args.steps.now c.args.slots.now open_ are (fewer c.args.slots.now c.len-batch.result c.len.result c.len-batch.ensures c.len.ensures c.if-batch-len.false) c.index-end.result.now (at-place c.args.slots.now c.len-batch.result c.index-end.result.now c.len-batch.ensures c.index-end.ensures) c.first-first.result c.first-first.ensures c.in-Broken.t c.in-Broken.ensures.front).1 (reason-at order sizes st c.args.steps.now c.args.slots.now open_ are (fewer c.args.slots.now c.len-batch.result c.len.result c.len-batch.ensures c.len.ensures c.if-batch-len.false) c.index-end.result.now (at-place c.args.slots.now c.len-batch.result c.index-end.result.now c.len-batch.ensures c.index-end.ensures) c.first-first.result c.first-first.ensures c.in-Broken.t c.in-Broken.ensures.front c.index.result.now (kept-stands order sizes st c.args.steps.now c.args.slots.now open_ are (fewer c.args.slots.now c.len-batch.result c.len.result c.len-batch.ensures c.len.ensures c.if-batch-len.false) c.index-end.result.now (at-place c.args.slots.now c.len-batch.result c.index-end.result.now c.len-batch.ensures c.index-end.ensures) c.first-first.result c.first-first.ensures c.in-Broken.t c.in-Broken.ensures.front c.index.result.now c.index.ensures)) in
    absurd (none≢some (broken-held order sizes st c.args.steps.now c.args.slots.now open_ are (fewer c.args.slots.now c.len-batch.result c.len.result c.len-batch.ensures c.len.ensures c.if-batch-len.false) c.index-end.result.now (at-place c.args.slots.now c.len-batch.result c.index-end.result.now c.len-batch.ensures c.index-end.ensures) c.first-first.result c.first-first.ensures c.in-Broken.t c.in-Broken.ensures.front).1 (sym c.in_default.is ∙ told))

pub returns-in-Some-clause-on : goal.returns-in-Some-clause-on
returns-in-Some-clause-on c = λ e order sizes st open_ are.
    let told = c.reason_in.ensures (st.first + c.in-Broken.t) (broken-held order sizes st c.args.steps.now c.args.slots.now open_ are (fewer c.args.slots.now c.len-batch.result c.len.result c.len-batch.ensures c.len.ensures c.if-batch-len.false) c.index-end.result.now (at-place c.args.slots.now c.len-batch.result c.index-end.result.now c.len-batch.ensures c.index-end.ensures) c.first-first.result c.first-first.ensures c.in-Broken.t c.in-Broken.ensures.front).1 (reason-at order sizes st c.args.steps.now c.args.slots.now open_ are (fewer c.args.slots.now c.len-batch.result c.len.result c.len-batch.ensures c.len.ensures c.if-batch-len.false) c.index-end.result.now (at-place c.args.slots.now c.len-batch.result c.index-end.result.now c.len-batch.ensures c.index-end.ensures) c.first-first.result c.first-first.ensures c.in-Broken.t c.in-Broken.ensures.front c.index.result.now (kept-stands order sizes st c.args.steps.now c.args.slots.now open_ are (fewer c.args.slots.now c.len-batch.result c.len.result c.len-batch.ensures c.len.ensures c.if-batch-len.false) c.index-end.result.now (at-place c.args.slots.now c.len-batch.result c.index-end.result.now c.len-batch.ensures c.index-end.ensures) c.first-first.result c.first-first.ensures c.in-Broken.t c.in-Broken.ensures.front c.index.result.now c.index.ensures)) in
    let same : (broken-held order sizes st c.args.steps.now c.args.slots.now open_ are (fewer c.args.slots.now c.len-batch.result c.len.result c.len-batch.ensures c.len.ensures c.if-batch-len.false) c.index-end.result.now (at-place c.args.slots.now c.len-batch.result c.index-end.result.now c.len-batch.ensures c.index-end.ensures) c.first-first.result c.first-first.ensures c.in-Broken.t c.in-Broken.ensures.front).1 ≡ c.in-Some.reason = some-inj (sym told ∙ c.in-Some.is) in
    broken-code order sizes st c.args.steps.now c.args.slots.now open_ are (fewer c.args.slots.now c.len-batch.result c.len.result c.len-batch.ensures c.len.ensures c.if-batch-len.false) c.index-end.result.now (at-place c.args.slots.now c.len-batch.result c.index-end.result.now c.len-batch.ensures c.index-end.ensures) c.first-first.result c.first-first.ensures c.in-Broken.t c.in-Broken.ensures.front _
    (c.fail.ensures.same.0 ∙ ap (λ queue. queue.preds) c.front.ensures.same) (c.fail.ensures.same.1 ∙ ap (λ queue. queue.starts) c.front.ensures.same) c.fail.ensures.same.2
    (subst (λ (queue : Waits). IsFailed queue.preds queue.first c.index-end.result.now queue.marks c.fail.new.self.marks) c.front.ensures.same c.fail.ensures.failed)
    refl c.fail.ensures.hits c.fail.ensures.idle refl
    (c.add_verdict-in-Broken.ensures.more ∙ ap (λ reason. c.args.slots.now.verdicts.items ++ Failed c.in-Broken.t reason ∷ []) (sym same)) c.add_verdict-in-Broken.ensures.room refl

pub fail-requires-clause-undone : goal.fail-requires-clause-undone
fail-requires-clause-undone c = rw c.front.ensures.same c.requires.long

pub returns-in-Some-clause-undone : goal.returns-in-Some-clause-undone
returns-in-Some-clause-undone c =
    subst (λ (queue : Waits). LeavesUndone queue.marks c.fail.new.self.marks c.args.undone.now c.fail.new.undone) c.front.ensures.same
    (leaves-failed _ _ _ _ _ _ _ c.fail.ensures.failed c.fail.ensures.undone)

pub returns-in-Some-clause-state : goal.returns-in-Some-clause-state
returns-in-Some-clause-state c =
    some-state c.args.steps.now _ (returns-in-Some-clause-on c refl c.requires.state.order c.requires.state.sizes c.requires.state.state c.requires.state.open_ c.requires.state.are)

pub returns-then-batch-len-clause-on : goal.returns-then-batch-len-clause-on
returns-then-batch-len-clause-on c = λ e. absurd (true≢false (sym e))

pub returns-then-batch-len-clause-fewer : goal.returns-then-batch-len-clause-fewer
returns-then-batch-len-clause-fewer c = λ e. absurd (true≢false (sym e))

pub returns-then-batch-len-clause-within : goal.returns-then-batch-len-clause-within
returns-then-batch-len-clause-within c = λ e. absurd (true≢false (sym e))

pub returns-then-batch-len-clause-ends : goal.returns-then-batch-len-clause-ends
returns-then-batch-len-clause-ends c = refl

pub returns-then-batch-len-clause-stays : goal.returns-then-batch-len-clause-stays
returns-then-batch-len-clause-stays c = (refl, refl)

pub returns-then-batch-len-clause-state : goal.returns-then-batch-len-clause-state
returns-then-batch-len-clause-state c = c.requires.state

pub returns-then-batch-len-clause-undone : goal.returns-then-batch-len-clause-undone
returns-then-batch-len-clause-undone c = leaves-same c.args.slots.now.queue.marks c.args.undone.now

pub returns-then-batch-len-clause-marks : goal.returns-then-batch-len-clause-marks
returns-then-batch-len-clause-marks c = refl

pub returns-in-Open-clause-on : goal.returns-in-Open-clause-on
returns-in-Open-clause-on c = λ e. absurd (true≢false (sym e))

pub returns-in-Open-clause-fewer : goal.returns-in-Open-clause-fewer
returns-in-Open-clause-fewer c = λ e. absurd (true≢false (sym e))

pub returns-in-Open-clause-within : goal.returns-in-Open-clause-within
returns-in-Open-clause-within c = λ e. absurd (true≢false (sym e))

pub returns-in-Open-clause-ends : goal.returns-in-Open-clause-ends
returns-in-Open-clause-ends c = refl

pub returns-in-Open-clause-stays : goal.returns-in-Open-clause-stays
returns-in-Open-clause-stays c = (refl, refl)

pub returns-in-Open-clause-state : goal.returns-in-Open-clause-state
returns-in-Open-clause-state c = rw c.front.ensures.same c.requires.state

pub returns-in-Open-clause-undone : goal.returns-in-Open-clause-undone
returns-in-Open-clause-undone c = rw c.front.ensures.same (leaves-same c.args.slots.now.queue.marks c.args.undone.now)

pub returns-in-Open-clause-marks : goal.returns-in-Open-clause-marks
returns-in-Open-clause-marks c = ap (λ (queue : Waits). length queue.marks) c.front.ensures.same

pub returns-in_default-clause-on : goal.returns-in_default-clause-on
returns-in_default-clause-on c = λ e. absurd (true≢false (sym e))

pub returns-in_default-clause-fewer : goal.returns-in_default-clause-fewer
returns-in_default-clause-fewer c = λ e. absurd (true≢false (sym e))

pub returns-in_default-clause-within : goal.returns-in_default-clause-within
returns-in_default-clause-within c = λ e. absurd (true≢false (sym e))

pub returns-in_default-clause-ends : goal.returns-in_default-clause-ends
returns-in_default-clause-ends c = refl

pub returns-in_default-clause-stays : goal.returns-in_default-clause-stays
returns-in_default-clause-stays c = (refl, refl)

pub returns-in_default-clause-state : goal.returns-in_default-clause-state
returns-in_default-clause-state c = rw c.front.ensures.same c.requires.state

pub returns-in_default-clause-undone : goal.returns-in_default-clause-undone
returns-in_default-clause-undone c = rw c.front.ensures.same (leaves-same c.args.slots.now.queue.marks c.args.undone.now)

pub returns-in_default-clause-marks : goal.returns-in_default-clause-marks
returns-in_default-clause-marks c = ap (λ (queue : Waits). length queue.marks) c.front.ensures.same

pub returns-in-Whole-clause-over : goal.returns-in-Whole-clause-over
returns-in-Whole-clause-over c = λ e. absurd (true≢false e)

pub returns-in-Whole-clause-fewer : goal.returns-in-Whole-clause-fewer
returns-in-Whole-clause-fewer c = λ e. let long = ap (λ (all : List Verdict). length all) c.add_verdict.ensures.more ∙ length_push c.args.slots.now.verdicts.items _ in omega (arith, long)

pub returns-in-Whole-clause-within : goal.returns-in-Whole-clause-within
returns-in-Whole-clause-within c = λ e.
    let long = ap (λ (all : List Verdict). length all) c.add_verdict.ensures.more ∙ length_push c.args.slots.now.verdicts.items _ in
    let left = fewer c.args.slots.now c.len-batch.result c.len.result c.len-batch.ensures c.len.ensures c.if-batch-len.false in
    omega (arith, long, left)

pub returns-in-Whole-clause-ends : goal.returns-in-Whole-clause-ends
returns-in-Whole-clause-ends c = refl

pub returns-in-Whole-clause-stays : goal.returns-in-Whole-clause-stays
returns-in-Whole-clause-stays c = (refl, refl)

pub returns-in-Some-clause-over : goal.returns-in-Some-clause-over
returns-in-Some-clause-over c = λ e. absurd (true≢false e)

pub returns-in-Some-clause-fewer : goal.returns-in-Some-clause-fewer
returns-in-Some-clause-fewer c = λ e. let long = ap (λ (all : List Verdict). length all) c.add_verdict-in-Broken.ensures.more ∙ length_push c.args.slots.now.verdicts.items _ in omega (arith, long)

pub returns-in-Some-clause-within : goal.returns-in-Some-clause-within
returns-in-Some-clause-within c = λ e.
    let long = ap (λ (all : List Verdict). length all) c.add_verdict-in-Broken.ensures.more ∙ length_push c.args.slots.now.verdicts.items _ in
    let left = fewer c.args.slots.now c.len-batch.result c.len.result c.len-batch.ensures c.len.ensures c.if-batch-len.false in
    omega (arith, long, left)

pub returns-in-Some-clause-ends : goal.returns-in-Some-clause-ends
returns-in-Some-clause-ends c = refl

pub returns-in-Some-clause-stays : goal.returns-in-Some-clause-stays
returns-in-Some-clause-stays c = (refl, refl)

pub returns-in-Whole-clause-undone : goal.returns-in-Whole-clause-undone
returns-in-Whole-clause-undone c = rw (c.apply.ensures, c.front.ensures.same) (leaves-same c.args.slots.now.queue.marks c.args.undone.now)

pub returns-in-Whole-clause-marks : goal.returns-in-Whole-clause-marks
returns-in-Whole-clause-marks c = ap (λ (queue : Waits). length queue.marks) (c.apply.ensures ∙ ap (λ queue. with_first queue c.index-end.result.now) c.front.ensures.same)

pub fail-requires-clause-hits : goal.fail-requires-clause-hits
fail-requires-clause-hits c = rw c.front.ensures.same c.requires.state.are.hits_long

pub fail-requires-clause-idle : goal.fail-requires-clause-idle
fail-requires-clause-idle c = c.requires.state.are.idle
