use Rattle.std.proofs.Common.{◌≡◌, ◌<◌, ◌^◌, length, Some, slice_get, refl, sym, arith}
use Rattle.saw_schedule.specs.Lasts.{changes_at}
use Rattle.saw_schedule.proofs.Absorbing.{inside, next-through, same-lefts, smaller, step-over}
use Rattle.saw_schedule.proofs.lasts.Lasts.absorb_step.Goals as goal

pub returns-in_err-hold-clause-so : goal.returns-in_err-hold-clause-so
returns-in_err-hold-clause-so c =
    same-lefts c.args.steps.now c.args.slots.now c.loop-change.self c.hold.new.self c.loop-change.invariant.0 c.in_err-hold.ensures.err c.in_err-hold.ensures.same c.hold.ensures.undone c.hold.ensures.wide
    c.hold.ensures.stays.0 c.hold.ensures.stays.1

pub overflow_add-self : goal.overflow_add-self
overflow_add-self c = let few : c.loop-change.self.change < 2 ^ 63 = c.in-Some.ensures.few refl in rw c.hold.ensures.stays.1 (omega (arith, few))

pub loop-change-smaller : goal.loop-change-smaller
loop-change-smaller c =
    let there : slice_get (changes_at c.args.steps.now c.loop-change.self.place) c.loop-change.self.change ≡ Some c.in-Some.change.now = sym c.in-Some.ensures.change in
    let more : c.loop-change.self.change < length (changes_at c.args.steps.now c.loop-change.self.place) =
    inside c.args.steps.now c.args.slots.now c.loop-change.self c.in-Some.change.now c.loop-change.invariant.0 there in
    smaller (λ place. length (changes_at c.args.steps.now place)) _ _ _ _ c.hold.ensures.stays.0 c.hold.ensures.stays.1 more

pub loop-change-preserved : goal.loop-change-preserved
loop-change-preserved c =
    let there : slice_get (changes_at c.args.steps.now c.loop-change.self.place) c.loop-change.self.change ≡ Some c.in-Some.change.now = sym c.in-Some.ensures.change in
    rw (c.hold.ensures.stays.0, c.hold.ensures.stays.1, c.hold.ensures.wide)
    (next-through c.args.steps.now c.args.slots.now c.loop-change.self c.hold.new.self c.in-Some.change.now c.loop-change.invariant.0 there c.in_ok-hold.ensures.ok c.hold.ensures.undone, c.loop-change.invariant.1)

pub returns-clause-so : goal.returns-clause-so
returns-clause-so c =
    step-over c.args.steps.now c.args.slots.now c.loop-change.self c.loop-change.invariant.0 (rw c.loop-change.invariant.1.0 c.requires.inside) (sym c.in_default.ensures.change)
