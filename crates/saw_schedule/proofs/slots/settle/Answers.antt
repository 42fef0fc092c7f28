use Rattle.std.proofs.Common.{refl, sym, subst, ◌∙◌}
use Rattle.saw_machine.specs.Machine.{State}
use Rattle.saw_schedule.specs.Inside.{AreSlotsOf}
use Rattle.saw_schedule.proofs.Undoing.{leaves-both, leaves-same}
use Rattle.saw_schedule.proofs.slots.settle.Goals as goal

pub loop-preserved : goal.loop-preserved
loop-preserved c = (
  c.settle_next.ensures.state,
  λ order sizes st open_ are.
      let on = c.loop.invariant.1 order sizes st open_ are in
      let more = c.loop-test.ensures.on refl order sizes on.next on.open_ on.are in
      record { next = more.next; same = on.same ∙ more.same; open_ = more.open_; are = more.are },
  (c.settle_next.ensures.stays.0 ∙ c.loop.invariant.2.0, c.settle_next.ensures.stays.1 ∙ c.loop.invariant.2.1),
  leaves-both c.args.slots.now.queue.marks c.loop.slots.queue.marks c.settle_next.new.slots.queue.marks c.args.undone.now c.loop.undone c.settle_next.new.undone c.loop.invariant.3 c.settle_next.ensures.undone,
  c.settle_next.ensures.marks ∙ c.loop.invariant.4,
)

pub returns-clause-stays : goal.returns-clause-stays
returns-clause-stays c = (c.settle_next.ensures.stays.0 ∙ c.loop.invariant.2.0, c.settle_next.ensures.stays.1 ∙ c.loop.invariant.2.1)

pub settle_next-requires-clause-long : goal.settle_next-requires-clause-long
settle_next-requires-clause-long c = c.loop.invariant.3.noted.long ∙ (c.requires.long ∙ sym c.loop.invariant.4)

pub loop-init : goal.loop-init
loop-init c = (
  c.requires.state,
  λ order sizes st open_ are. record { next = st; same = refl; open_ = open_; are = are },
  (refl, refl),
  leaves-same c.args.slots.now.queue.marks c.args.undone.now,
  refl,
)

pub returns-clause-undone : goal.returns-clause-undone
returns-clause-undone c =
    leaves-both c.args.slots.now.queue.marks c.loop.slots.queue.marks c.settle_next.new.slots.queue.marks c.args.undone.now c.loop.undone c.settle_next.new.undone c.loop.invariant.3 c.settle_next.ensures.undone

pub returns-clause-marks : goal.returns-clause-marks
returns-clause-marks c = c.settle_next.ensures.marks ∙ c.loop.invariant.4

pub returns-clause-settled : goal.returns-clause-settled
returns-clause-settled c = λ order sizes st open_ are.
    let on = c.loop.invariant.1 order sizes st open_ are in
    let over = c.loop-test.ensures.over refl order sizes on.next on.open_ on.are in
    subst (λ (x : State). AreSlotsOf order sizes x c.args.steps.now c.settle_next.new.slots) (sym (on.same ∙ over.0)) over.1
