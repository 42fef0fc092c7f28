use Rattle.std.proofs.Common.{◌∙◌}
use Rattle.saw_schedule.specs.Histories.{begun, order_in, sizes_in}
use Rattle.saw_schedule.proofs.Beginning.{begins, begun-idle, begun-open, begun-slots, begun-state, long-marks}
use Rattle.saw_schedule.proofs.schedule.begin.Goals as goal

pub settle-requires-clause-state : goal.settle-requires-clause-state
settle-requires-clause-state c =
    begun-state (order_in (begun c.args.plan.now)) (sizes_in (begun c.args.plan.now)) c.in_ok-slots.slots.queue.preds c.in_ok-slots.slots
    (begins c.args.plan.now c.args.txs.now c.requires.few c.requires.are c.requires.count c.as_slice.result.now c.in_ok-slots.slots c.as_slice.ensures c.in_ok-slots.ensures)

pub settle-requires-clause-long : goal.settle-requires-clause-long
settle-requires-clause-long c =
    c.requires.long ∙ long-marks c.args.plan.now c.args.txs.now c.requires.few c.requires.are c.requires.count c.as_slice.result.now c.in_ok-slots.slots c.as_slice.ensures c.in_ok-slots.ensures

pub returns-clause-undone : goal.returns-clause-undone
returns-clause-undone c =
    begun-idle c.in_ok-slots.slots.queue.marks c.settle.new.slots.queue.marks c.args.undone.now c.settle.new.undone c.settle.ensures.undone c.settle.ensures.marks
    (c.requires.long ∙ long-marks c.args.plan.now c.args.txs.now c.requires.few c.requires.are c.requires.count c.as_slice.result.now c.in_ok-slots.slots c.as_slice.ensures c.in_ok-slots.ensures) c.requires.empty

pub returns-clause-slots : goal.returns-clause-slots
returns-clause-slots c =
    let b = begins c.args.plan.now c.args.txs.now c.requires.few c.requires.are c.requires.count c.as_slice.result.now c.in_ok-slots.slots c.as_slice.ensures c.in_ok-slots.ensures in
    c.settle.ensures.settled (order_in (begun c.args.plan.now)) (sizes_in (begun c.args.plan.now)) _ (begun-open _ _ _ _ b) (begun-slots _ _ _ _ b)
