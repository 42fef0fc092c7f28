use Rattle.std.proofs.Common.{◌≡◌, ◌-◌, ℕ, List, length}
use Rattle.saw_machine.specs.Machine.{State}
use Rattle.saw_machine.specs.Orders.{Order}
use Rattle.saw_schedule.specs.Inside.{AreSlotsOf}
use Rattle.saw_schedule.specs.Settling.{GoesOnFrom, HaveState, IsOpen, LeavesUndone}
use Rattle.saw_schedule.proofs.slots.settle.Given as goal

abbrev pub invariant-loop : goal.invariant-loop
invariant-loop l =
    HaveState l.steps l.slots
    × ((order : Order) (sizes : List ℕ) (st : State) → IsOpen st → AreSlotsOf order sizes st l.steps l.fn.slots → GoesOnFrom order sizes st l.steps l.slots)
    × ((l.slots.kept ≡ l.fn.slots.kept) × (l.slots.running ≡ l.fn.slots.running))
    × LeavesUndone l.fn.slots.queue.marks l.slots.queue.marks l.fn.undone l.undone × (length l.slots.queue.marks ≡ length l.fn.slots.queue.marks)

abbrev pub decreases-loop : goal.decreases-loop
decreases-loop l = length l.slots.ends.items - length l.slots.verdicts.items
