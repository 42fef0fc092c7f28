use Rattle.std.proofs.Common.{◌≡◌, ℕ, List, map}
use Rattle.saw_machine.specs.Machine.{State}
use Rattle.saw_machine.specs.Orders.{Order}
use Rattle.saw_schedule.specs.Inside.{AreSlotsOf, outcome_in}
use Rattle.saw_schedule.specs.declared.step.Step.{Step}
use Rattle.saw_schedule.proofs.Gatherings.{AreGathered}
use Rattle.saw_schedule.proofs.gathering.results_of.Given as goal

abbrev pub invariant-loop-batch : goal.invariant-loop-batch
invariant-loop-batch l = (order : Order) (sizes : List ℕ) (st : State) (steps : List Step) → AreSlotsOf order sizes st steps l.slots
    → l.fn.outcomes.items ≡ map outcome_in steps → AreGathered st steps l.slots l.outcomes.items l.batches l.from l.batch
