use Rattle.std.proofs.Common.{◌≡◌, ◌<◌, ℕ, Some, slice_get}
use Rattle.saw_context.specs.declared.job.Ticket.{Ticket}
use Rattle.saw_schedule.specs.Histories.{RunsIn, state_of}
use Rattle.saw_schedule.specs.declared.step.Step.TheVariants.{Take}
use Rattle.saw_crew.specs.Stored.{Gave}
use Rattle.saw_crew.proofs.ending.give_all_back.Given as goal

-- the tickets of the steps so far have ended
abbrev pub invariant-loop-k : goal.invariant-loop-k
invariant-loop-k l = record {
  gave : Gave l.fn.schedule l.schedule;
  ended : (k : ℕ) (ticket : Ticket) → k < l.k → slice_get l.fn.schedule.steps k ≡ Some (Take ticket) → RunsIn (state_of l.schedule) ticket → ⊥;
}
