-- A schedule that one worker takes from, runs and finishes, one job after another.
use Rattle.std.specs.Prelude.{◌≡◌, List}
use Rattle.saw_address.specs.Maps.{StateMap}
use Rattle.saw_messages.specs.TxShapes.{TxShape}
use Rattle.saw_context.specs.Outcome.{Processors}
use Rattle.saw_machine.specs.Laws.{IsQuiet}
use Rattle.saw_plan.specs.BatchShapes.{txs_of}
use Rattle.saw_schedule.specs.Histories.{History, IsReplay, start_of, state_of, txs_in}
use Rattle.saw_schedule.specs.Laws.{AreTrueSteps}

-- between two jobs: it is of a plan with these transactions, its results were true over the map, and nothing runs
pub record IsAlone (processors : Processors) (m : StateMap) (batches : List (List TxShape)) (h : History) : Type 0 where
  pub plan : txs_of h.batches ≡ batches
  pub replay : IsReplay h
  pub true_steps : AreTrueSteps processors m (txs_in h) (start_of h) h.steps
  pub quiet : IsQuiet (state_of h)
