-- Each call keeps that what is stored is true.
use Rattle.std.proofs.Common.{List, [], ◌∷◌, ◌++◌, Option, Some, None}
use Rattle.std.specs.List.{AllByRecursion}
use Rattle.saw_address.specs.Maps.{StateMap}
use Rattle.saw_messages.specs.TxShapes.{TxShape}
use Rattle.saw_context.specs.Outcome.{Processors}
use Rattle.saw_context.specs.SoundResults.{IsSoundDone}
use Rattle.saw_context.specs.declared.job.Done.{Done}
use Rattle.saw_context.specs.declared.job.Job.{Job}
use Rattle.saw_context.specs.declared.job.Ticket.{Ticket}
use Rattle.saw_machine.specs.Machine.{State, next}
use Rattle.saw_schedule.specs.Histories.{Finishes, GivesBack, History, Takes, move_of}
use Rattle.saw_schedule.specs.Laws.{AreTrueSteps, IsTrueStep}
use Rattle.saw_schedule.specs.Orders.{order_of}
use Rattle.saw_schedule.specs.declared.ended.Finished.{Finished}
use Rattle.saw_schedule.specs.declared.ended.Finished.TheVariants as ends
use Rattle.saw_schedule.specs.declared.ended.Given.{Given}
use Rattle.saw_schedule.specs.declared.ended.Given.TheVariants as gifts
use Rattle.saw_schedule.specs.declared.step.Step.{Step}
use Rattle.saw_schedule.specs.declared.step.Step.TheVariants.{Take, Finish, GiveBack}
use Rattle.saw_crew.specs.Stored.{AllOfBase, AllSound, IsOfBaseStep, IsSoundStep}

pub all-more : {A : Type 0} (P : A → Type 0) (xs : List A) (x : A) → AllByRecursion P xs → P x → AllByRecursion P (xs ++ x ∷ [])
all-more P [] x all one = (one, tt)
all-more P (y ∷ xs) x all one = (all.0, all-more P xs x all.1 one)

module _ (processors : Processors) (old new : History) (sound : AllSound processors old.steps) where
  pub take-sound : (job : Option Job) → Takes old new job → AllSound processors new.steps
  take-sound None takes = rw takes.same sound
  take-sound (Some job) takes = rw takes.step (all-more (IsSoundStep processors) old.steps (Take job.ticket) sound tt)

  pub given-sound : (ticket : Ticket) (given : Given) → GivesBack old new ticket given → AllSound processors new.steps
  given-sound ticket gifts.Back gives = rw gives.0 (all-more (IsSoundStep processors) old.steps (GiveBack ticket) sound tt)
  given-sound ticket gifts.Stale gives = rw gives.0 sound

  pub finish-sound : (done : Done) (fin : Finished) → Finishes old new done fin → IsSoundDone processors done → AllSound processors new.steps
  finish-sound done ends.Accepted finishes one = rw finishes.0 (all-more (IsSoundStep processors) old.steps (Finish done) sound one)
  finish-sound done ends.Stale finishes one = rw finishes.0 sound
  finish-sound done (ends.Foreign difference) finishes one = rw finishes.0 (all-more (IsSoundStep processors) old.steps (Finish done) sound one)

-- true results over the base make true steps
pub stored-true : (processors : Processors) (m : StateMap) (txs : List TxShape) (st : State) (steps : List Step) → AllSound processors steps → AllOfBase m steps
    → AreTrueSteps processors m txs st steps
stored-true processors m txs st [] sound base = tt
stored-true processors m txs st (step ∷ steps) sound base =
    (one step sound.0 base.0, stored-true processors m txs (next (order_of txs) st (move_of txs st step)) steps sound.1 base.1)
  where
    one : (step : Step) → IsSoundStep processors step → IsOfBaseStep m step → IsTrueStep processors m txs st step
    one (Take ticket) s b = tt
    one (Finish done) s b = λ agrees. (s, b)
    one (GiveBack ticket) s b = tt
