-- What a run comes to.
use Rattle.std.specs.Prelude.{◌≡◌, Bool, true, [], Option, Some, None}
use Rattle.std.specs.Arc.{arc_value}
use Rattle.std.specs.List.{AllByRecursion}
use Rattle.saw_address.specs.Maps.{StateMap}
use Rattle.saw_messages.specs.declared.outcome.Outcome.TheVariants as outcomes
use Rattle.saw_messages.specs.declared.outcome.Reason.{Reason}
use Rattle.saw_messages.specs.declared.outcome.Reason.TheVariants.{NoProcessor, DependencyFailed}
use Rattle.saw_context.specs.Outcome.{Processors, outcome_at}
use Rattle.saw_context.specs.SoundResults.{Agrees, IsOfBase, IsSoundDone}
use Rattle.saw_context.specs.declared.job.Done.{Done}
use Rattle.saw_context.specs.declared.job.Job.{Job}
use Rattle.saw_station.specs.declared.conversation.Spoken.{Spoken}
use Rattle.saw_station.specs.declared.serving.Served.{Served}

-- why a job is refused where all that is declared are prefixes: nobody serves it, or a dependency failed
abbrev pub IsUnserved : Option Served → Bool → Reason → Type 0
IsUnserved None failed reason = reason ≡ NoProcessor
IsUnserved (Some by) failed reason = (reason ≡ DependencyFailed) × (failed ≡ true)

-- the job's transaction under its ticket, with no conversation
pub record IsRefusal (job : Job) (reason : Reason) (done : Done) : Type 0 where
  pub ticket : done.ticket ≡ job.ticket
  pub tx : arc_value done.tx ≡ arc_value job.tx
  pub reads : done.reads ≡ []
  pub outcome : done.outcome ≡ outcomes.Invalid reason

-- the same with a conversation
pub record IsTalk (job : Job) (spoken : Spoken) (done : Done) : Type 0 where
  pub ticket : done.ticket ≡ job.ticket
  pub tx : arc_value done.tx ≡ arc_value job.tx
  pub reads : done.reads ≡ spoken.done.reads
  pub outcome : done.outcome ≡ outcome_at spoken.last spoken.done.changes spoken.done.events

-- a true result of the job over the base
pub record IsResult (processors : Processors) (base : StateMap) (job : Job) (done : Done) : Type 0 where
  pub ticket : done.ticket ≡ job.ticket
  pub sound : IsSoundDone processors done
  pub agrees : Agrees job done
  pub of_base : AllByRecursion (IsOfBase base) done.reads
