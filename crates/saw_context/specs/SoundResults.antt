-- Results of transactions with what they were told: which are true, and which agree with the job that they are of.
use Rattle.std.specs.Prelude.{◌≡◌, ◌⊎◌, ℕ, Bool, true, false, not, List, [], ◌∷◌, map, Option, Some, None, if◌then◌else◌}
use Rattle.std.specs.Arc.{arc_value}
use Rattle.std.specs.FinMap as finite
use Rattle.std.specs.List.{AllByRecursion}
use Rattle.saw_address.specs.Maps.{StateMap, no_entries, value_at}
use Rattle.saw_messages.specs.Reasons.{has_own_reason}
use Rattle.saw_messages.specs.TxShapes.{TxShape}
use Rattle.saw_messages.specs.declared.outcome.Outcome.{Outcome}
use Rattle.saw_messages.specs.declared.outcome.Outcome.TheVariants as outcomes
use Rattle.saw_messages.specs.declared.outcome.Reason.{Reason}
use Rattle.saw_messages.specs.declared.outcome.Reason.TheVariants.{BadDeclared, NoProcessor, DependencyFailed, TooManyRequests, Remote, Family}
use Rattle.saw_messages.specs.declared.talk.Action.{Action}
use Rattle.saw_messages.specs.declared.talk.Turn.{Turn}
use Rattle.saw_context.specs.Conversation.{Asked, body_of}
use Rattle.saw_context.specs.Outcome.{Processors, conversation, conversed, refusal}
use Rattle.saw_context.specs.Views.{Layers, layers_of}
use Rattle.saw_context.specs.declared.reads.Origin.{Origin}
use Rattle.saw_context.specs.declared.reads.Origin.TheVariants.{Own, Layer, Base}
use Rattle.saw_context.specs.declared.reads.Read.{Read}
use Rattle.saw_context.specs.declared.job.Job.{Job}
use Rattle.saw_context.specs.declared.job.Done.{Done}

-- ---- recorded reads

abbrev pub is_own : Origin → Bool
is_own Own = true
is_own (Layer index) = false
is_own Base = false

abbrev pub as_asked : Read → Asked
as_asked read = record { address = read.address; own = is_own read.from }

-- the recorded reads in place of the map: the first read of each address that is not of an own change
abbrev pub recorded : List Read → StateMap
recorded [] = no_entries
recorded (read ∷ reads) = if is_own read.from then recorded reads else finite.insert (recorded reads) read.address read.body

-- a read, unless it is of an own change, is what the map gives
abbrev pub IsOf : StateMap → Read → Type 0
IsOf m read = is_own read.from ≡ false → body_of (value_at m read.address) ≡ read.body

-- ---- what processors may answer

-- what answers for a transaction: a function of its turns which refuses by its own reasons, and which is that of the
-- processors where they tell it
pub record AnswersFor (processors : Processors) (tx : TxShape) (next : List Turn → Action) : Type 0 where
  pub reasons : (turns : List Turn) → has_own_reason (next turns) ≡ true
  pub told : processors.tells tx.header.family_name tx.header.family_version ≡ true → (turns : List Turn) → next turns ≡ processors.next tx turns

-- ---- true results

-- a result of a conversation: the whole conversation with some processor, with the recorded reads in place of the
-- map. There is one read for each place that was answered, and those of one address agree.
pub record IsConversed (processors : Processors) (tx : TxShape) (reads : List Read) (outcome : Outcome) : Type 0 where
  pub next : List Turn → Action
  pub answers : AnswersFor processors tx next
  pub decided : outcome ≡ conversed next tx.header (recorded reads)
  pub asked : map as_asked reads ≡ (conversation next tx.header (recorded reads)).asked
  pub alike : AllByRecursion (IsOf (recorded reads)) reads

-- a result without a conversation
pub record IsRefused (reads : List Read) (outcome : Outcome) (reason : Reason) : Type 0 where
  pub no_reads : reads ≡ []
  pub refused : outcome ≡ outcomes.Invalid reason

-- The reasons before any conversation stand exactly where they hold. That a dependency failed may stand in place of
-- the conversation.
abbrev pub IsSoundBy : Processors → TxShape → List Read → Outcome → Option Reason → Type 0
IsSoundBy processors tx reads outcome (Some reason) = IsRefused reads outcome reason
IsSoundBy processors tx reads outcome None = IsRefused reads outcome DependencyFailed ⊎ IsConversed processors tx reads outcome

abbrev pub IsSound : Processors → TxShape → List Read → Outcome → Type 0
IsSound processors tx reads outcome = IsSoundBy processors tx reads outcome (refusal processors tx)

-- ---- agreement

-- what a read tells is what the view gives: the entry with its number, or the base exactly where there is no entry
abbrev pub IsSeenAs : Layers → List ℕ → List ℕ → Origin → Type 0
IsSeenAs layers address body Own = Unit {0}
IsSeenAs layers address body (Layer index) = (value : Option (List ℕ)) × (finite.get layers address ≡ Some (record { index = index; value = value })) × (body_of value ≡ body)
IsSeenAs layers address body Base = finite.get layers address ≡ None

abbrev pub IsSeen : Layers → Read → Type 0
IsSeen layers read = IsSeenAs layers read.address read.body read.from

-- a read of the base is what the base has
abbrev pub IsOfBase : StateMap → Read → Type 0
IsOfBase m read = read.from ≡ Base → body_of (value_at m read.address) ≡ read.body

-- whether a reason comes before any conversation
abbrev pub is_early : Outcome → Bool
is_early (outcomes.Ok changes events) = false
is_early (outcomes.Invalid BadDeclared) = true
is_early (outcomes.Invalid NoProcessor) = true
is_early (outcomes.Invalid DependencyFailed) = true
is_early (outcomes.Invalid TooManyRequests) = false
is_early (outcomes.Invalid Remote) = false
is_early (outcomes.Invalid (Family number)) = false

abbrev pub is_of_dependency : Outcome → Bool
is_of_dependency (outcomes.Ok changes events) = false
is_of_dependency (outcomes.Invalid BadDeclared) = false
is_of_dependency (outcomes.Invalid NoProcessor) = false
is_of_dependency (outcomes.Invalid DependencyFailed) = true
is_of_dependency (outcomes.Invalid TooManyRequests) = false
is_of_dependency (outcomes.Invalid Remote) = false
is_of_dependency (outcomes.Invalid (Family number)) = false

-- where a dependency failed the reason comes before any conversation, else it is not that a dependency failed
abbrev pub fits_dependency : Bool → Outcome → Bool
fits_dependency failed outcome = if failed then is_early outcome else not (is_of_dependency outcome)

-- ---- the same of a result and its job

abbrev pub IsSoundDone : Processors → Done → Type 0
IsSoundDone processors done = IsSound processors (arc_value done.tx) done.reads done.outcome

-- the result is of this job: its transaction, what it says of dependencies, and what its view gives
pub record Agrees (job : Job) (done : Done) : Type 0 where
  pub tx : arc_value done.tx ≡ arc_value job.tx
  pub dependency : fits_dependency job.dependency_failed done.outcome ≡ true
  pub seen : AllByRecursion (IsSeen (layers_of (arc_value job.view))) done.reads
