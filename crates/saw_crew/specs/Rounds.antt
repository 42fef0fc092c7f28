-- What a worker's round leaves behind the lock and in the queues.
use Rattle.std.specs.Prelude.{◌≡◌, ◌⊎◌, ℕ, Bool, true, false, List, [], ◌∷◌, ◌++◌, Some, map, drop, length, take, slice_get}
use Rattle.std.specs.List.{AllByRecursion}
use Rattle.saw_context.specs.Outcome.{Processors}
use Rattle.saw_context.specs.SoundResults.{IsSoundDone}
use Rattle.saw_context.specs.declared.job.Done.{Done}
use Rattle.saw_context.specs.declared.job.Job.{Job}
use Rattle.saw_context.specs.declared.job.Ticket.{Ticket}
use Rattle.saw_schedule.specs.Histories.{Finishes, GivesBack, History, RunsIn, state_of, order_in}
use Rattle.saw_machine.specs.Machine.{IsReady}
use Rattle.saw_schedule.specs.declared.ended.Finished.{Finished}
use Rattle.saw_schedule.specs.declared.ended.Given.{Given}
use Rattle.saw_schedule.specs.declared.step.Step.{Step}
use Rattle.saw_schedule.specs.declared.step.Step.TheVariants.{Take}
use Rattle.saw_tickets.specs.Seats.{ClaimsJob, ClaimsOwn, FindsNoOwn, FindsNone}
use Rattle.saw_tickets.specs.declared.rule.View.{View}
use Rattle.saw_crew.specs.Stored.{Stored}

-- ---- jobs that are taken

abbrev pub takes_of : List Job → List Step
takes_of jobs = map (λ job. Take job.ticket) jobs

-- these jobs were taken, and nothing else happened
pub record TakesJobs (old new : Stored) (jobs : List Job) : Type 0 where
  pub offers : new.offers ≡ old.offers
  pub plan : new.history.batches ≡ old.history.batches
  pub steps : new.history.steps ≡ old.history.steps ++ takes_of jobs

-- jobs were issued to the own queue, and nothing else changed
abbrev pub IssuesJobs : List View → List View → List Job → Type 0
IssuesJobs [] new jobs = ⊥
IssuesJobs (own ∷ others) new jobs = new ≡ record own { issued = own.issued ++ jobs } ∷ others

-- The first of the jobs that were taken stays in hand, the next ones were issued to the seat, and what it handed back
-- stays in hand, too. None: nothing was taken.
abbrev pub TakesSome : Stored → Stored → List View → List View → List Job → Type 0
TakesSome old new views views' [] = (new ≡ old) × (views' ≡ views)
TakesSome old new views views' (first ∷ back) =
    (issued : List Job) × TakesJobs old new (first ∷ issued ++ back) × IssuesJobs views views' issued

-- behind the jobs in hand more were taken: some were issued to the seat, and those that it handed back stay in hand
pub record TakesMore (old new : Stored) (views views' : List View) (jobs jobs' : List Job) : Type 0 where
  pub issued : List Job
  pub back : List Job
  pub hand : jobs' ≡ jobs ++ back
  pub taken : TakesJobs old new (issued ++ back)
  pub issues : IssuesJobs views views' issued

-- nothing may be taken
abbrev pub NoneIsReady : Stored → Type 0
NoneIsReady s = (i : ℕ) → IsReady (order_in s.history) (state_of s.history) i → ⊥

-- Nothing may be taken, and the seat claimed a job, or none.
abbrev pub ClaimsOne : Stored → Stored → List View → List View → List Job → Type 0
ClaimsOne old new views views' [] = (new ≡ old) × NoneIsReady old × FindsNone views views'
ClaimsOne old new views views' (job ∷ []) = (new ≡ old) × NoneIsReady old × ClaimsJob views views' job
ClaimsOne old new views views' (job ∷ (other ∷ jobs)) = ⊥

-- ---- jobs that end

abbrev pub tickets_of : List Job → List Ticket
tickets_of jobs = map (λ job. job.ticket) jobs

-- the jobs of the results, in order
abbrev pub tickets_in : List Done → List Ticket
tickets_in done = map (λ one. one.ticket) done

-- each of the results ended its job, in order
abbrev pub FinishesAll : History → History → List Done → Type 0
FinishesAll old new [] = new ≡ old
FinishesAll old new (one ∷ more) =
    (mid : History) × ((fin : Finished) × Finishes old mid one fin) × FinishesAll mid new more

-- each of the jobs was given back, in order
abbrev pub GivesAll : History → History → List Ticket → Type 0
GivesAll old new [] = new ≡ old
GivesAll old new (one ∷ more) =
    (mid : History) × ((given : Given) × GivesBack old mid one given) × GivesAll mid new more

-- the results are those of the first of the jobs
abbrev pub AreOfFirst : List Done → List Job → Type 0
AreOfFirst done jobs = tickets_in done ≡ take (length done) (tickets_of jobs)

-- the results were stored, and the jobs that have none were given back
pub record StoresAll (old new : History) (jobs : List Job) (done : List Done) : Type 0 where
  pub between : History
  pub finished : FinishesAll old between done
  pub given : GivesAll between new (drop (length done) (tickets_of jobs))

-- none of the jobs runs
abbrev pub NoneRuns : History → List Ticket → Type 0
NoneRuns h tickets = AllByRecursion (λ ticket. RunsIn (state_of h) ticket → ⊥) tickets

-- ---- the own queue

-- these jobs were claimed of the own queue, in order, and nothing else changed
abbrev pub ClaimsOwnJobs : List View → List View → List Job → Type 0
ClaimsOwnJobs old new [] = new ≡ old
ClaimsOwnJobs old new (job ∷ jobs) = (mid : List View) × ClaimsOwn old mid job × ClaimsOwnJobs mid new jobs

-- jobs were claimed of the own queue and given back, and none of them runs
pub record GivesQueue (old new : History) (views views' : List View) : Type 0 where
  pub jobs : List Job
  pub claimed : ClaimsOwnJobs views views' jobs
  pub given : GivesAll old new (tickets_of jobs)
  pub ended : NoneRuns new (tickets_of jobs)

-- ---- the end of a round

-- a worker that is well goes on: its results were stored
pub record WorksOn (well : Bool) (old new : History) (views views' : List View) (jobs : List Job) (done : List Done) : Type 0 where
  pub is_well : well ≡ true
  pub stores : StoresAll old new jobs done
  pub seat : views' ≡ views

-- the results were stored or all was given back, and then what the own queue held
pub record EndsWorker (old new : History) (views views' : List View) (jobs : List Job) (done : List Done) : Type 0 where
  pub between : History
  pub hand : StoresAll old between jobs done ⊎ GivesAll old between (tickets_of jobs)
  pub queue : GivesQueue between new views views'

-- ---- what is in hand

-- a job of the own queue came behind those in hand, or there was none
abbrev pub ClaimsMore : List View → List View → List Job → List Job → Bool → Type 0
ClaimsMore views views' old new true = (job : Job) × ClaimsOwn views views' job × (new ≡ old ++ job ∷ [])
ClaimsMore views views' old new false = FindsNoOwn views views' × (new ≡ old)

-- jobs may have come behind those in hand
abbrev pub IsFurther : List Job → List Job → Type 0
IsFurther old new = (more : List Job) × (new ≡ old ++ more)

-- the first job in hand that had no result has a true one
pub record AddsResult (processors : Processors) (jobs : List Job) (old new : List Done) : Type 0 where
  pub done : Done
  pub sound : IsSoundDone processors done
  pub ticket : slice_get (tickets_of jobs) (length old) ≡ Some done.ticket
  pub more : new ≡ old ++ done ∷ []
