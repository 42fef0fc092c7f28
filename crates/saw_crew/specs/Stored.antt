-- What stands behind the lock, and what the workers leave there.
use Rattle.std.specs.Prelude.{◌≡◌, ◌<◌, ◌≤◌, ℕ, List, length, slice_get, ⊤}
use Rattle.std.specs.List.{AllByRecursion}
use Rattle.saw_address.specs.Maps.{StateMap}
use Rattle.saw_messages.specs.TxShapes.{TxShape}
use Rattle.saw_context.specs.Outcome.{Processors}
use Rattle.saw_context.specs.SoundResults.{IsOfBase, IsSoundDone}
use Rattle.saw_machine.specs.Machine.{Running, Task}
use Rattle.saw_plan.specs.BatchShapes.{txs_of}
use Rattle.saw_schedule.specs.Histories.{History, IsReplay, state_of}
use Rattle.saw_schedule.specs.declared.step.Step.{Step}
use Rattle.saw_schedule.specs.declared.step.Step.TheVariants.{Take, Finish, GiveBack}
use Rattle.saw_station.specs.declared.offer.Offer.{Offer}

-- a history and the offers of the first desk
pub record Stored : Type 0 where
  pub history : History
  pub offers : List Offer

-- ---- the results of steps

abbrev pub IsSoundStep : Processors → Step → Type 0
IsSoundStep processors (Take ticket) = ⊤
IsSoundStep processors (Finish done) = IsSoundDone processors done
IsSoundStep processors (GiveBack ticket) = ⊤

-- each result is true
abbrev pub AllSound : Processors → List Step → Type 0
AllSound processors steps = AllByRecursion (IsSoundStep processors) steps

abbrev pub IsOfBaseStep : StateMap → Step → Type 0
IsOfBaseStep m (Take ticket) = ⊤
IsOfBaseStep m (Finish done) = AllByRecursion (IsOfBase m) done.reads
IsOfBaseStep m (GiveBack ticket) = ⊤

-- each read of the base is what the base has
abbrev pub AllOfBase : StateMap → List Step → Type 0
AllOfBase m steps = AllByRecursion (IsOfBaseStep m) steps

-- ---- what the workers leave

-- the history is of a plan with these transactions, and each read of the base is what the base has
pub record IsAsLent (m : StateMap) (batches : List (List TxShape)) (h : History) : Type 0 where
  pub plan : txs_of h.batches ≡ batches
  pub base : AllOfBase m h.steps
  pub replay : IsReplay h

-- some jobs were given back
pub record Gave (old new : History) : Type 0 where
  pub plan : new.batches ≡ old.batches
  pub sound : (processors : Processors) → AllSound processors old.steps → AllSound processors new.steps
  pub base : (m : StateMap) → AllOfBase m old.steps → AllOfBase m new.steps
  pub replay : IsReplay old → IsReplay new
  pub longer : length old.steps ≤ length new.steps
  pub steps : (k : ℕ) → k < length old.steps → slice_get new.steps k ≡ slice_get old.steps k
  pub running : (i n : ℕ) (task : Task) → (state_of new).slots i ≡ Running n task → (state_of old).slots i ≡ Running n task
