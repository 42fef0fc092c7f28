-- What is true of runs of batches that go to deterministic processors.
use Rattle.std.specs.Prelude.{◌≡◌, ⊤, ℕ, true, List, Result, Ok, Err, IfOk, IsErrOf}
use Rattle.saw_address.specs.Maps.{StateMap}
use Rattle.saw_context.specs.Outcome.{Processors}
use Rattle.saw_context.specs.Possible.{MayComeOfAll, are_told}
use Rattle.saw_context.specs.Serial.{serial}
use Rattle.saw_messages.specs.TxShapes.{TxShape}
use Rattle.saw_schedule.specs.declared.results.Results.{Results}
use Rattle.saw_station.specs.DeskPlaces.{Place}
use Rattle.saw_crew.specs.Desks.{Failed}
use Rattle.saw_crew.specs.declared.fault.CrewFault.{CrewFault}
use Rattle.saw_crew.specs.declared.fault.CrewFault.TheVariants.{PeerFailed, OutOfMemory}

-- the results of running batches one after another, unless memory was refused
abbrev pub IsSerial : Processors → StateMap → List (List TxShape) → Result Results CrewFault → Type 0
IsSerial processors m batches (Ok results) = results.batches ≡ serial processors m batches
IsSerial processors m batches (Err PeerFailed) = ⊥
IsSerial processors m batches (Err OutOfMemory) = ⊤

module _ {R : Type 0} (faults : R → ℕ) where
  -- Where batches go to deterministic processors and no count of a processor rose, a call with the clauses of `execute`
  -- gives the results of running them one after another, or memory was refused.
  abbrev pub ToldIsRunSerially : Type 0
  ToldIsRunSerially =
      (processors : Processors) (m : StateMap) (batches : List (List TxShape)) (old new : List (Place R)) (result : Result Results CrewFault)
      → are_told processors batches ≡ true
      → IfOk result (λ results. MayComeOfAll processors m batches results.batches)
      → (IsErrOf result PeerFailed → Failed faults old new) → (Failed faults old new → ⊥)
      → IsSerial processors m batches result
