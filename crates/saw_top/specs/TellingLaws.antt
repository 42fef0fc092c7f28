-- Where all is told.
use Rattle.std.specs.Prelude.{◌≡◌, ◌⊎◌, ℕ, Bool, true, List, [], Result}
use Rattle.saw_messages.specs.TxShapes.{TxShape}
use Rattle.saw_messages.specs.declared.talk.Action.{Action}
use Rattle.saw_messages.specs.declared.talk.Turn.{Turn}
use Rattle.saw_report.specs.declared.run_fault.RunFault.{RunFault}
use Rattle.saw_station.specs.declared.offer.Offer.{Offer}
use Rattle.saw_top.specs.Answers.{Prepared}
use Rattle.saw_top.specs.Telling.{IsTold}
use Rattle.saw_top.specs.World.{processors_with}

-- where there are no external processors, or they are deterministic, all is told, whatever is asked for
abbrev pub AllIsTold : Type 0
AllIsTold =
    (next : TxShape → List Turn → Action) (tells : Bool) (offers : List (List Offer)) (ready : Result Prepared RunFault) (bytes : List ℕ)
    → (offers ≡ []) ⊎ (tells ≡ true) → IsTold (processors_with next tells offers) ready bytes
