-- What a station is asked, step by step.
use Rattle.std.specs.Prelude.{◌≡◌, ◌⊎◌, ◌<◌, ◌^◌, ℕ, Bool, true, false, List, [], ◌∷◌, ◌++◌, length, Option, Some, None, ◌==◌}
use Rattle.saw_messages.specs.TxShapes.{TxShape}
use Rattle.saw_messages.specs.declared.talk.Action.{Action}
use Rattle.saw_messages.specs.declared.talk.Action.TheVariants as actions
use Rattle.saw_messages.specs.declared.talk.Reply.{Reply}
use Rattle.saw_messages.specs.declared.talk.Reply.TheVariants.{Entries, Done, Unauthorized}
use Rattle.saw_messages.specs.declared.talk.Turn.{Turn}

-- a step: the transaction, the turns so far, and the action that was answered
pub record Step : Type 0 where
  pub tx : TxShape
  pub turns : List Turn
  pub action : Action

-- whether a reply fits an action: one entry for each place of a get; no reply fits the end of a conversation
abbrev pub fits : Action → Reply → Bool
fits (actions.Get places) (Entries bodies) = length bodies == length places
fits (actions.Get places) Done = false
fits (actions.Get places) (Unauthorized index) = true
fits (actions.Set entries) (Entries bodies) = false
fits (actions.Set entries) Done = true
fits (actions.Set entries) (Unauthorized index) = true
fits (actions.Delete places) (Entries bodies) = false
fits (actions.Delete places) Done = true
fits (actions.Delete places) (Unauthorized index) = true
fits (actions.AddEvent event) (Entries bodies) = false
fits (actions.AddEvent event) Done = true
fits (actions.AddEvent event) (Unauthorized index) = false
fits actions.Ok reply = false
fits (actions.Invalid reason) reply = false

-- the turns are those of the last step with one more: its action with a reply that fits. A station that keeps no step
-- asks for nothing.
abbrev pub Follows : Option Step → TxShape → List Turn → Type 0
Follows None tx turns = Unit {0}
Follows (Some step) tx turns = (tx ≡ step.tx) × ((reply : Reply) × (fits step.action reply ≡ true) × (turns ≡ step.turns ++ record { action = step.action; reply = reply } ∷ []))

-- a step begins a conversation, or follows the last one
abbrev pub MayFollow : Option Step → TxShape → List Turn → Type 0
MayFollow last tx turns = (turns ≡ []) ⊎ Follows last tx turns

-- the turns are those of the last step
abbrev pub IsOfLast : Option Step → TxShape → List Turn → Type 0
IsOfLast None tx turns = Unit {0}
IsOfLast (Some step) tx turns = (tx ≡ step.tx) × (turns ≡ step.turns)

-- a station keeps the step, or none
abbrev pub KeepsStep : Option Step → TxShape → List Turn → Action → Type 0
KeepsStep last tx turns action = (last ≡ None) ⊎ (last ≡ Some (record { tx = tx; turns = turns; action = action }))

-- how many elements the list of an action has
abbrev pub list_length : Action → ℕ
list_length (actions.Get places) = length places
list_length (actions.Set entries) = length entries
list_length (actions.Delete places) = length places
list_length (actions.AddEvent event) = 0
list_length actions.Ok = 0
list_length (actions.Invalid reason) = 0

-- its places can be counted by 32 bits
abbrev pub IsShort : Action → Type 0
IsShort action = list_length action < 2 ^ 32
