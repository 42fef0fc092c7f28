-- What a conversation with a station came to.
use Rattle.std.specs.Prelude.{◌≡◌, Bool, true, List, ◌∷◌, ◌++◌, map}
use Rattle.std.specs.List.{AllByRecursion}
use Rattle.saw_address.specs.Maps.{StateMap}
use Rattle.saw_messages.specs.Reasons.{has_own_reason}
use Rattle.saw_messages.specs.declared.outcome.Change.{Change}
use Rattle.saw_messages.specs.declared.receipt.Event.{Event}
use Rattle.saw_messages.specs.declared.talk.Action.{Action}
use Rattle.saw_messages.specs.declared.talk.Turn.{Turn}
use Rattle.saw_messages.specs.declared.transaction.TransactionHeader.{TransactionHeader}
use Rattle.saw_context.specs.Conversation.{Overlay}
use Rattle.saw_context.specs.Outcome.{changes_of, conversation}
use Rattle.saw_context.specs.SoundResults.{IsOf, IsOfBase, IsSeen, as_asked}
use Rattle.saw_context.specs.Views.{Layers, over}
use Rattle.saw_context.specs.declared.reads.Read.{Read}

-- a function gives the action of each turn, after the turns before it
abbrev pub IsSpokenBy : (List Turn → Action) → List Turn → Type 0
IsSpokenBy next turns = (front back : List Turn) (turn : Turn) → turns ≡ front ++ turn ∷ back → next front ≡ turn.action

-- Turns and a last action that came of a conversation over the base with the view on top: it is the conversation of
-- each function that gives these actions, and the function that is told is one. Each read is recorded as it was answered.
pub record IsSpoken (tells : Bool) (next : List Turn → Action) (header : TransactionHeader) (base : StateMap) (layers : Layers) (turns : List Turn) (last : Action) (changes : List Change) (events : List Event)
    (reads : List Read) : Type 0 where
  pub own : Overlay
  pub made : changes ≡ changes_of own
  pub spoken : (f : List Turn → Action) → IsSpokenBy f turns → f turns ≡ last
      → conversation f header (over base layers) ≡ record { turns = turns; own = own; events = events; asked = map as_asked reads }
  pub told : tells ≡ true → IsSpokenBy next turns × (next turns ≡ last)
  pub reasons : AllByRecursion (λ turn. has_own_reason turn.action ≡ true) turns
  pub last_reason : has_own_reason last ≡ true
  pub of_map : AllByRecursion (IsOf (over base layers)) reads
  pub seen : AllByRecursion (IsSeen layers) reads
  pub of_base : AllByRecursion (IsOfBase base) reads
