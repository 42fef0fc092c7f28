-- What a processor asks, one request after another, and what it makes of the replies. A family has its own numbers for a
-- request that is refused and for what cannot be read.
use Rattle.std.specs.Prelude.{ℕ, List, [], ◌∷◌, Result, Ok, Err, codes}
use Rattle.saw_wire.specs.declared.fault.MessageFault.{MessageFault}
use Rattle.saw_messages.specs.Reasons.{invalid}
use Rattle.saw_messages.specs.declared.receipt.Event.{Event}
use Rattle.saw_messages.specs.declared.talk.Action.{Action}
use Rattle.saw_messages.specs.declared.talk.Action.TheVariants as actions
use Rattle.saw_messages.specs.declared.talk.Place.TheVariants.{At}
use Rattle.saw_messages.specs.declared.talk.Reply.{Reply}
use Rattle.saw_messages.specs.declared.talk.Reply.TheVariants.{Entries, Done}

-- an action that is due, or what was told with the replies behind it
pub data Told (A : Type 0) : Type 0 where
  Due : Action → Told A
  Goes : A → List Reply → Told A

-- goes on with what was told
abbrev pub then_do : {A : Type 0} → Told A → (A → List Reply → Action) → Action
then_do (Due action) others = action
then_do (Goes told rest) others = others told rest

abbrev pub and_then : {A B : Type 0} → Told A → (A → List Reply → Told B) → Told B
and_then (Due action) others = Due action
and_then (Goes told rest) others = others told rest

-- ---- what is kept at an address is read as a message

-- a reply of one body
abbrev pub body_by : ℕ → List Reply → Reply → Told (List ℕ)
body_by refused rest (Entries (body ∷ [])) = Goes body rest
body_by refused rest _ = Due (invalid refused)

abbrev pub body_at : ℕ → List ℕ → List Reply → Told (List ℕ)
body_at refused address [] = Due (actions.Get (At address ∷ []))
body_at refused address (first ∷ rest) = body_by refused rest first

abbrev pub readable : {A : Type 0} → ℕ → List Reply → Result A MessageFault → Told A
readable unreadable rest (Ok read) = Goes read rest
readable unreadable rest (Err e) = Due (invalid unreadable)

abbrev pub message_at : {A : Type 0} → ℕ → ℕ → (List ℕ → Result A MessageFault) → List ℕ → List Reply → Told A
message_at refused unreadable message address replies = and_then (body_at refused address replies) (λ body rest. readable unreadable rest (message body))

-- ---- a change is made, and an event tells of it

abbrev pub done_by : ℕ → List Reply → Reply → Told (Unit {0})
done_by refused rest Done = Goes tt rest
done_by refused rest _ = Due (invalid refused)

-- an action that is answered `Done`
abbrev pub done : ℕ → Action → List Reply → Told (Unit {0})
done refused action [] = Due action
done refused action (first ∷ rest) = done_by refused rest first

-- the event of a type for a change of what has the name
abbrev pub update_of : List ℕ → List ℕ → Event
update_of event_type name = record {
  event_type = event_type;
  attributes = record { key = codes "updated"; value = name } ∷ [];
  body = [];
}
