-- What one transaction does to one map.
use Rattle.std.specs.Prelude.{ℕ, zero, suc, Bool, true, false, ◌&&◌, not, List, [], ◌∷◌, ◌++◌, map, Option, Some, None, if◌then◌else◌}
use Rattle.std.specs.List.{list_all}
use Rattle.std.specs.FinMap as finite
use Rattle.saw_address.specs.Maps.{StateMap, changed_at}
use Rattle.saw_address.specs.Texts.{is_prefix_text}
use Rattle.saw_messages.specs.declared.receipt.Event.{Event}
use Rattle.saw_messages.specs.declared.transaction.TransactionHeader.{TransactionHeader}
use Rattle.saw_messages.specs.TxShapes.{TxShape}
use Rattle.saw_messages.specs.declared.talk.Action.{Action}
use Rattle.saw_messages.specs.declared.talk.Action.TheVariants as actions
use Rattle.saw_messages.specs.declared.talk.Turn.{Turn}
use Rattle.saw_messages.specs.declared.outcome.Change.{Change}
use Rattle.saw_messages.specs.declared.outcome.Outcome.{Outcome}
use Rattle.saw_messages.specs.declared.outcome.Outcome.TheVariants as outcomes
use Rattle.saw_messages.specs.declared.outcome.Reason.{Reason}
use Rattle.saw_messages.specs.declared.outcome.Reason.TheVariants.{BadDeclared, NoProcessor, DependencyFailed, TooManyRequests}
use Rattle.saw_context.specs.Conversation.{Overlay, Asked, reply_to, own_after, events_after, asked_by}

-- What processors do: the next action after a transcript, which families and versions are served, and for which of
-- them the next action is told. Of any other the actions may be any.
pub record Processors : Type 0 where
  pub next : TxShape → List Turn → Action
  pub serves : List ℕ → List ℕ → Bool
  pub tells : List ℕ → List ℕ → Bool

-- ---- the conversation

-- as far as a conversation has come: its turns, what is changed, the events, and what was read
pub record Talk : Type 0 where
  pub turns : List Turn
  pub own : Overlay
  pub events : List Event
  pub asked : List Asked

abbrev pub no_talk : Talk
no_talk = record { turns = []; own = finite.empty; events = []; asked = [] }

-- an action that asks for something; the others end the conversation
abbrev pub is_request : Action → Bool
is_request actions.Ok = false
is_request (actions.Invalid reason) = false
is_request _ = true

-- how many requests of a transaction are answered
abbrev pub max_requests : ℕ
max_requests = 1000

module _ (next : List Turn → Action) (header : TransactionHeader) (m : StateMap) where
  -- one more request and its reply
  abbrev pub after_request : Talk → Action → Talk
  after_request talk action = record {
    turns = talk.turns ++ record { action = action; reply = reply_to header m talk.own action } ∷ [];
    own = own_after header talk.own action;
    events = events_after talk.events action;
    asked = talk.asked ++ asked_by header talk.own action;
  }

  -- the conversation from here on, until it is ended or so many more requests were answered
  unfoldable pub followed : ℕ → Talk → Talk
  followed zero talk = talk
  followed (suc more) talk = if is_request (next talk.turns) then followed more (after_request talk (next talk.turns)) else talk

  -- the whole conversation
  abbrev pub conversation : Talk
  conversation = followed max_requests no_talk

-- the changes in address order, the last of each address
abbrev pub changes_of : Overlay → List Change
changes_of own = map (λ entry. record { address = entry.0; value = entry.1 }) (finite.entries own)

-- the outcome by the action after the last answered request; one more request is one too many
abbrev pub outcome_at : Action → List Change → List Event → Outcome
outcome_at actions.Ok changes events = outcomes.Ok changes events
outcome_at (actions.Invalid reason) changes events = outcomes.Invalid reason
outcome_at _ changes events = outcomes.Invalid TooManyRequests

abbrev pub decided : Talk → Action → Outcome
decided talk action = outcome_at action (changes_of talk.own) talk.events

abbrev pub decided_by : (List Turn → Action) → Talk → Outcome
decided_by next talk = decided talk (next talk.turns)

-- the outcome of the whole conversation
unfoldable pub conversed : (List Turn → Action) → TransactionHeader → StateMap → Outcome
conversed next header m = decided_by next (conversation next header m)

-- ---- the outcome

abbrev pub are_prefixes : List (List ℕ) → Bool
are_prefixes texts = list_all is_prefix_text texts

-- whether all that a transaction declares are prefixes
abbrev pub are_declared : TransactionHeader → Bool
are_declared header = are_prefixes header.inputs && are_prefixes header.outputs

-- why a transaction is invalid before any conversation, whatever the map: a declared text is no prefix, or no
-- processor serves its family and version
abbrev pub refusal : Processors → TxShape → Option Reason
refusal processors tx =
    if not (are_declared tx.header) then Some BadDeclared
    else if not (processors.serves tx.header.family_name tx.header.family_version) then Some NoProcessor
    else None

abbrev pub outcome_by : Option Reason → Bool → Outcome → Outcome
outcome_by (Some reason) failed others = outcomes.Invalid reason
outcome_by None failed others = if failed then outcomes.Invalid DependencyFailed else others

-- the outcome of a transaction over a map, by the first of the cases that holds; `failed` says whether a dependency
-- of it stands in a failed batch
abbrev pub outcome_of : Processors → TxShape → StateMap → Bool → Outcome
outcome_of processors tx m failed = outcome_by (refusal processors tx) failed (conversed (processors.next tx) tx.header m)

-- a map after changes, in order
abbrev pub map_after : StateMap → List Change → StateMap
map_after m [] = m
map_after m (change ∷ changes) = map_after (changed_at m change.address change.value) changes
