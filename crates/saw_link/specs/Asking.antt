-- What is asked is a request.
use Rattle.std.specs.Prelude.{◌≡◌, true}
use Rattle.saw_context.specs.Outcome.{is_request}
use Rattle.saw_messages.specs.Reasons.{has_own_reason}
use Rattle.saw_messages.specs.declared.talk.Action.{Action}
use Rattle.saw_station.specs.TalkSteps.{IsShort}
use Rattle.saw_link.specs.declared.heard.Heard.{Heard}
use Rattle.saw_link.specs.declared.heard.Heard.TheVariants.{Asks, Ends, Breach}

-- an action that a peer may answer, which asks for something
pub record IsRequest (action : Action) : Type 0 where
  pub request : is_request action ≡ true
  pub short : IsShort action
  pub own : has_own_reason action ≡ true

abbrev pub IsAsking : Heard → Type 0
IsAsking (Asks asked action) = IsRequest action
IsAsking (Ends finish) = Unit {0}
IsAsking Breach = Unit {0}
