-- A processor of the built-in families, as the peer of a station.
use Rattle.std.specs.Prelude.{◌≡◌, ◌≤◌, ◌⊎◌, ◌<◌, ℕ, Bool, true, false, nat_lt, List, [], ◌∷◌, ◌++◌, length, Option, Some, None, Contains}
use Rattle.saw_messages.specs.TxShapes.{TxShape}
use Rattle.saw_messages.specs.declared.outcome.Reason.TheVariants.{Remote}
use Rattle.saw_messages.specs.declared.talk.Action.{Action}
use Rattle.saw_messages.specs.declared.talk.Action.TheVariants as actions
use Rattle.saw_messages.specs.declared.talk.Turn.{Turn}
use Rattle.saw_station.specs.declared.offer.Offer.{Offer}
use Rattle.saw_link.specs.declared.passed.Passed.{Passed}
use Rattle.saw_link.specs.declared.passed.Passed.TheVariants.{Sent, Received, Ended}
use Rattle.saw_tpside.specs.ProcessorConversation.{AreOffers, IsVersion, after_sent, due, family_action, limit_at, starting, taken}
use Rattle.saw_tpside.specs.Understood.{IsUnderstood}
use Rattle.saw_tpside.specs.declared.serving.Serving.{Serving}

-- a station cannot tell by which reason an external processor refuses
abbrev pub as_remote : Action → Action
as_remote (actions.Get places) = actions.Get places
as_remote (actions.Set entries) = actions.Set entries
as_remote (actions.Delete places) = actions.Delete places
as_remote (actions.AddEvent event) = actions.AddEvent event
as_remote actions.Ok = actions.Ok
as_remote (actions.Invalid reason) = actions.Invalid Remote

-- the next action of the families, as a station hears it
abbrev pub family_next : TxShape → List Turn → Action
family_next tx turns = as_remote (family_action tx turns)

-- how the peer stands after a frame of the station; nothing is due any more once one was not legal
abbrev pub taken_from : Option Serving → List ℕ → Option Serving
taken_from None frame = None
taken_from (Some p) frame = taken p frame

abbrev pub due_from : Option Serving → Option (List ℕ)
due_from None = None
due_from (Some p) = due p

-- how it stands once that frame was sent, if one was due
abbrev pub spoken_by : Serving → Option (List ℕ) → Serving
spoken_by p None = p
spoken_by p (Some frame) = after_sent p

abbrev pub spoken_from : Option Serving → Option Serving
spoken_from None = None
spoken_from (Some p) = Some (spoken_by p (due p))

abbrev pub is_above : Option Serving → ℕ → Bool
is_above None length = false
is_above (Some p) length = nat_lt (limit_at p) length

-- the frame that is due is longer than the version allows
abbrev pub IsTooLong : Option Serving → Type 0
IsTooLong None = ⊥
IsTooLong (Some p) = (frame : List ℕ) × (due p ≡ Some frame) × (limit_at p < length frame)

-- how a peer came to stand so: what the station sent and received, one after another
pub data Came (start : Serving) : List Passed → Option Serving → Type 0 where
  begins : Came start [] (Some start)
  hears : {passed : List Passed} {before : Option Serving} (frame : List ℕ) → Came start passed before → Came start (passed ++ Sent frame ∷ []) (taken_from before frame)
  speaks : {passed : List Passed} {p : Serving} (frame : List ℕ) → Came start passed (Some p) → due p ≡ Some frame → length frame ≤ limit_at p
      → IsUnderstood p frame → Came start (passed ++ Received frame ∷ []) (Some (after_sent p))
  ends : {passed : List Passed} {now : Option Serving} → Came start passed now → Came start (passed ++ Ended ∷ []) now
  gives_up : {passed : List Passed} {now : Option Serving} → Came start passed now → Came start passed None

-- the same from some offers and the version that was asked for
pub record HasCome (passed : List Passed) (now : Option Serving) : Type 0 where
  pub offers : List Offer
  pub asked : ℕ
  pub are : AreOffers offers
  pub is : IsVersion asked
  pub came : Came (starting offers asked) passed now
