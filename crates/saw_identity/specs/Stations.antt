-- A station that serves the identity family besides another one.
use Rattle.std.specs.Prelude.{◌≡◌, ℕ, Bool, true, false, ◌&&◌, not, List, ◌∷◌, Option, Some, None, if◌then◌else◌}
use Rattle.std.specs.List.{filter}
use Rattle.std.specs.Str.{bytes_eq}
use Rattle.saw_messages.specs.Reasons.{has_own_reason}
use Rattle.saw_messages.specs.TxShapes.{TxShape, shape_in}
use Rattle.saw_messages.specs.declared.talk.Action.{Action}
use Rattle.saw_messages.specs.declared.talk.Turn.{Turn}
use Rattle.saw_station.specs.TalkSteps.{Step}
use Rattle.saw_station.specs.declared.offer.Offer.{Offer}
use Rattle.saw_identity.specs.Actions.{family_name, family_version, next}
use Rattle.saw_identity.specs.Reasons.{next_own}
use Rattle.saw_identity.specs.declared.station.OwnStep.{OwnStep}

-- ---- who serves what

abbrev pub is_identity : List ℕ → List ℕ → Bool
is_identity family version = bytes_eq family family_name && bytes_eq version family_version

-- this family first, then the inner offers without it
abbrev pub identity_offers : List Offer → List Offer
identity_offers inner =
    record { family = family_name; version = family_version } ∷ filter (λ offer. not (is_identity offer.family offer.version)) inner

-- whether a transaction is of the family
abbrev pub is_own : TxShape → Bool
is_own tx = is_identity tx.header.family_name tx.header.family_version

-- the family's next action for its own transactions, and the inner one's for any other
abbrev pub with_identity : (TxShape → List Turn → Action) → TxShape → List Turn → Action
with_identity inner tx turns = if is_own tx then next tx.header.signer_public_key tx.payload turns else inner tx turns

-- ---- the station

-- the inner station, what both serve, and a copy of the last step where it was the family's own
pub record Wrapped (R : Type 0) : Type 0 where
  pub inner : R
  pub offers : List Offer
  pub last : Option OwnStep

abbrev pub step_of : OwnStep → Step
step_of own = record { tx = shape_in own.tx; turns = own.turns; action = own.action }

-- the last step of both
abbrev pub last_of : Option OwnStep → Option Step → Option Step
last_of None inner = inner
last_of (Some own) inner = Some (step_of own)

-- the family's own conversations leave nothing open
abbrev pub talking_of : Option OwnStep → Bool → Bool
talking_of None inner = inner
talking_of (Some own) inner = false

abbrev pub is_own_step : Option OwnStep → Type 0
is_own_step None = Unit {0}
is_own_step (Some own) = is_own (shape_in own.tx) ≡ true

-- the inner station has begun and offers what is offered besides the family, and what is kept is a step of the family
pub record IsWrapped (has_begun : Bool) (inner offered : List Offer) (last : Option OwnStep) : Type 0 where
  pub begun : has_begun ≡ true
  pub offers : offered ≡ identity_offers inner
  pub own : is_own_step last

either_own : (test : Bool) (x y : Action) → has_own_reason x ≡ true → has_own_reason y ≡ true → has_own_reason (if test then x else y) ≡ true
either_own true x y first second = first
either_own false x y first second = second

-- both refuse by their own reasons
pub with_identity_own : (inner : TxShape → List Turn → Action) → ((tx : TxShape) (turns : List Turn) → has_own_reason (inner tx turns) ≡ true)
    → (tx : TxShape) (turns : List Turn) → has_own_reason (with_identity inner tx turns) ≡ true
with_identity_own inner own tx turns =
    either_own (is_own tx) (next tx.header.signer_public_key tx.payload turns) (inner tx turns) (next_own tx.header.signer_public_key tx.payload turns)
    (own tx turns)
