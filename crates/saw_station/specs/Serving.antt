-- Who serves the transactions of a family and version.
use Rattle.std.specs.Prelude.{◌≡◌, refl, ℕ, Bool, true, ◌&&◌, List, Option, Some, None, is_some, if◌then◌else◌}
use Rattle.std.specs.List.{list_any}
use Rattle.std.specs.Str.{bytes_eq}
use Rattle.saw_context.specs.Outcome.{Processors}
use Rattle.saw_messages.specs.Reasons.{has_own_reason}
use Rattle.saw_messages.specs.TxShapes.{TxShape}
use Rattle.saw_messages.specs.declared.outcome.Reason.TheVariants as reasons
use Rattle.saw_messages.specs.declared.talk.Action.{Action}
use Rattle.saw_messages.specs.declared.talk.Action.TheVariants as actions
use Rattle.saw_messages.specs.declared.talk.Turn.{Turn}
use Rattle.saw_intkey.proofs.Reasons as of_intkey
use Rattle.saw_xo.proofs.Reasons as of_xo
use Rattle.saw_settings.proofs.Reasons as of_settings
use Rattle.saw_station.specs.Families.{Row, family_of, of_each}
use Rattle.saw_station.specs.declared.offer.Offer.{Offer}
use Rattle.saw_station.specs.declared.serving.Served.{Served}
use Rattle.saw_station.specs.declared.serving.Served.TheVariants.{BuiltIn, Remote}

abbrev pub is_offered : List Offer → List ℕ → List ℕ → Bool
is_offered offers family version = list_any (λ offer. bytes_eq family offer.family && bytes_eq version offer.version) offers

-- a built-in family is served by its own processor, any other by the remote where it is offered
abbrev pub serving : List Offer → List ℕ → List ℕ → Option Served
serving offers family version =
    if is_some (family_of family version) then Some BuiltIn
    else if is_offered offers family version then Some Remote
    else None

-- the next action of a family's processor; without a family it is a refusal
abbrev pub next_of : List ℕ → List ℕ → List Turn → Option Row → Action
next_of signer payload turns (Some family) = family.next signer payload turns
next_of signer payload turns None = actions.Invalid reasons.Remote

-- the same of the family that the transaction names
abbrev pub built_in_next : TxShape → List Turn → Action
built_in_next tx turns = next_of tx.header.signer_public_key tx.payload turns (family_of tx.header.family_name tx.header.family_version)

-- all refuse by their own reasons
pub built_in_own : (tx : TxShape) (turns : List Turn) → has_own_reason (built_in_next tx turns) ≡ true
built_in_own tx turns =
    let signer = tx.header.signer_public_key in
    let payload = tx.payload in
    of_each (λ family. has_own_reason (next_of signer payload turns family) ≡ true) refl tx.header.family_name tx.header.family_version
    (of_intkey.next_own payload turns, (of_xo.next_own signer payload turns, (of_settings.next_own signer payload turns, tt)))

module _ (next : TxShape → List Turn → Action) where
  abbrev pub next_by : TxShape → List Turn → Option Served → Action
  next_by tx turns (Some BuiltIn) = built_in_next tx turns
  next_by tx turns (Some Remote) = next tx turns
  next_by tx turns None = next tx turns

-- the actions of a remote may not be told; where nobody serves there are none to tell
abbrev pub tells_by : Bool → Option Served → Bool
tells_by tells (Some BuiltIn) = true
tells_by tells (Some Remote) = tells
tells_by tells None = true

-- the built-in processors, with a remote that has this function, tells or not, and has these offers
abbrev pub processors_at : (TxShape → List Turn → Action) → Bool → List Offer → Processors
processors_at next tells offers = record {
  next = λ tx turns. next_by next tx turns (serving offers tx.header.family_name tx.header.family_version);
  serves = λ family version. is_some (serving offers family version);
  tells = λ family version. tells_by tells (serving offers family version);
}

-- the built-in processors with no remote of their own that answers; it would refuse all that is offered
abbrev pub alone : List Offer → Processors
alone offers = processors_at (λ tx turns. actions.Invalid reasons.Remote) true offers
