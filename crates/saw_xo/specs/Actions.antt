-- The next action of the XO family, version 1.0, by the signer, the payload and the replies so far.
use Rattle.std.specs.Prelude.{◌≡◌, ℕ, true, List, [], ◌∷◌, map, take, Option, Some, None, Result, Ok, Err, ◌==◌, if◌then◌else◌, codes}
use Rattle.std.specs.FinMap as finite
use Rattle.sha2.specs.Sha512.{sha512}
use Rattle.saw_messages.specs.Reasons.{has_own_reason, invalid}
use Rattle.saw_messages.specs.declared.talk.Action.{Action}
use Rattle.saw_messages.specs.declared.talk.Action.TheVariants as actions
use Rattle.saw_messages.specs.declared.talk.Place.TheVariants.{At}
use Rattle.saw_messages.specs.declared.talk.Reply.{Reply}
use Rattle.saw_messages.specs.declared.talk.Reply.TheVariants.{Entries, Done}
use Rattle.saw_messages.specs.declared.talk.Turn.{Turn}
use Rattle.saw_xo.specs.Payloads.{payload_of}
use Rattle.saw_xo.specs.Games.{Games, games_of, kept_bytes}
use Rattle.saw_xo.specs.Moves.{changed}
use Rattle.saw_xo.specs.declared.payload.Payload.{Payload}

abbrev pub family_name : List ℕ
family_name = codes "xo"

abbrev pub family_version : List ℕ
family_version = codes "1.0"

-- `5b7349`, the first six hex digits of SHA-512 of the family's name, and then the first 32 bytes of SHA-512 of the name
unfoldable pub address_of : List ℕ → List ℕ
address_of name = 0x5b ∷ 0x73 ∷ 0x49 ∷ take 32 (sha512 name)

-- the request of the address of the payload's name
abbrev pub asked : Result Payload ℕ → Action
asked (Err number) = invalid number
asked (Ok payload) = actions.Get (At (address_of payload.name) ∷ [])

-- the address is set to the games, or deleted where none is left
abbrev pub set_to : Payload → Result Games ℕ → Action
set_to payload (Err number) = invalid number
set_to payload (Ok games) =
    if finite.len games == 0 then actions.Delete (At (address_of payload.name) ∷ [])
    else actions.Set (record { place = At (address_of payload.name); body = kept_bytes games } ∷ [])

-- 206: the bytes there are games; then 207 to 211
abbrev pub changed_in : List ℕ → Payload → Option Games → Action
changed_in signer payload None = invalid 206
changed_in signer payload (Some games) = set_to payload (changed signer payload games)

-- after the reply to the request of the address; a reply that gives no single entry is a refusal, 205
abbrev pub after_get : List ℕ → Payload → Reply → Action
after_get signer payload (Entries (body ∷ [])) = changed_in signer payload (games_of body)
after_get signer payload _ = invalid 205

abbrev pub changing : List ℕ → Result Payload ℕ → Reply → Action
changing signer (Err number) reply = invalid number
changing signer (Ok payload) reply = after_get signer payload reply

-- after the reply to the change
abbrev pub after_change : Reply → Action
after_change Done = actions.Ok
after_change _ = invalid 205

-- the next action, for any signer, any payload and any replies
abbrev pub next_after : List ℕ → List ℕ → List Reply → Action
next_after signer payload [] = asked (payload_of payload)
next_after signer payload (first ∷ []) = changing signer (payload_of payload) first
next_after signer payload (first ∷ second ∷ others) = after_change second

abbrev pub next : List ℕ → List ℕ → List Turn → Action
next signer payload turns = next_after signer payload (map (λ turn. turn.reply) turns)

-- the action depends on the signer, the payload and the replies alone
abbrev pub RepliesDecide : Type 0
RepliesDecide = (signer payload : List ℕ) (turns others : List Turn) → map (λ turn. turn.reply) turns ≡ map (λ turn. turn.reply) others → next signer payload turns ≡ next signer payload others

-- a refusal is by a number of the family, above 100
abbrev pub ReasonsAreOwn : Type 0
ReasonsAreOwn = (signer payload : List ℕ) (turns : List Turn) → has_own_reason (next signer payload turns) ≡ true
