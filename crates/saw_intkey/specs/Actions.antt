-- The next action of the IntegerKey family, version 1.0, by the payload and the replies so far.
use Rattle.std.specs.Prelude.{◌≡◌, ℕ, true, List, [], ◌∷◌, map, drop, Option, Some, None, Result, Ok, Err, codes}
use Rattle.sha2.specs.Sha512.{sha512}
use Rattle.saw_messages.specs.Reasons.{has_own_reason, invalid}
use Rattle.saw_messages.specs.declared.talk.Action.{Action}
use Rattle.saw_messages.specs.declared.talk.Action.TheVariants as actions
use Rattle.saw_messages.specs.declared.talk.Place.TheVariants.{At}
use Rattle.saw_messages.specs.declared.talk.Reply.{Reply}
use Rattle.saw_messages.specs.declared.talk.Reply.TheVariants.{Entries, Done}
use Rattle.saw_messages.specs.declared.talk.Turn.{Turn}
use Rattle.saw_intkey.specs.Payloads.{payload_of}
use Rattle.saw_intkey.specs.States.{Names, names_of, changed, kept_bytes}
use Rattle.saw_intkey.specs.declared.payload.Payload.{Payload}

abbrev pub family_name : List ℕ
family_name = codes "intkey"

abbrev pub family_version : List ℕ
family_version = codes "1.0"

-- `1cf126`, the first six hex digits of SHA-512 of the family's name, and then the last 32 bytes of SHA-512 of the name
unfoldable pub address_of : List ℕ → List ℕ
address_of name = 0x1c ∷ 0xf1 ∷ 0x26 ∷ drop 32 (sha512 name)

-- the request of the address of the payload's name
abbrev pub asked : Result Payload ℕ → Action
asked (Err number) = invalid number
asked (Ok payload) = actions.Get (At (address_of payload.name) ∷ [])

abbrev pub set_to : Payload → Result Names ℕ → Action
set_to payload (Err number) = invalid number
set_to payload (Ok names) = actions.Set (record { place = At (address_of payload.name); body = kept_bytes names } ∷ [])

-- 106: the bytes there are names; then 107 to 109
abbrev pub changed_in : Payload → Option Names → Action
changed_in payload None = invalid 106
changed_in payload (Some names) = set_to payload (changed payload names)

-- after the reply to the request of the address; a reply that gives no single entry is a refusal, 105
abbrev pub after_get : Payload → Reply → Action
after_get payload (Entries (body ∷ [])) = changed_in payload (names_of body)
after_get payload _ = invalid 105

abbrev pub changing : Result Payload ℕ → Reply → Action
changing (Err number) reply = invalid number
changing (Ok payload) reply = after_get payload reply

-- after the reply to the change
abbrev pub after_set : Reply → Action
after_set Done = actions.Ok
after_set _ = invalid 105

-- the next action, for any payload and any replies
abbrev pub next_after : List ℕ → List Reply → Action
next_after payload [] = asked (payload_of payload)
next_after payload (first ∷ []) = changing (payload_of payload) first
next_after payload (first ∷ second ∷ others) = after_set second

abbrev pub next : List ℕ → List Turn → Action
next payload turns = next_after payload (map (λ turn. turn.reply) turns)

-- the action depends on the payload and the replies alone
abbrev pub RepliesDecide : Type 0
RepliesDecide = (payload : List ℕ) (turns others : List Turn) → map (λ turn. turn.reply) turns ≡ map (λ turn. turn.reply) others → next payload turns ≡ next payload others

-- a refusal is by a number of the family, above 100
abbrev pub ReasonsAreOwn : Type 0
ReasonsAreOwn = (payload : List ℕ) (turns : List Turn) → has_own_reason (next payload turns) ≡ true
