-- Each refusal is by a number of the family.
use Rattle.std.proofs.Common.{◌≡◌, ℕ, Bool, true, false, cond, List, [], ◌∷◌, map, Option, Some, None, Result, Ok, Err, refl}
use Rattle.std.specs.Prelude.{nat_lt}
use Rattle.saw_cbor.specs.Data.{Pairs}
use Rattle.saw_cbor.specs.Reading.{reading}
use Rattle.saw_messages.specs.Reasons.{has_own_reason}
use Rattle.saw_messages.specs.declared.talk.Reply.{Reply}
use Rattle.saw_messages.specs.declared.talk.Reply.TheVariants.{Entries, Done, Unauthorized}
use Rattle.saw_messages.specs.declared.talk.Turn.{Turn}
use Rattle.saw_intkey.specs.Actions.{asked, set_to, changed_in, after_get, changing, after_set, next_after, next}
use Rattle.saw_intkey.specs.Payloads.{with_value, with_name, with_verb, value_of, name_of, verb_of, pairs_in, payload_in, payload_by, payload_of, max_depth}
use Rattle.saw_intkey.specs.States.{Names, names_of, new_value, changed_by, changed, value_at}
use Rattle.saw_intkey.specs.declared.payload.Payload.{Payload}
use Rattle.saw_intkey.specs.declared.payload.Verb.{Verb}
use Rattle.saw_intkey.specs.declared.payload.Verb.TheVariants.{Set, Inc, Dec}

-- an error's number is the family's
abbrev has_own_number : {A : Type 0} → Result A ℕ → Bool
has_own_number (Ok x) = true
has_own_number (Err number) = nat_lt 100 number

either_own : {A : Type 0} (test : Bool) (x : A) (number : ℕ) → nat_lt 100 number ≡ true → has_own_number (cond test (Ok x) (Err number)) ≡ true
either_own true x number own = refl
either_own false x number own = own

-- ---- the payload

value_own : (verb : Verb) (name : List ℕ) (value : Option ℕ) → has_own_number (with_value verb name value) ≡ true
value_own verb name None = refl
value_own verb name (Some value) = refl

name_own : (verb : Verb) (name : Option (List ℕ)) (ps : Pairs) → has_own_number (with_name verb name ps) ≡ true
name_own verb None ps = refl
name_own verb (Some name) ps = value_own verb name (value_of ps)

verb_own : (verb : Option Verb) (ps : Pairs) → has_own_number (with_verb verb ps) ≡ true
verb_own None ps = refl
verb_own (Some verb) ps = name_own verb (name_of ps) ps

pairs_own : (found : Option Pairs) → has_own_number (payload_by found) ≡ true
unfolding payload_in
pairs_own None = refl
pairs_own (Some ps) = verb_own (verb_of ps) ps

payload_own : (whole : List ℕ) → has_own_number (payload_of whole) ≡ true
unfolding payload_of
payload_own whole = pairs_own (pairs_in (reading max_depth whole))

-- ---- the change

new_own : (verb : Verb) (value : ℕ) (kept : Option ℕ) → has_own_number (new_value verb value kept) ≡ true
new_own Set value None = refl
new_own Set value (Some kept) = refl
new_own Inc value None = refl
new_own Inc value (Some kept) = either_own _ _ 109 refl
new_own Dec value None = refl
new_own Dec value (Some kept) = either_own _ _ 109 refl

by_own : (name : List ℕ) (names : Names) (made : Result ℕ ℕ) → has_own_number made ≡ true → has_own_number (changed_by name names made) ≡ true
by_own name names (Ok value) own = refl
by_own name names (Err number) own = own

changed_own : (payload : Payload) (names : Names) → has_own_number (changed payload names) ≡ true
unfolding changed
changed_own payload names = by_own payload.name names (new_value payload.verb payload.value (value_at payload.name names))
    (new_own payload.verb payload.value (value_at payload.name names))

-- ---- the actions

asked_own : (read : Result Payload ℕ) → has_own_number read ≡ true → has_own_reason (asked read) ≡ true
asked_own (Ok payload) own = refl
asked_own (Err number) own = own

set_own : (payload : Payload) (made : Result Names ℕ) → has_own_number made ≡ true → has_own_reason (set_to payload made) ≡ true
set_own payload (Ok names) own = refl
set_own payload (Err number) own = own

in_own : (payload : Payload) (names : Option Names) → has_own_reason (changed_in payload names) ≡ true
in_own payload None = refl
in_own payload (Some names) = set_own payload (changed payload names) (changed_own payload names)

get_own : (payload : Payload) (reply : Reply) → has_own_reason (after_get payload reply) ≡ true
get_own payload (Entries []) = refl
get_own payload (Entries (body ∷ [])) = in_own payload (names_of body)
get_own payload (Entries (body ∷ second ∷ others)) = refl
get_own payload Done = refl
get_own payload (Unauthorized index) = refl

changing_own : (read : Result Payload ℕ) (reply : Reply) → has_own_number read ≡ true → has_own_reason (changing read reply) ≡ true
changing_own (Ok payload) reply own = get_own payload reply
changing_own (Err number) reply own = own

set_after_own : (reply : Reply) → has_own_reason (after_set reply) ≡ true
set_after_own (Entries bodies) = refl
set_after_own Done = refl
set_after_own (Unauthorized index) = refl

after_own : (payload : List ℕ) (replies : List Reply) → has_own_reason (next_after payload replies) ≡ true
after_own payload [] = asked_own (payload_of payload) (payload_own payload)
after_own payload (first ∷ []) = changing_own (payload_of payload) first (payload_own payload)
after_own payload (first ∷ second ∷ others) = set_after_own second

pub next_own : (payload : List ℕ) (turns : List Turn) → has_own_reason (next payload turns) ≡ true
next_own payload turns = after_own payload (map (λ turn. turn.reply) turns)
