-- Each refusal is by a number of the family.
use Rattle.std.proofs.Common.{◌≡◌, ℕ, Bool, true, false, cond, not, ◌||◌, List, [], ◌∷◌, map, Option, Some, None, Result, Ok, Err, ◌==◌, codes, refl}
use Rattle.std.specs.Prelude.{nat_lt}
use Rattle.std.specs.FinMap as finite
use Rattle.std.specs.Str.{bytes_eq, is_utf8}
use Rattle.saw_messages.specs.Reasons.{has_own_reason}
use Rattle.saw_messages.specs.declared.talk.Action.{Action}
use Rattle.saw_messages.specs.declared.talk.Reply.{Reply}
use Rattle.saw_messages.specs.declared.talk.Reply.TheVariants.{Entries, Done, Unauthorized}
use Rattle.saw_messages.specs.declared.talk.Turn.{Turn}
use Rattle.saw_xo.specs.Actions.{asked, set_to, changed_in, after_get, changing, after_change, next_after, next}
use Rattle.saw_xo.specs.Games.{Games, games_of}
use Rattle.saw_xo.specs.Moves.{after_move, changed, changed_by, is_free, is_mark, key_of, mark_at, mover, taken, taken_by, with_game}
use Rattle.saw_xo.specs.Payloads.{act_in, is_name, parts_of, payload_by, payload_in, payload_of, place_in, take_at, with_act}
use Rattle.saw_xo.specs.declared.game.Game.{Game}
use Rattle.saw_xo.specs.declared.game.Mark.TheVariants.{Empty}
use Rattle.saw_xo.specs.declared.game.Player.{Player}
use Rattle.saw_xo.specs.declared.payload.Act.{Act}
use Rattle.saw_xo.specs.declared.payload.Act.TheVariants.{Create, Take, Delete}
use Rattle.saw_xo.specs.declared.payload.Payload.{Payload}

-- an error's number is the family's
abbrev has_own_number : {A : Type 0} → Result A ℕ → Bool
has_own_number (Ok x) = true
has_own_number (Err number) = nat_lt 100 number

-- either of two results
either_own : {A : Type 0} (test : Bool) (x y : Result A ℕ) → has_own_number x ≡ true → has_own_number y ≡ true → has_own_number (cond test x y) ≡ true
either_own true x y own other = own
either_own false x y own other = other

-- ---- the payload

take_own : (place : Option ℕ) → has_own_number (take_at place) ≡ true
take_own None = refl
take_own (Some place) = refl

act_own : (action space : List ℕ) → has_own_number (act_in action space) ≡ true
act_own action space =
    let deleted : Result Act ℕ = cond (bytes_eq action (codes "delete")) (Ok Delete) (Err 203) in
    let taken : Result Act ℕ = cond (bytes_eq action (codes "take")) (take_at (place_in space)) deleted in
    either_own (bytes_eq action (codes "create")) (Ok Create) taken refl
    (either_own (bytes_eq action (codes "take")) (take_at (place_in space)) deleted (take_own (place_in space))
    (either_own (bytes_eq action (codes "delete")) (Ok Delete) (Err 203) refl refl))

with_act_own : (name : List ℕ) (made : Result Act ℕ) → has_own_number made ≡ true → has_own_number (with_act name made) ≡ true
with_act_own name (Ok act) own = refl
with_act_own name (Err number) own = own

payload_in_own : (name action space : List ℕ) → has_own_number (payload_in name action space) ≡ true
payload_in_own name action space = either_own (not (is_name name)) _ _ refl (with_act_own name (act_in action space) (act_own action space))

payload_by_own : (parts : List (List ℕ)) → has_own_number (payload_by parts) ≡ true
payload_by_own [] = refl
payload_by_own (name ∷ []) = refl
payload_by_own (name ∷ action ∷ []) = refl
payload_by_own (name ∷ action ∷ space ∷ []) = payload_in_own name action space
payload_by_own (name ∷ action ∷ space ∷ fourth ∷ rest) = refl

payload_own : (whole : List ℕ) → has_own_number (payload_of whole) ≡ true
unfolding payload_of
payload_own whole = either_own (not (is_utf8 whole)) _ _ refl (payload_by_own (parts_of 44 whole))

-- ---- the change

taken_by_own : (signer : List ℕ) (place : ℕ) (game : Game) (player : Option Player) → has_own_number (taken_by signer place game player) ≡ true
taken_by_own signer place game None = refl
taken_by_own signer place game (Some player) =
    let moved : Result Game ℕ = cond (not (is_mark Empty (mark_at game.board place))) (Err 211) (Ok (after_move signer player place game)) in
    either_own (not (is_free (key_of player game) || bytes_eq (key_of player game) signer)) (Err 210) moved refl
    (either_own (not (is_mark Empty (mark_at game.board place))) (Err 211) (Ok (after_move signer player place game)) refl refl)

taken_own : (signer : List ℕ) (place : ℕ) (game : Game) → has_own_number (taken signer place game) ≡ true
unfolding taken
taken_own signer place game = taken_by_own signer place game (mover game.standing)

with_game_own : (games : Games) (name : List ℕ) (made : Result Game ℕ) → has_own_number made ≡ true → has_own_number (with_game games name made) ≡ true
with_game_own games name (Ok game) own = refl
with_game_own games name (Err number) own = own

changed_by_own : (signer : List ℕ) (games : Games) (name : List ℕ) (act : Act) (kept : Option Game)
    → has_own_number (changed_by signer games name act kept) ≡ true
changed_by_own signer games name Create None = refl
changed_by_own signer games name Create (Some game) = refl
changed_by_own signer games name (Take place) None = refl
changed_by_own signer games name (Take place) (Some game) = with_game_own games name (taken signer place game) (taken_own signer place game)
changed_by_own signer games name Delete None = refl
changed_by_own signer games name Delete (Some game) = refl

changed_own : (signer : List ℕ) (payload : Payload) (games : Games) → has_own_number (changed signer payload games) ≡ true
unfolding changed
changed_own signer payload games = changed_by_own signer games payload.name payload.act (finite.get games payload.name)

-- ---- the actions

asked_own : (read : Result Payload ℕ) → has_own_number read ≡ true → has_own_reason (asked read) ≡ true
asked_own (Ok payload) own = refl
asked_own (Err number) own = own

either_request : (test : Bool) (x y : Action) → has_own_reason x ≡ true → has_own_reason y ≡ true → has_own_reason (cond test x y) ≡ true
either_request true x y own other = own
either_request false x y own other = other

set_own : (payload : Payload) (made : Result Games ℕ) → has_own_number made ≡ true → has_own_reason (set_to payload made) ≡ true
set_own payload (Ok games) own = either_request (finite.len games == 0) _ _ refl refl
set_own payload (Err number) own = own

in_own : (signer : List ℕ) (payload : Payload) (games : Option Games) → has_own_reason (changed_in signer payload games) ≡ true
in_own signer payload None = refl
in_own signer payload (Some games) = set_own payload (changed signer payload games) (changed_own signer payload games)

get_own : (signer : List ℕ) (payload : Payload) (reply : Reply) → has_own_reason (after_get signer payload reply) ≡ true
get_own signer payload (Entries []) = refl
get_own signer payload (Entries (body ∷ [])) = in_own signer payload (games_of body)
get_own signer payload (Entries (body ∷ second ∷ others)) = refl
get_own signer payload Done = refl
get_own signer payload (Unauthorized index) = refl

changing_own : (signer : List ℕ) (read : Result Payload ℕ) (reply : Reply) → has_own_number read ≡ true → has_own_reason (changing signer read reply) ≡ true
changing_own signer (Ok payload) reply own = get_own signer payload reply
changing_own signer (Err number) reply own = own

change_own : (reply : Reply) → has_own_reason (after_change reply) ≡ true
change_own (Entries bodies) = refl
change_own Done = refl
change_own (Unauthorized index) = refl

after_own : (signer payload : List ℕ) (replies : List Reply) → has_own_reason (next_after signer payload replies) ≡ true
after_own signer payload [] = asked_own (payload_of payload) (payload_own payload)
after_own signer payload (first ∷ []) = changing_own signer (payload_of payload) first (payload_own payload)
after_own signer payload (first ∷ second ∷ others) = change_own second

pub next_own : (signer payload : List ℕ) (turns : List Turn) → has_own_reason (next signer payload turns) ≡ true
next_own signer payload turns = after_own signer payload (map (λ turn. turn.reply) turns)
