-- The next action of the identity family, version 1.0, by the signer, the payload and the replies so far.
use Rattle.std.specs.Prelude.{◌≡◌, ℕ, Bool, true, false, ◌||◌, ◌&&◌, not, List, [], ◌∷◌, ◌++◌, map, length, position, slice_set, Option, Some, None, Result, Ok, Err, ◌==◌, if◌then◌else◌, codes}
use Rattle.std.specs.List.{list_all, list_any, slice_split}
use Rattle.std.specs.Str.{bytes_eq}
use Rattle.saw_address.specs.Texts.{is_hex_text}
use Rattle.saw_messages.specs.Reasons.{has_own_reason, invalid}
use Rattle.saw_messages.specs.declared.talk.Action.{Action}
use Rattle.saw_messages.specs.declared.talk.Action.TheVariants as actions
use Rattle.saw_messages.specs.declared.talk.Place.TheVariants.{At}
use Rattle.saw_messages.specs.declared.talk.Reply.{Reply}
use Rattle.saw_messages.specs.declared.talk.Turn.{Turn}
use Rattle.saw_settings.specs.Keys.{address_of, value_in}
use Rattle.saw_settings.specs.Messages.{setting}
use Rattle.saw_settings.specs.Requests.{Told, done, message_at, then_do, update_of}
use Rattle.saw_settings.specs.Values.{trimmed}
use Rattle.saw_settings.specs.declared.setting.Setting.{Setting}
use Rattle.saw_wire.specs.Writing.{spelled}
use Rattle.saw_wire.specs.declared.fault.MessageFault.{MessageFault}
use Rattle.saw_identity.specs.Addresses.{policy_address, role_address}
use Rattle.saw_identity.specs.Messages.{identity_payload, policies_pieces, policy, policy_list, role, role_list, roles_pieces}
use Rattle.saw_identity.specs.declared.payload.IdentityPayload.{IdentityPayload}
use Rattle.saw_identity.specs.declared.policy.Entry.{Entry}
use Rattle.saw_identity.specs.declared.policy.Policy.{Policy}
use Rattle.saw_identity.specs.declared.policy.PolicyList.{PolicyList}
use Rattle.saw_identity.specs.declared.role.Role.{Role}
use Rattle.saw_identity.specs.declared.role.RoleList.{RoleList}

abbrev pub family_name : List ℕ
family_name = codes "sawtooth_identity"

abbrev pub family_version : List ℕ
family_version = codes "1.0"

-- the setting that says who may change policies and roles
abbrev pub allowed_keys : List ℕ
allowed_keys = codes "sawtooth.identity.allowed_keys"

-- what a payload sets, and what an entry does
abbrev pub policy_kind : ℕ
policy_kind = 1

abbrev pub role_kind : ℕ
role_kind = 2

abbrev pub permit : ℕ
permit = 1

abbrev pub deny : ℕ
deny = 2

-- ---- requests: 401 one is refused, 402 what is kept cannot be read

-- what is kept at an address, read as a message
abbrev pub kept_at : {A : Type 0} → (List ℕ → Result A MessageFault) → List ℕ → List Reply → Told A
kept_at message address replies = message_at 401 402 message address replies

-- ---- who may act

-- one of the parts between commas, without the spaces at their ends
abbrev pub is_among : List ℕ → List ℕ → Bool
is_among signer value = list_any (λ part. bytes_eq (trimmed part) signer) (slice_split (λ b. b == 44) value)

-- without a value nobody may
abbrev pub may_act : List ℕ → Option (List ℕ) → Bool
may_act signer None = false
may_act signer (Some value) = is_among signer value

-- ---- an item takes the place of the first of its name, or is put at the end

abbrev pub put_at : {A : Type 0} → A → List A → Option ℕ → List A
put_at new items (Some place) = slice_set items place new
put_at new items None = items ++ new ∷ []

abbrev pub put : {A : Type 0} → (A → List ℕ) → A → List A → List A
put name new items = put_at new items (position (λ item. bytes_eq (name item) (name new)) items)

-- it is set, and an event tells of it
abbrev pub write : List ℕ → List ℕ → List ℕ → List Reply → Action
write address name body replies =
    then_do (done 401 (actions.Set (record { place = At address; body = body } ∷ [])) replies)
    (λ set rest. then_do (done 401 (actions.AddEvent (update_of (codes "identity/update") name)) rest) (λ told behind. actions.Ok))

-- ---- a policy

abbrev pub is_key : List ℕ → Bool
is_key key = bytes_eq key (codes "*") || is_hex_text 66 key

abbrev pub is_sound_entry : Entry → Bool
is_sound_entry entry = (entry.kind == permit || entry.kind == deny) && is_key entry.key

abbrev pub is_sound : Policy → Bool
is_sound new = not (length new.name == 0) && (not (length new.entries == 0) && list_all is_sound_entry new.entries)

abbrev pub with_policy : Policy → PolicyList → PolicyList
with_policy new list = record { policies = put (λ policy. policy.name) new list.policies }

-- it is put into the list that is kept where it belongs
abbrev pub kept_policy : Policy → List Reply → Action
kept_policy new replies =
    then_do (kept_at policy_list (policy_address new.name) replies)
    (λ list rest. write (policy_address new.name) new.name (spelled (policies_pieces (with_policy new list))) rest)

-- 406 the body is a policy, 407 with a name and sound entries
abbrev pub keep_policy : List Reply → Result Policy MessageFault → Action
keep_policy replies (Err e) = invalid 406
keep_policy replies (Ok new) = if is_sound new then kept_policy new replies else invalid 407

-- ---- a role

abbrev pub has_policy : List ℕ → PolicyList → Bool
has_policy name list = list_any (λ policy. bytes_eq policy.name name) list.policies

abbrev pub with_role : Role → RoleList → RoleList
with_role new list = record { roles = put (λ role. role.name) new list.roles }

-- it is put into the list that is kept where it belongs
abbrev pub kept_role : Role → List Reply → Action
kept_role new replies =
    then_do (kept_at role_list (role_address new.name) replies)
    (λ list rest. write (role_address new.name) new.name (spelled (roles_pieces (with_role new list))) rest)

-- 410 the policy is there
abbrev pub keep_under : Role → PolicyList → List Reply → Action
keep_under new policies replies = if has_policy new.policy_name policies then kept_role new replies else invalid 410

-- 409 both names are there
abbrev pub keep_named : Role → List Reply → Action
keep_named new replies =
    if length new.name == 0 || length new.policy_name == 0 then invalid 409
    else then_do (kept_at policy_list (policy_address new.policy_name) replies) (keep_under new)

-- 408 the body is a role
abbrev pub keep_role : List Reply → Result Role MessageFault → Action
keep_role replies (Err e) = invalid 408
keep_role replies (Ok new) = keep_named new replies

-- ---- both

-- 404 the payload is one, 405 of a policy or a role
abbrev pub act_by : List Reply → Result IdentityPayload MessageFault → Action
act_by replies (Err e) = invalid 404
act_by replies (Ok payload) =
    if payload.kind == policy_kind then keep_policy replies (policy payload.body)
    else if payload.kind == role_kind then keep_role replies (role payload.body)
    else invalid 405

-- 403 the signer is allowed
abbrev pub act : List ℕ → List ℕ → Setting → List Reply → Action
act signer payload kept replies =
    if may_act signer (value_in allowed_keys kept.entries) then act_by replies (identity_payload payload)
    else invalid 403

-- the next action, for any signer, any payload and any replies
unfoldable pub next_after : List ℕ → List ℕ → List Reply → Action
next_after signer payload replies = then_do (kept_at setting (address_of allowed_keys) replies) (act signer payload)

abbrev pub next : List ℕ → List ℕ → List Turn → Action
next signer payload turns = next_after signer payload (map (λ turn. turn.reply) turns)

-- the action depends on the signer, the payload and the replies alone
abbrev pub RepliesDecide : Type 0
RepliesDecide = (signer payload : List ℕ) (turns others : List Turn) → map (λ turn. turn.reply) turns ≡ map (λ turn. turn.reply) others → next signer payload turns ≡ next signer payload others

-- each refusal is by a number of the family
abbrev pub ReasonsAreOwn : Type 0
ReasonsAreOwn = (signer payload : List ℕ) (turns : List Turn) → has_own_reason (next signer payload turns) ≡ true
