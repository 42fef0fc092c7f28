-- Each refusal is by a number of the family.
use Rattle.std.proofs.Common.{◌≡◌, ℕ, true, ◌||◌, List, [], ◌∷◌, map, length, Result, Ok, Err, ◌==◌, refl}
use Rattle.std.specs.Prelude.{nat_lt, codes}
use Rattle.saw_wire.specs.Writing.{spelled}
use Rattle.saw_wire.specs.declared.fault.MessageFault.{MessageFault}
use Rattle.saw_messages.specs.Reasons.{has_own_reason, invalid}
use Rattle.saw_messages.specs.declared.talk.Action.{Action}
use Rattle.saw_messages.specs.declared.talk.Action.TheVariants as actions
use Rattle.saw_messages.specs.declared.outcome.Reason.TheVariants.{Family}
use Rattle.saw_messages.specs.declared.receipt.Event.{Event}
use Rattle.saw_messages.specs.declared.talk.Entry.{Entry}
use Rattle.saw_messages.specs.declared.talk.Place.{Place}
use Rattle.saw_messages.specs.declared.talk.Place.TheVariants.{At}
use Rattle.saw_messages.specs.declared.talk.Reply.{Reply}
use Rattle.saw_messages.specs.declared.talk.Turn.{Turn}
use Rattle.saw_settings.specs.Keys.{address_of, value_in}
use Rattle.saw_settings.specs.Messages.{setting}
use Rattle.saw_settings.specs.Requests.{done, update_of}
use Rattle.saw_settings.specs.declared.setting.Setting.{Setting}
use Rattle.saw_settings.proofs.Asked.{due_own, done_own, either_own, message_own, then_own}
use Rattle.saw_identity.specs.Actions.{act, act_by, allowed_keys, has_policy, is_sound, keep_named, keep_policy, keep_role, keep_under}
use Rattle.saw_identity.specs.Actions.{kept_at, kept_policy, kept_role, may_act, next, next_after, policy_kind, role_kind, with_policy, with_role, write}
use Rattle.saw_identity.specs.Addresses.{policy_address, role_address}
use Rattle.saw_identity.specs.Messages.{identity_payload, policies_pieces, policy, policy_list, role, role_list, roles_pieces}
use Rattle.saw_identity.specs.declared.payload.IdentityPayload.{IdentityPayload}
use Rattle.saw_identity.specs.declared.policy.Policy.{Policy}
use Rattle.saw_identity.specs.declared.policy.PolicyList.{PolicyList}
use Rattle.saw_identity.specs.declared.role.Role.{Role}

-- What is so of the requests that the family makes, of the end and of its refusals is so of each of its actions.
module _ (Q : Action → Type 0) (gets : (place : Place) → Q (actions.Get (place ∷ []))) (sets : (entry : Entry) → Q (actions.Set (entry ∷ [])))
    (tells : (event : Event) → Q (actions.AddEvent event)) (ends : Q actions.Ok)
    (refuses : (number : ℕ) → nat_lt 100 number ≡ true → Q (actions.Invalid (Family number))) where
  kept_own : {A : Type 0} (message : List ℕ → Result A MessageFault) (address : List ℕ) (replies : List Reply) → due_own Q (kept_at message address replies)
  kept_own message address replies = message_own Q 401 (refuses 401 refl) 402 message address replies (gets (At address)) (refuses 402 refl)

  write_own : (address name body : List ℕ) (replies : List Reply) → Q (write address name body replies)
  write_own address name body replies =
      let changed = actions.Set (record { place = At address; body = body } ∷ []) in
      let event = update_of (codes "identity/update") name in
      then_own Q (done 401 changed replies) _ (done_own Q 401 (refuses 401 refl) changed replies (sets _)) (λ set rest.
      then_own Q (done 401 (actions.AddEvent event) rest) _ (done_own Q 401 (refuses 401 refl) (actions.AddEvent event) rest (tells event)) (λ told behind. ends))

  -- ---- a policy

  kept_policy_own : (new : Policy) (replies : List Reply) → Q (kept_policy new replies)
  kept_policy_own new replies =
      let at = policy_address new.name in
      then_own Q (kept_at policy_list at replies) _ (kept_own policy_list at replies)
      (λ list rest. write_own at new.name (spelled (policies_pieces (with_policy new list))) rest)

  policy_own : (replies : List Reply) (read : Result Policy MessageFault) → Q (keep_policy replies read)
  policy_own replies (Err e) = refuses 406 refl
  policy_own replies (Ok new) = either_own Q (is_sound new) (kept_policy new replies) (invalid 407) (kept_policy_own new replies) (refuses 407 refl)

  -- ---- a role

  kept_role_own : (new : Role) (replies : List Reply) → Q (kept_role new replies)
  kept_role_own new replies =
      let at = role_address new.name in
      then_own Q (kept_at role_list at replies) _ (kept_own role_list at replies)
      (λ list rest. write_own at new.name (spelled (roles_pieces (with_role new list))) rest)

  under_own : (new : Role) (policies : PolicyList) (replies : List Reply) → Q (keep_under new policies replies)
  under_own new policies replies =
      either_own Q (has_policy new.policy_name policies) (kept_role new replies) (invalid 410) (kept_role_own new replies) (refuses 410 refl)

  named_own : (new : Role) (replies : List Reply) → Q (keep_named new replies)
  named_own new replies =
      let at = policy_address new.policy_name in
      either_own Q ((length new.name == 0) || (length new.policy_name == 0)) (invalid 409) _ (refuses 409 refl)
      (then_own Q (kept_at policy_list at replies) _ (kept_own policy_list at replies) (under_own new))

  role_own : (replies : List Reply) (read : Result Role MessageFault) → Q (keep_role replies read)
  role_own replies (Err e) = refuses 408 refl
  role_own replies (Ok new) = named_own new replies

  -- ---- both

  act_by_own : (replies : List Reply) (read : Result IdentityPayload MessageFault) → Q (act_by replies read)
  act_by_own replies (Err e) = refuses 404 refl
  act_by_own replies (Ok payload) =
      either_own Q (payload.kind == policy_kind) (keep_policy replies (policy payload.body)) _ (policy_own replies (policy payload.body))
      (either_own Q (payload.kind == role_kind) (keep_role replies (role payload.body)) (invalid 405) (role_own replies (role payload.body)) (refuses 405 refl))

  act_own : (signer payload : List ℕ) (kept : Setting) (replies : List Reply) → Q (act signer payload kept replies)
  act_own signer payload kept replies =
      either_own Q (may_act signer (value_in allowed_keys kept.entries)) (act_by replies (identity_payload payload)) (invalid 403)
      (act_by_own replies (identity_payload payload)) (refuses 403 refl)

  after_own : (signer payload : List ℕ) (replies : List Reply) → Q (next_after signer payload replies)
  unfolding next_after
  after_own signer payload replies =
      then_own Q (kept_at setting (address_of allowed_keys) replies) _ (kept_own setting (address_of allowed_keys) replies) (act_own signer payload)

  pub each_action : (signer payload : List ℕ) (turns : List Turn) → Q (next signer payload turns)
  each_action signer payload turns = after_own signer payload (map (λ turn. turn.reply) turns)

pub next_own : (signer payload : List ℕ) (turns : List Turn) → has_own_reason (next signer payload turns) ≡ true
next_own = each_action (λ action. has_own_reason action ≡ true) (λ place. refl) (λ entry. refl) (λ event. refl) refl (λ number own. own)
