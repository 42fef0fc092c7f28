-- Each refusal is by a number of the family.
use Rattle.std.proofs.Common.{◌≡◌, ℕ, Bool, true, false, cond, not, ◌&&◌, ◌||◌, List, [], ◌∷◌, ◌++◌, map, length, slice_set, Option, Some, None}
use Rattle.std.proofs.Common.{Result, Ok, Err, ◌==◌, refl}
use Rattle.std.specs.Prelude.{nat_le, nat_lt}
use Rattle.std.specs.List.{list_any, remove}
use Rattle.std.specs.Str.{bytes_eq}
use Rattle.saw_wire.specs.declared.fault.MessageFault.{MessageFault}
use Rattle.saw_messages.specs.Reasons.{has_own_reason, invalid}
use Rattle.saw_messages.specs.declared.talk.Action.{Action}
use Rattle.saw_messages.specs.declared.talk.Action.TheVariants as actions
use Rattle.saw_messages.specs.declared.outcome.Reason.TheVariants.{Family}
use Rattle.saw_messages.specs.declared.receipt.Event.{Event}
use Rattle.saw_messages.specs.declared.talk.Entry.{Entry}
use Rattle.saw_messages.specs.declared.talk.Place.{Place}
use Rattle.saw_messages.specs.declared.talk.Place.TheVariants.{At}
use Rattle.saw_messages.specs.declared.talk.Reply.{Reply}
use Rattle.saw_messages.specs.declared.talk.Reply.TheVariants.{Entries, Done, Unauthorized}
use Rattle.saw_messages.specs.declared.talk.Turn.{Turn}
use Rattle.saw_settings.specs.Actions.{accept_number, act, act_by, add_to, cast_vote, count_up, count_votes, decide, found_in, has_id, has_key}
use Rattle.saw_settings.specs.Actions.{has_none, has_voted, id_of, is_reachable, new_candidate, next, next_after, propose, propose_by, propose_number}
use Rattle.saw_settings.specs.Actions.{propose_under, proposal_fault, put_to_vote, reject_number, vote_among, vote_by, vote_for, vote_number}
use Rattle.saw_settings.specs.Actions.{vote_under, with_vote, write}
use Rattle.saw_settings.specs.Keys.{address_of, approval_threshold, authorized_keys, proposals, with_value}
use Rattle.saw_settings.specs.Messages.{setting, setting_proposal, setting_vote, settings_payload}
use Rattle.saw_settings.specs.Replies.{change_of, set_to, setting_at, value_at, written_to}
use Rattle.saw_settings.specs.Requests.{Goes, done}
use Rattle.saw_settings.specs.Values.{candidates_of_value, kept_text, keys_in, keys_of, number_in, threshold_of}
use Rattle.saw_settings.specs.declared.candidate.SettingCandidate.{SettingCandidate}
use Rattle.saw_settings.specs.declared.payload.SettingProposal.{SettingProposal}
use Rattle.saw_settings.specs.declared.payload.SettingVote.{SettingVote}
use Rattle.saw_settings.specs.declared.payload.SettingsPayload.{SettingsPayload}
use Rattle.saw_settings.proofs.Asked.{and_own, done_own, due_own, either_own, either_told, message_own, then_own}

-- What is so of the requests that the family makes, of the end and of its refusals is so of each of its actions.
module _ (Q : Action → Type 0) (gets : (place : Place) → Q (actions.Get (place ∷ []))) (sets : (entry : Entry) → Q (actions.Set (entry ∷ [])))
    (tells : (event : Event) → Q (actions.AddEvent event)) (ends : Q actions.Ok)
    (refuses : (number : ℕ) → nat_lt 100 number ≡ true → Q (actions.Invalid (Family number))) where
  -- ---- one setting

  setting_own : (key : List ℕ) (replies : List Reply) → due_own Q (setting_at key replies)
  setting_own key replies =
      message_own Q 301 (refuses 301 refl) 302 setting (address_of key) replies (gets (At (address_of key))) (refuses 302 refl)

  value_own : (key : List ℕ) (replies : List Reply) → due_own Q (value_at key replies)
  unfolding value_at
  value_own key replies = and_own Q (setting_at key replies) _ (setting_own key replies) (λ kept rest. tt)

  done_is_own : (action : Action) (replies : List Reply) → Q action → due_own Q (done 301 action replies)
  done_is_own = done_own Q 301 (refuses 301 refl)

  written_own : (key value : List ℕ) (replies : List Reply) → due_own Q (written_to key value replies)
  unfolding written_to
  written_own key value replies =
      and_own Q (setting_at key replies) _ (setting_own key replies) (λ kept rest.
      and_own Q (done 301 (set_to key (with_value key value kept.entries)) rest) _ (done_is_own (set_to key (with_value key value kept.entries)) rest (sets _))
      (λ nothing behind. either_told Q (bytes_eq key proposals) (Goes tt behind) (done 301 (actions.AddEvent (change_of key)) behind) tt
      (done_is_own (actions.AddEvent (change_of key)) behind (tells (change_of key)))))

  write_own : (key value : List ℕ) (replies : List Reply) → Q (write key value replies)
  write_own key value replies = then_own Q (written_to key value replies) _ (written_own key value replies) (λ nothing rest. ends)

  -- ---- a proposal

  add_own : (signer id : List ℕ) (proposal : SettingProposal) (replies : List Reply) (kept : Option (List SettingCandidate))
      → Q (add_to signer id proposal replies kept)
  add_own signer id proposal replies None = refuses 302 refl
  add_own signer id proposal replies (Some candidates) =
      let more = kept_text (candidates ++ new_candidate signer id proposal ∷ []) in
      either_own Q (list_any (has_id id) candidates) (invalid 311) (write proposals more replies) (refuses 311 refl) (write_own proposals more replies)

  put_own : (signer id : List ℕ) (proposal : SettingProposal) (replies : List Reply) → Q (put_to_vote signer id proposal replies)
  put_own signer id proposal replies = then_own Q (value_at proposals replies) _ (value_own proposals replies)
      (λ value rest. add_own signer id proposal rest (candidates_of_value value))

  -- a fault's number is the family's
  abbrev fault_own : Option ℕ → Bool
  fault_own None = true
  fault_own (Some number) = nat_lt 100 number

  either_fault : (test : Bool) (x y : Option ℕ) → fault_own x ≡ true → fault_own y ≡ true → fault_own (cond test x y) ≡ true
  either_fault true x y own other = own
  either_fault false x y own other = other

  proposal_own : (keys : List (List ℕ)) (proposal : SettingProposal) → fault_own (proposal_fault keys proposal) ≡ true
  proposal_own keys proposal =
      either_fault (has_none keys && not (bytes_eq proposal.setting authorized_keys)) _ _ refl
      (either_fault (bytes_eq proposal.setting authorized_keys && has_none (keys_in proposal.value)) _ _ refl
      (either_fault (bytes_eq proposal.setting approval_threshold && not (is_reachable (length keys) (number_in proposal.value))) _ _ refl
      (either_fault (bytes_eq proposal.setting proposals) _ _ refl refl)))

  decide_own : (signer id : List ℕ) (proposal : SettingProposal) (threshold : ℕ) (replies : List Reply) (fault : Option ℕ) → fault_own fault ≡ true
      → Q (decide signer id proposal threshold replies fault)
  decide_own signer id proposal threshold replies (Some number) own = refuses number own
  decide_own signer id proposal threshold replies None own =
      either_own Q (nat_le threshold 1) (write proposal.setting proposal.value replies) (put_to_vote signer id proposal replies)
      (write_own proposal.setting proposal.value replies) (put_own signer id proposal replies)

  under_own : (keys : List (List ℕ)) (signer id : List ℕ) (proposal : SettingProposal) (replies : List Reply) (threshold : Option ℕ)
      → Q (propose_under keys signer id proposal replies threshold)
  under_own keys signer id proposal replies None = refuses 302 refl
  under_own keys signer id proposal replies (Some threshold) =
      decide_own signer id proposal threshold replies (proposal_fault keys proposal) (proposal_own keys proposal)

  propose_by_own : (keys : List (List ℕ)) (signer id : List ℕ) (replies : List Reply) (read : Result SettingProposal MessageFault)
      → Q (propose_by keys signer id replies read)
  propose_by_own keys signer id replies (Err e) = refuses 306 refl
  propose_by_own keys signer id replies (Ok proposal) =
      then_own Q (value_at approval_threshold replies) _ (value_own approval_threshold replies)
      (λ value rest. under_own keys signer id proposal rest (threshold_of value))

  propose_own : (keys : List (List ℕ)) (signer body : List ℕ) (replies : List Reply) → Q (propose keys signer body replies)
  unfolding propose
  propose_own keys signer body replies = propose_by_own keys signer (id_of body) replies (setting_proposal body)

  -- ---- a vote

  count_own : (keys : List (List ℕ)) (threshold : ℕ) (candidates : List SettingCandidate) (place : ℕ) (voted : SettingCandidate)
      (replies : List Reply) → Q (count_up keys threshold candidates place voted replies)
  count_own keys threshold candidates place voted replies =
      let fewer = kept_text (remove candidates place) in
      let same = kept_text (slice_set candidates place voted) in
      either_own Q (nat_le threshold (count_votes accept_number voted.votes)) _ _
      (then_own Q (written_to voted.proposal.setting voted.proposal.value replies) _ (written_own voted.proposal.setting voted.proposal.value replies)
      (λ nothing rest. write_own proposals fewer rest))
      (either_own Q (nat_le threshold (count_votes reject_number voted.votes) || (length voted.votes == length keys)) (write proposals fewer replies)
      (write proposals same replies)
      (write_own proposals fewer replies) (write_own proposals same replies))

  vote_under_own : (keys : List (List ℕ)) (signer : List ℕ) (vote : ℕ) (candidates : List SettingCandidate) (place : ℕ) (candidate : SettingCandidate)
      (replies : List Reply) (threshold : Option ℕ) → Q (vote_under keys signer vote candidates place candidate replies threshold)
  vote_under_own keys signer vote candidates place candidate replies None = refuses 302 refl
  vote_under_own keys signer vote candidates place candidate replies (Some threshold) =
      either_own Q (has_voted signer candidate) (invalid 314) (count_up keys threshold candidates place (with_vote signer vote candidate) replies)
      (refuses 314 refl) (count_own keys threshold candidates place (with_vote signer vote candidate) replies)

  vote_for_own : (keys : List (List ℕ)) (signer : List ℕ) (vote : ℕ) (candidates : List SettingCandidate) (replies : List Reply)
      (found : Option (ℕ × SettingCandidate)) → Q (vote_for keys signer vote candidates replies found)
  vote_for_own keys signer vote candidates replies None = refuses 313 refl
  vote_for_own keys signer vote candidates replies (Some found) =
      then_own Q (value_at approval_threshold replies) _ (value_own approval_threshold replies)
      (λ value rest. vote_under_own keys signer vote candidates found.0 found.1 rest (threshold_of value))

  among_own : (keys : List (List ℕ)) (signer id : List ℕ) (vote : ℕ) (replies : List Reply) (kept : Option (List SettingCandidate))
      → Q (vote_among keys signer id vote replies kept)
  among_own keys signer id vote replies None = refuses 302 refl
  among_own keys signer id vote replies (Some candidates) = vote_for_own keys signer vote candidates replies (found_in (has_id id) 0 candidates)

  vote_by_own : (keys : List (List ℕ)) (signer : List ℕ) (replies : List Reply) (read : Result SettingVote MessageFault) → Q (vote_by keys signer replies read)
  vote_by_own keys signer replies (Err e) = refuses 306 refl
  vote_by_own keys signer replies (Ok one) =
      either_own Q (not ((one.vote == accept_number) || (one.vote == reject_number))) (invalid 312) _ (refuses 312 refl)
      (then_own Q (value_at proposals replies) _ (value_own proposals replies)
      (λ value rest. among_own keys signer one.proposal_id one.vote rest (candidates_of_value value)))

  cast_own : (keys : List (List ℕ)) (signer body : List ℕ) (replies : List Reply) → Q (cast_vote keys signer body replies)
  unfolding cast_vote
  cast_own keys signer body replies = vote_by_own keys signer replies (setting_vote body)

  -- ---- both

  act_by_own : (keys : List (List ℕ)) (signer : List ℕ) (replies : List Reply) (read : Result SettingsPayload MessageFault)
      → Q (act_by keys signer replies read)
  act_by_own keys signer replies (Err e) = refuses 304 refl
  act_by_own keys signer replies (Ok payload) =
      either_own Q (payload.action == propose_number) (propose keys signer payload.body replies) _ (propose_own keys signer payload.body replies)
      (either_own Q (payload.action == vote_number) (cast_vote keys signer payload.body replies) (invalid 305)
      (cast_own keys signer payload.body replies) (refuses 305 refl))

  act_own : (keys : List (List ℕ)) (signer payload : List ℕ) (replies : List Reply) → Q (act keys signer payload replies)
  act_own keys signer payload replies =
      either_own Q (not (has_none keys || has_key signer keys)) (invalid 303) (act_by keys signer replies (settings_payload payload)) (refuses 303 refl)
      (act_by_own keys signer replies (settings_payload payload))

  after_own : (signer payload : List ℕ) (replies : List Reply) → Q (next_after signer payload replies)
  unfolding next_after
  after_own signer payload replies = then_own Q (value_at authorized_keys replies) _ (value_own authorized_keys replies)
      (λ value rest. act_own (keys_of value) signer payload rest)

  pub each_action : (signer payload : List ℕ) (turns : List Turn) → Q (next signer payload turns)
  each_action signer payload turns = after_own signer payload (map (λ turn. turn.reply) turns)

pub next_own : (signer payload : List ℕ) (turns : List Turn) → has_own_reason (next signer payload turns) ≡ true
next_own = each_action (λ action. has_own_reason action ≡ true) (λ place. refl) (λ entry. refl) (λ event. refl) refl (λ number own. own)
