-- The settings family's next action does not depend on the index of a place that is not declared.
use Rattle.std.proofs.Common.{◌≡◌, ℕ, Bool, true, false, cond, not, ◌&&◌, ◌||◌, List, [], ◌∷◌, ◌++◌, map, length, slice_set, Option, Some, None}
use Rattle.std.proofs.Common.{Result, Ok, Err, ◌==◌, refl, sym, ap, subst, ◌∙◌}
use Rattle.std.specs.Prelude.{nat_le}
use Rattle.std.specs.List.{list_any, remove}
use Rattle.std.specs.Str.{bytes_eq}
use Rattle.saw_wire.specs.declared.fault.MessageFault.{MessageFault}
use Rattle.saw_messages.specs.Reasons.{invalid}
use Rattle.saw_messages.specs.declared.talk.Action.{Action}
use Rattle.saw_messages.specs.declared.talk.Action.TheVariants as actions
use Rattle.saw_messages.specs.declared.talk.Reply.{Reply}
use Rattle.saw_messages.specs.declared.talk.Reply.TheVariants.{Entries, Done, Unauthorized}
use Rattle.saw_settings.specs.Actions.{accept_number, act, act_by, add_to, cast_vote, count_up, count_votes, decide, found_in, has_id, has_key}
use Rattle.saw_settings.specs.Actions.{has_none, has_voted, id_of, new_candidate, next_after, propose, propose_by, propose_number}
use Rattle.saw_settings.specs.Actions.{propose_under, proposal_fault, put_to_vote, reject_number, vote_among, vote_by, vote_for, vote_number}
use Rattle.saw_settings.specs.Actions.{vote_under, with_vote, write}
use Rattle.saw_settings.specs.Keys.{address_of, approval_threshold, authorized_keys, proposals, with_value}
use Rattle.saw_settings.specs.Messages.{setting, setting_proposal, setting_vote, settings_payload}
use Rattle.saw_settings.specs.Replies.{change_of, set_to, setting_at, value_at, written_to}
use Rattle.saw_settings.specs.Requests.{Told, Due, Goes, and_then, body_at, body_by, done, done_by, readable, then_do}
use Rattle.saw_settings.specs.Values.{candidates_of_value, kept_text, keys_of, threshold_of}
use Rattle.saw_settings.specs.declared.candidate.SettingCandidate.{SettingCandidate}
use Rattle.saw_settings.specs.declared.payload.SettingProposal.{SettingProposal}
use Rattle.saw_settings.specs.declared.payload.SettingVote.{SettingVote}
use Rattle.saw_settings.specs.declared.payload.SettingsPayload.{SettingsPayload}
use Rattle.saw_settings.specs.declared.setting.Setting.{Setting}
use Rattle.saw_tpside.specs.RepliesAlike.{Alike, reply_same}

either_same : (test : Bool) (x y p q : Action) → x ≡ p → y ≡ q → cond test x y ≡ cond test p q
either_same true x y p q first second = first
either_same false x y p q first second = second

-- ---- what is told

-- the same action is due, or the same is told, and what follows differs in indices alone
abbrev Same : {A : Type 0} → Told A → Told A → Type 0
Same (Due x) (Due y) = x ≡ y
Same (Due x) (Goes w s) = ⊥
Same (Goes v r) (Due y) = ⊥
Same (Goes v r) (Goes w s) = (v ≡ w) × Alike r s

then_same : {A : Type 0} (t u : Told A) (others : A → List Reply → Action) → Same t u
    → ((x : A) (r s : List Reply) → Alike r s → others x r ≡ others x s) → then_do t others ≡ then_do u others
then_same (Due x) (Due y) others same all = same
then_same (Due x) (Goes w s) others same all = absurd same
then_same (Goes v r) (Due y) others same all = absurd same
then_same {A} (Goes v r) (Goes w s) others same all = all v r s same.1 ∙ ap (λ (x : A). others x s) same.0

and_same : {A B : Type 0} (t u : Told A) (others : A → List Reply → Told B) → Same t u
    → ((x : A) (r s : List Reply) → Alike r s → Same (others x r) (others x s)) → Same (and_then t others) (and_then u others)
and_same (Due x) (Due y) others same all = same
and_same (Due x) (Goes w s) others same all = absurd same
and_same (Goes v r) (Due y) others same all = absurd same
and_same {A} (Goes v r) (Goes w s) others same all =
    let P : A → Type 0 = λ x. Same (others v r) (others x s) in
    subst P same.0 (all v r s same.1)

body_rest : (r s : List Reply) (reply : Reply) → Alike r s → Same (body_by 301 r reply) (body_by 301 s reply)
body_rest r s (Entries []) are = refl
body_rest r s (Entries (body ∷ [])) are = (refl, are)
body_rest r s (Entries (body ∷ second ∷ others)) are = refl
body_rest r s Done are = refl
body_rest r s (Unauthorized index) are = refl

body_same : (address : List ℕ) (r s : List Reply) → Alike r s → Same (body_at 301 address r) (body_at 301 address s)
body_same address [] [] are = refl
body_same address [] (y ∷ s) are = absurd are
body_same address (x ∷ r) [] are = absurd are
body_same address (x ∷ r) (y ∷ s) are =
    subst (Same (body_by 301 r x)) (reply_same (body_by 301 s) (λ i j. refl) x y are.0) (body_rest r s x are.1)

read_same : (r s : List Reply) (read : Result Setting MessageFault) → Alike r s → Same (readable 302 r read) (readable 302 s read)
read_same r s (Ok read) are = (refl, are)
read_same r s (Err e) are = refl

setting_same : (key : List ℕ) (r s : List Reply) → Alike r s → Same (setting_at key r) (setting_at key s)
setting_same key r s are =
    and_same (body_at 301 (address_of key) r) (body_at 301 (address_of key) s) _ (body_same (address_of key) r s are)
    (λ body r s are. read_same r s (setting body) are)

value_same : (key : List ℕ) (r s : List Reply) → Alike r s → Same (value_at key r) (value_at key s)
unfolding value_at
value_same key r s are = and_same (setting_at key r) (setting_at key s) _ (setting_same key r s are) (λ kept r s are. (refl, are))

done_rest : (r s : List Reply) (reply : Reply) → Alike r s → Same (done_by 301 r reply) (done_by 301 s reply)
done_rest r s (Entries bodies) are = refl
done_rest r s Done are = (refl, are)
done_rest r s (Unauthorized index) are = refl

done_same : (action : Action) (r s : List Reply) → Alike r s → Same (done 301 action r) (done 301 action s)
done_same action [] [] are = refl
done_same action [] (y ∷ s) are = absurd are
done_same action (x ∷ r) [] are = absurd are
done_same action (x ∷ r) (y ∷ s) are =
    subst (Same (done_by 301 r x)) (reply_same (done_by 301 s) (λ i j. refl) x y are.0) (done_rest r s x are.1)

either_told : {A : Type 0} (test : Bool) (x y p q : Told A) → Same x p → Same y q → Same (cond test x y) (cond test p q)
either_told true x y p q first second = first
either_told false x y p q first second = second

written_same : (key value : List ℕ) (r s : List Reply) → Alike r s → Same (written_to key value r) (written_to key value s)
unfolding written_to
written_same key value r s are =
    and_same (setting_at key r) (setting_at key s) _ (setting_same key r s are) (λ kept r s are.
    and_same (done 301 (set_to key (with_value key value kept.entries)) r) (done 301 (set_to key (with_value key value kept.entries)) s) _
    (done_same (set_to key (with_value key value kept.entries)) r s are) (λ nothing r s are.
    either_told (bytes_eq key proposals) (Goes tt r) (done 301 (actions.AddEvent (change_of key)) r) (Goes tt s) (done 301 (actions.AddEvent (change_of key)) s) (refl, are)
    (done_same (actions.AddEvent (change_of key)) r s are)))

write_same : (key value : List ℕ) (r s : List Reply) → Alike r s → write key value r ≡ write key value s
write_same key value r s are = then_same (written_to key value r) (written_to key value s) _ (written_same key value r s are) (λ nothing r s are. refl)

-- ---- a proposal

add_same : (signer id : List ℕ) (proposal : SettingProposal) (kept : Option (List SettingCandidate)) (r s : List Reply) → Alike r s
    → add_to signer id proposal r kept ≡ add_to signer id proposal s kept
add_same signer id proposal None r s are = refl
add_same signer id proposal (Some candidates) r s are =
    let more = kept_text (candidates ++ new_candidate signer id proposal ∷ []) in
    either_same (list_any (has_id id) candidates) (invalid 311) (write proposals more r) (invalid 311) (write proposals more s) refl
    (write_same proposals more r s are)

put_same : (signer id : List ℕ) (proposal : SettingProposal) (r s : List Reply) → Alike r s → put_to_vote signer id proposal r ≡ put_to_vote signer id proposal s
put_same signer id proposal r s are = then_same (value_at proposals r) (value_at proposals s) _ (value_same proposals r s are)
    (λ value r s are. add_same signer id proposal (candidates_of_value value) r s are)

decide_same : (signer id : List ℕ) (proposal : SettingProposal) (threshold : ℕ) (fault : Option ℕ) (r s : List Reply) → Alike r s
    → decide signer id proposal threshold r fault ≡ decide signer id proposal threshold s fault
decide_same signer id proposal threshold (Some number) r s are = refl
decide_same signer id proposal threshold None r s are =
    either_same (nat_le threshold 1) (write proposal.setting proposal.value r) (put_to_vote signer id proposal r)
    (write proposal.setting proposal.value s) (put_to_vote signer id proposal s)
    (write_same proposal.setting proposal.value r s are) (put_same signer id proposal r s are)

under_same : (keys : List (List ℕ)) (signer id : List ℕ) (proposal : SettingProposal) (threshold : Option ℕ) (r s : List Reply) → Alike r s
    → propose_under keys signer id proposal r threshold ≡ propose_under keys signer id proposal s threshold
under_same keys signer id proposal None r s are = refl
under_same keys signer id proposal (Some threshold) r s are = decide_same signer id proposal threshold (proposal_fault keys proposal) r s are

propose_by_same : (keys : List (List ℕ)) (signer id : List ℕ) (read : Result SettingProposal MessageFault) (r s : List Reply) → Alike r s
    → propose_by keys signer id r read ≡ propose_by keys signer id s read
propose_by_same keys signer id (Err e) r s are = refl
propose_by_same keys signer id (Ok proposal) r s are =
    then_same (value_at approval_threshold r) (value_at approval_threshold s) _ (value_same approval_threshold r s are)
    (λ value r s are. under_same keys signer id proposal (threshold_of value) r s are)

propose_same : (keys : List (List ℕ)) (signer body : List ℕ) (r s : List Reply) → Alike r s → propose keys signer body r ≡ propose keys signer body s
unfolding propose
propose_same keys signer body r s are = propose_by_same keys signer (id_of body) (setting_proposal body) r s are

-- ---- a vote

count_same : (keys : List (List ℕ)) (threshold : ℕ) (candidates : List SettingCandidate) (place : ℕ) (voted : SettingCandidate) (r s : List Reply) → Alike r s
    → count_up keys threshold candidates place voted r ≡ count_up keys threshold candidates place voted s
count_same keys threshold candidates place voted r s are =
    let fewer = kept_text (remove candidates place) in
    let same = kept_text (slice_set candidates place voted) in
    either_same (nat_le threshold (count_votes accept_number voted.votes)) _ _ _ _
    (then_same (written_to voted.proposal.setting voted.proposal.value r) (written_to voted.proposal.setting voted.proposal.value s) _
    (written_same voted.proposal.setting voted.proposal.value r s are)
    (λ nothing r s are. write_same proposals fewer r s are))
    (either_same (nat_le threshold (count_votes reject_number voted.votes) || (length voted.votes == length keys)) (write proposals fewer r)
    (write proposals same r) (write proposals fewer s) (write proposals same s)
    (write_same proposals fewer r s are) (write_same proposals same r s are))

vote_under_same : (keys : List (List ℕ)) (signer : List ℕ) (vote : ℕ) (candidates : List SettingCandidate) (place : ℕ) (candidate : SettingCandidate)
    (threshold : Option ℕ) (r s : List Reply) → Alike r s
    → vote_under keys signer vote candidates place candidate r threshold ≡ vote_under keys signer vote candidates place candidate s threshold
vote_under_same keys signer vote candidates place candidate None r s are = refl
vote_under_same keys signer vote candidates place candidate (Some threshold) r s are =
    either_same (has_voted signer candidate) (invalid 314) (count_up keys threshold candidates place (with_vote signer vote candidate) r)
    (invalid 314) (count_up keys threshold candidates place (with_vote signer vote candidate) s) refl
    (count_same keys threshold candidates place (with_vote signer vote candidate) r s are)

vote_for_same : (keys : List (List ℕ)) (signer : List ℕ) (vote : ℕ) (candidates : List SettingCandidate) (found : Option (ℕ × SettingCandidate))
    (r s : List Reply) → Alike r s → vote_for keys signer vote candidates r found ≡ vote_for keys signer vote candidates s found
vote_for_same keys signer vote candidates None r s are = refl
vote_for_same keys signer vote candidates (Some found) r s are =
    then_same (value_at approval_threshold r) (value_at approval_threshold s) _ (value_same approval_threshold r s are)
    (λ value r s are. vote_under_same keys signer vote candidates found.0 found.1 (threshold_of value) r s are)

among_same : (keys : List (List ℕ)) (signer id : List ℕ) (vote : ℕ) (kept : Option (List SettingCandidate)) (r s : List Reply) → Alike r s
    → vote_among keys signer id vote r kept ≡ vote_among keys signer id vote s kept
among_same keys signer id vote None r s are = refl
among_same keys signer id vote (Some candidates) r s are = vote_for_same keys signer vote candidates (found_in (has_id id) 0 candidates) r s are

vote_by_same : (keys : List (List ℕ)) (signer : List ℕ) (read : Result SettingVote MessageFault) (r s : List Reply) → Alike r s
    → vote_by keys signer r read ≡ vote_by keys signer s read
vote_by_same keys signer (Err e) r s are = refl
vote_by_same keys signer (Ok one) r s are =
    either_same (not ((one.vote == accept_number) || (one.vote == reject_number))) (invalid 312) _ (invalid 312) _ refl
    (then_same (value_at proposals r) (value_at proposals s) _ (value_same proposals r s are)
    (λ value r s are. among_same keys signer one.proposal_id one.vote (candidates_of_value value) r s are))

cast_same : (keys : List (List ℕ)) (signer body : List ℕ) (r s : List Reply) → Alike r s → cast_vote keys signer body r ≡ cast_vote keys signer body s
unfolding cast_vote
cast_same keys signer body r s are = vote_by_same keys signer (setting_vote body) r s are

-- ---- both

act_by_same : (keys : List (List ℕ)) (signer : List ℕ) (read : Result SettingsPayload MessageFault) (r s : List Reply) → Alike r s
    → act_by keys signer r read ≡ act_by keys signer s read
act_by_same keys signer (Err e) r s are = refl
act_by_same keys signer (Ok payload) r s are =
    either_same (payload.action == propose_number) (propose keys signer payload.body r) _ (propose keys signer payload.body s) _
    (propose_same keys signer payload.body r s are)
    (either_same (payload.action == vote_number) (cast_vote keys signer payload.body r) (invalid 305) (cast_vote keys signer payload.body s) (invalid 305)
    (cast_same keys signer payload.body r s are) refl)

act_same : (keys : List (List ℕ)) (signer payload : List ℕ) (r s : List Reply) → Alike r s → act keys signer payload r ≡ act keys signer payload s
act_same keys signer payload r s are =
    either_same (not (has_none keys || has_key signer keys)) (invalid 303) (act_by keys signer r (settings_payload payload)) (invalid 303)
    (act_by keys signer s (settings_payload payload)) refl
    (act_by_same keys signer (settings_payload payload) r s are)

pub settings_same : (signer payload : List ℕ) (r s : List Reply) → Alike r s → next_after signer payload r ≡ next_after signer payload s
unfolding next_after
settings_same signer payload r s are = then_same (value_at authorized_keys r) (value_at authorized_keys s) _ (value_same authorized_keys r s are)
    (λ value r s are. act_same (keys_of value) signer payload r s are)
