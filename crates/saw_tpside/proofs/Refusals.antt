-- A refused request is the last of its transaction: the families ask for nothing more.
use Rattle.std.proofs.Common.{◌≡◌, ℕ, Bool, true, false, cond, not, ◌||◌, List, [], ◌∷◌, ◌++◌, map, length, slice_set, Option, Some, None, Result, Ok, Err, ◌==◌, refl, subst, sym}
use Rattle.std.specs.Prelude.{nat_le}
use Rattle.std.specs.List.{list_any, remove}
use Rattle.saw_context.specs.Outcome.{is_request}
use Rattle.saw_wire.specs.declared.fault.MessageFault.{MessageFault}
use Rattle.saw_messages.specs.Reasons.{invalid}
use Rattle.saw_messages.specs.TxShapes.{TxShape}
use Rattle.saw_messages.specs.declared.talk.Action.{Action}
use Rattle.saw_messages.specs.declared.talk.Action.TheVariants as actions
use Rattle.saw_messages.specs.declared.talk.Reply.{Reply}
use Rattle.saw_messages.specs.declared.talk.Reply.TheVariants.{Entries, Done, Unauthorized}
use Rattle.saw_messages.specs.declared.talk.Turn.{Turn}
use Rattle.saw_intkey.specs.Actions as intkey
use Rattle.saw_intkey.specs.Payloads as intkeys
use Rattle.saw_xo.specs.Actions as xo
use Rattle.saw_xo.specs.Payloads as xos
use Rattle.saw_settings.specs.Actions.{accept_number, act, act_by, add_to, cast_vote, count_up, count_votes, decide, found_in, has_id, has_key}
use Rattle.saw_settings.specs.Actions.{has_none, has_voted, id_of, new_candidate, next_after, propose, propose_by, propose_number}
use Rattle.saw_settings.specs.Actions.{propose_under, proposal_fault, put_to_vote, reject_number, vote_among, vote_by, vote_for, vote_number}
use Rattle.saw_settings.specs.Actions.{vote_under, with_vote, write}
use Rattle.saw_settings.specs.Keys.{address_of, approval_threshold, authorized_keys, proposals, with_value}
use Rattle.saw_settings.specs.Messages.{setting, setting_proposal, setting_vote, settings_payload}
use Rattle.saw_settings.specs.Replies.{change_of, set_to, setting_at, value_at, written_to}
use Rattle.saw_settings.specs.Requests.{Told, Due, Goes, and_then, body_at, body_by, done, done_by, readable, then_do}
use Rattle.saw_settings.specs.Values.{candidates_of_value, kept_text, keys_of, threshold_of}
use Rattle.saw_settings.specs.declared.candidate.SettingCandidate.{SettingCandidate}
use Rattle.saw_settings.specs.declared.payload.SettingProposal.{SettingProposal}
use Rattle.saw_settings.specs.declared.payload.SettingVote.{SettingVote}
use Rattle.saw_settings.specs.declared.payload.SettingsPayload.{SettingsPayload}
use Rattle.saw_settings.specs.declared.setting.Setting.{Setting}
use Rattle.saw_station.specs.Families.{of_each}
use Rattle.saw_station.specs.Serving.{next_of}
use Rattle.saw_tpside.specs.ProcessorConversation.{family_action}

-- the last of the replies is a refusal
abbrev pub EndsRefused : List Reply → Type 0
EndsRefused [] = ⊥
EndsRefused (x ∷ []) = x ≡ Unauthorized 0
EndsRefused (x ∷ y ∷ r) = EndsRefused (y ∷ r)

-- nothing is asked
abbrev IsEnd : Action → Type 0
IsEnd action = is_request action ≡ false

ends_refused : (turns : List Turn) (turn : Turn) → turn.reply ≡ Unauthorized 0 → EndsRefused (map (λ turn. turn.reply) (turns ++ turn ∷ []))
ends_refused [] turn is = is
ends_refused (first ∷ []) turn is = is
ends_refused (first ∷ second ∷ turns) turn is = ends_refused (second ∷ turns) turn is

-- ---- IntegerKey and XO

intkey_refused : (payload : List ℕ) → IsEnd (intkey.changing (intkeys.payload_of payload) (Unauthorized 0))
intkey_refused payload = elim (intkeys.payload_of payload) as (λ read. IsEnd (intkey.changing read (Unauthorized 0))) [ Ok read ↦ refl | Err number ↦ refl ]

intkey_set : (reply : Reply) → IsEnd (intkey.after_set reply)
intkey_set (Entries bodies) = refl
intkey_set Done = refl
intkey_set (Unauthorized index) = refl

intkey_ends : (payload : List ℕ) (r : List Reply) → EndsRefused r → IsEnd (intkey.next_after payload r)
intkey_ends payload [] last = absurd last
intkey_ends payload (x ∷ []) last =
    let P : Reply → Type 0 = λ x. IsEnd (intkey.changing (intkeys.payload_of payload) x) in
    subst P (sym last) (intkey_refused payload)
intkey_ends payload (x ∷ y ∷ r) last = intkey_set y

xo_refused : (signer payload : List ℕ) → IsEnd (xo.changing signer (xos.payload_of payload) (Unauthorized 0))
xo_refused signer payload = elim (xos.payload_of payload) as (λ read. IsEnd (xo.changing signer read (Unauthorized 0))) [ Ok read ↦ refl | Err number ↦ refl ]

xo_change : (reply : Reply) → IsEnd (xo.after_change reply)
xo_change (Entries bodies) = refl
xo_change Done = refl
xo_change (Unauthorized index) = refl

xo_ends : (signer payload : List ℕ) (r : List Reply) → EndsRefused r → IsEnd (xo.next_after signer payload r)
xo_ends signer payload [] last = absurd last
xo_ends signer payload (x ∷ []) last =
    let P : Reply → Type 0 = λ x. IsEnd (xo.changing signer (xos.payload_of payload) x) in
    subst P (sym last) (xo_refused signer payload)
xo_ends signer payload (x ∷ y ∷ r) last = xo_change y

-- ---- settings: what is told

-- nothing is asked, or the refusal is still to come
abbrev Stops : {A : Type 0} → Told A → Type 0
Stops (Due action) = IsEnd action
Stops (Goes told rest) = EndsRefused rest

either : (test : Bool) (x y : Action) → IsEnd x → IsEnd y → IsEnd (cond test x y)
either true x y first second = first
either false x y first second = second

then_stops : {A : Type 0} (t : Told A) (others : A → List Reply → Action) → Stops t
    → ((x : A) (r : List Reply) → EndsRefused r → IsEnd (others x r)) → IsEnd (then_do t others)
then_stops (Due action) others stops all = stops
then_stops (Goes told rest) others stops all = all told rest stops

and_stops : {A B : Type 0} (t : Told A) (others : A → List Reply → Told B) → Stops t
    → ((x : A) (r : List Reply) → EndsRefused r → Stops (others x r)) → Stops (and_then t others)
and_stops (Due action) others stops all = stops
and_stops (Goes told rest) others stops all = all told rest stops

body_by_stops : (r : List Reply) (reply : Reply) → EndsRefused r → Stops (body_by 301 r reply)
body_by_stops r (Entries []) last = refl
body_by_stops r (Entries (body ∷ [])) last = last
body_by_stops r (Entries (body ∷ second ∷ others)) last = refl
body_by_stops r Done last = refl
body_by_stops r (Unauthorized index) last = refl

body_stops : (address : List ℕ) (r : List Reply) → EndsRefused r → Stops (body_at 301 address r)
body_stops address [] last = absurd last
body_stops address (x ∷ []) last = let P : Reply → Type 0 = λ x. Stops (body_by 301 [] x) in subst P (sym last) refl
body_stops address (x ∷ y ∷ r) last = body_by_stops (y ∷ r) x last

read_stops : (r : List Reply) (read : Result Setting MessageFault) → EndsRefused r → Stops (readable 302 r read)
read_stops r (Ok read) last = last
read_stops r (Err e) last = refl

setting_stops : (key : List ℕ) (r : List Reply) → EndsRefused r → Stops (setting_at key r)
setting_stops key r last =
    and_stops (body_at 301 (address_of key) r) _ (body_stops (address_of key) r last) (λ body rest last. read_stops rest (setting body) last)

value_at_stops : (key : List ℕ) (r : List Reply) → EndsRefused r → Stops (value_at key r)
unfolding value_at
value_at_stops key r last = and_stops (setting_at key r) _ (setting_stops key r last) (λ kept rest last. last)

done_by_stops : (r : List Reply) (reply : Reply) → EndsRefused r → Stops (done_by 301 r reply)
done_by_stops r (Entries bodies) last = refl
done_by_stops r Done last = last
done_by_stops r (Unauthorized index) last = refl

done_stops : (action : Action) (r : List Reply) → EndsRefused r → Stops (done 301 action r)
done_stops action [] last = absurd last
done_stops action (x ∷ []) last = let P : Reply → Type 0 = λ x. Stops (done_by 301 [] x) in subst P (sym last) refl
done_stops action (x ∷ y ∷ r) last = done_by_stops (y ∷ r) x last

told_of_stops : (test : Bool) (action : Action) (r : List Reply) → EndsRefused r → Stops (cond test (Goes (tt {0}) r) (done 301 action r))
told_of_stops true action r last = last
told_of_stops false action r last = done_stops action r last

written_stops : (key value : List ℕ) (r : List Reply) → EndsRefused r → Stops (written_to key value r)
unfolding written_to
written_stops key value r last =
    and_stops (setting_at key r) _ (setting_stops key r last)
    (λ kept rest last. and_stops (done 301 (set_to key (with_value key value kept.entries)) rest) _ (done_stops (set_to key (with_value key value kept.entries)) rest last)
    (λ nothing behind last. told_of_stops _ (actions.AddEvent (change_of key)) behind last))

write_ends : (key value : List ℕ) (r : List Reply) → EndsRefused r → IsEnd (write key value r)
write_ends key value r last = then_stops (written_to key value r) _ (written_stops key value r last) (λ nothing rest last. refl)

-- ---- a proposal

add_ends : (signer id : List ℕ) (proposal : SettingProposal) (r : List Reply) (kept : Option (List SettingCandidate)) → EndsRefused r
    → IsEnd (add_to signer id proposal r kept)
add_ends signer id proposal r None last = refl
add_ends signer id proposal r (Some candidates) last =
    either (list_any (has_id id) candidates) (invalid 311) (write proposals (kept_text (candidates ++ new_candidate signer id proposal ∷ [])) r) refl
    (write_ends proposals (kept_text (candidates ++ new_candidate signer id proposal ∷ [])) r last)

put_ends : (signer id : List ℕ) (proposal : SettingProposal) (r : List Reply) → EndsRefused r → IsEnd (put_to_vote signer id proposal r)
put_ends signer id proposal r last = then_stops (value_at proposals r) _ (value_at_stops proposals r last)
    (λ value rest last. add_ends signer id proposal rest (candidates_of_value value) last)

decide_ends : (signer id : List ℕ) (proposal : SettingProposal) (threshold : ℕ) (fault : Option ℕ) (r : List Reply) → EndsRefused r
    → IsEnd (decide signer id proposal threshold r fault)
decide_ends signer id proposal threshold (Some number) r last = refl
decide_ends signer id proposal threshold None r last =
    either (nat_le threshold 1) (write proposal.setting proposal.value r) (put_to_vote signer id proposal r)
    (write_ends proposal.setting proposal.value r last) (put_ends signer id proposal r last)

under_ends : (keys : List (List ℕ)) (signer id : List ℕ) (proposal : SettingProposal) (threshold : Option ℕ) (r : List Reply) → EndsRefused r
    → IsEnd (propose_under keys signer id proposal r threshold)
under_ends keys signer id proposal None r last = refl
under_ends keys signer id proposal (Some threshold) r last = decide_ends signer id proposal threshold (proposal_fault keys proposal) r last

propose_by_ends : (keys : List (List ℕ)) (signer id : List ℕ) (read : Result SettingProposal MessageFault) (r : List Reply) → EndsRefused r
    → IsEnd (propose_by keys signer id r read)
propose_by_ends keys signer id (Err e) r last = refl
propose_by_ends keys signer id (Ok proposal) r last = then_stops (value_at approval_threshold r) _ (value_at_stops approval_threshold r last)
    (λ value rest last. under_ends keys signer id proposal (threshold_of value) rest last)

propose_ends : (keys : List (List ℕ)) (signer body : List ℕ) (r : List Reply) → EndsRefused r → IsEnd (propose keys signer body r)
unfolding propose
propose_ends keys signer body r last = propose_by_ends keys signer (id_of body) (setting_proposal body) r last

-- ---- a vote

count_ends : (keys : List (List ℕ)) (threshold : ℕ) (candidates : List SettingCandidate) (place : ℕ) (voted : SettingCandidate) (r : List Reply)
    → EndsRefused r → IsEnd (count_up keys threshold candidates place voted r)
count_ends keys threshold candidates place voted r last =
    let fewer = kept_text (remove candidates place) in
    let same = kept_text (slice_set candidates place voted) in
    either (nat_le threshold (count_votes accept_number voted.votes)) _ _
    (then_stops (written_to voted.proposal.setting voted.proposal.value r) _ (written_stops voted.proposal.setting voted.proposal.value r last)
    (λ nothing rest last. write_ends proposals fewer rest last))
    (either (nat_le threshold (count_votes reject_number voted.votes) || (length voted.votes == length keys)) (write proposals fewer r)
    (write proposals same r) (write_ends proposals fewer r last) (write_ends proposals same r last))

vote_under_ends : (keys : List (List ℕ)) (signer : List ℕ) (vote : ℕ) (candidates : List SettingCandidate) (place : ℕ) (candidate : SettingCandidate)
    (threshold : Option ℕ) (r : List Reply) → EndsRefused r → IsEnd (vote_under keys signer vote candidates place candidate r threshold)
vote_under_ends keys signer vote candidates place candidate None r last = refl
vote_under_ends keys signer vote candidates place candidate (Some threshold) r last =
    either (has_voted signer candidate) (invalid 314) (count_up keys threshold candidates place (with_vote signer vote candidate) r) refl
    (count_ends keys threshold candidates place (with_vote signer vote candidate) r last)

vote_for_ends : (keys : List (List ℕ)) (signer : List ℕ) (vote : ℕ) (candidates : List SettingCandidate) (found : Option (ℕ × SettingCandidate))
    (r : List Reply) → EndsRefused r → IsEnd (vote_for keys signer vote candidates r found)
vote_for_ends keys signer vote candidates None r last = refl
vote_for_ends keys signer vote candidates (Some found) r last =
    then_stops (value_at approval_threshold r) _ (value_at_stops approval_threshold r last)
    (λ value rest last. vote_under_ends keys signer vote candidates found.0 found.1 (threshold_of value) rest last)

among_ends : (keys : List (List ℕ)) (signer id : List ℕ) (vote : ℕ) (kept : Option (List SettingCandidate)) (r : List Reply) → EndsRefused r
    → IsEnd (vote_among keys signer id vote r kept)
among_ends keys signer id vote None r last = refl
among_ends keys signer id vote (Some candidates) r last = vote_for_ends keys signer vote candidates (found_in (has_id id) 0 candidates) r last

vote_by_ends : (keys : List (List ℕ)) (signer : List ℕ) (read : Result SettingVote MessageFault) (r : List Reply) → EndsRefused r
    → IsEnd (vote_by keys signer r read)
vote_by_ends keys signer (Err e) r last = refl
vote_by_ends keys signer (Ok one) r last =
    either (not ((one.vote == accept_number) || (one.vote == reject_number))) (invalid 312) _ refl
    (then_stops (value_at proposals r) _ (value_at_stops proposals r last)
    (λ value rest last. among_ends keys signer one.proposal_id one.vote (candidates_of_value value) rest last))

cast_ends : (keys : List (List ℕ)) (signer body : List ℕ) (r : List Reply) → EndsRefused r → IsEnd (cast_vote keys signer body r)
unfolding cast_vote
cast_ends keys signer body r last = vote_by_ends keys signer (setting_vote body) r last

-- ---- both

act_by_ends : (keys : List (List ℕ)) (signer : List ℕ) (read : Result SettingsPayload MessageFault) (r : List Reply) → EndsRefused r
    → IsEnd (act_by keys signer r read)
act_by_ends keys signer (Err e) r last = refl
act_by_ends keys signer (Ok payload) r last =
    either (payload.action == propose_number) (propose keys signer payload.body r) _ (propose_ends keys signer payload.body r last)
    (either (payload.action == vote_number) (cast_vote keys signer payload.body r) (invalid 305) (cast_ends keys signer payload.body r last) refl)

act_ends : (keys : List (List ℕ)) (signer payload : List ℕ) (r : List Reply) → EndsRefused r → IsEnd (act keys signer payload r)
act_ends keys signer payload r last =
    either (not (has_none keys || has_key signer keys)) (invalid 303) (act_by keys signer r (settings_payload payload)) refl
    (act_by_ends keys signer (settings_payload payload) r last)

settings_end : (signer payload : List ℕ) (r : List Reply) → EndsRefused r → IsEnd (next_after signer payload r)
unfolding next_after
settings_end signer payload r last = then_stops (value_at authorized_keys r) _ (value_at_stops authorized_keys r last)
    (λ value rest last. act_ends (keys_of value) signer payload rest last)

-- ---- all of them

-- the families end a transaction at the first refusal
pub family_ends : (tx : TxShape) (turns : List Turn) (turn : Turn) → turn.reply ≡ Unauthorized 0 → is_request (family_action tx (turns ++ turn ∷ [])) ≡ false
unfolding family_action
family_ends tx turns turn is =
    let signer = tx.header.signer_public_key in
    let payload = tx.payload in
    let all = turns ++ turn ∷ [] in
    let replies = map (λ (turn : Turn). turn.reply) all in
    let last = ends_refused turns turn is in
    of_each (λ family. IsEnd (next_of signer payload all family)) refl tx.header.family_name tx.header.family_version
    (intkey_ends payload replies last, (xo_ends signer payload replies last, (settings_end signer payload replies last, tt)))
