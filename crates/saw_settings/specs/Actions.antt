-- The next action of the Settings family, version 1.0, by the signer, the payload and the replies so far.
use Rattle.std.specs.Prelude.{◌≡◌, ℕ, ◌+◌, Bool, true, false, ◌&&◌, ◌||◌, not, List, [], ◌∷◌, ◌++◌, map, filter, length, slice_set, Option, Some, None, Result, Ok, Err, nat_le, ◌==◌, if◌then◌else◌, codes}
use Rattle.std.specs.List.{list_any, remove}
use Rattle.std.specs.Str.{bytes_eq}
use Rattle.hex.specs.Hex.{encode_lower}
use Rattle.sha2.specs.Sha256.{sha256}
use Rattle.saw_wire.specs.declared.fault.MessageFault.{MessageFault}
use Rattle.saw_messages.specs.Reasons.{has_own_reason, invalid}
use Rattle.saw_messages.specs.declared.talk.Action.{Action}
use Rattle.saw_messages.specs.declared.talk.Action.TheVariants as actions
use Rattle.saw_messages.specs.declared.talk.Reply.{Reply}
use Rattle.saw_messages.specs.declared.talk.Turn.{Turn}
use Rattle.saw_settings.specs.Keys.{authorized_keys, approval_threshold, proposals}
use Rattle.saw_settings.specs.Messages.{settings_payload, setting_proposal, setting_vote}
use Rattle.saw_settings.specs.Values.{keys_of, keys_in, number_in, threshold_of, candidates_of_value, kept_text}
use Rattle.saw_settings.specs.Replies.{value_at, written_to}
use Rattle.saw_settings.specs.Requests.{then_do}
use Rattle.saw_settings.specs.declared.candidate.SettingCandidate.{SettingCandidate}
use Rattle.saw_settings.specs.declared.candidate.VoteRecord.{VoteRecord}
use Rattle.saw_settings.specs.declared.payload.SettingsPayload.{SettingsPayload}
use Rattle.saw_settings.specs.declared.payload.SettingProposal.{SettingProposal}
use Rattle.saw_settings.specs.declared.payload.SettingVote.{SettingVote}

abbrev pub family_name : List ℕ
family_name = codes "sawtooth_settings"

abbrev pub family_version : List ℕ
family_version = codes "1.0"

-- the numbers of the actions and of the votes
abbrev pub propose_number : ℕ
propose_number = 1

abbrev pub vote_number : ℕ
vote_number = 2

abbrev pub accept_number : ℕ
accept_number = 1

abbrev pub reject_number : ℕ
reject_number = 2

abbrev pub has_key : List ℕ → List (List ℕ) → Bool
has_key key keys = list_any (λ other. bytes_eq other key) keys

abbrev pub has_none : {A : Type 0} → List A → Bool
has_none xs = length xs == 0

-- a setting gets a value, and then the transaction is valid
abbrev pub write : List ℕ → List ℕ → List Reply → Action
write key value replies = then_do (written_to key value replies) (λ nothing rest. actions.Ok)

-- ---- a proposal

-- the proposal's id: the hex digits of SHA-256 of its bytes
abbrev pub id_of : List ℕ → List ℕ
id_of body = encode_lower (sha256 body)

abbrev pub has_id : List ℕ → SettingCandidate → Bool
has_id id candidate = bytes_eq candidate.proposal_id id

abbrev pub vote_of : List ℕ → ℕ → VoteRecord
vote_of signer vote = record { public_key = signer; vote = vote }

-- a candidate that its proposer accepts
abbrev pub new_candidate : List ℕ → List ℕ → SettingProposal → SettingCandidate
new_candidate signer id proposal = record {
  proposal_id = id;
  proposal = proposal;
  votes = vote_of signer accept_number ∷ [];
}

-- 311 there is no candidate with the id
abbrev pub add_to : List ℕ → List ℕ → SettingProposal → List Reply → Option (List SettingCandidate) → Action
add_to signer id proposal replies None = invalid 302
add_to signer id proposal replies (Some candidates) =
    if list_any (has_id id) candidates then invalid 311
    else write proposals (kept_text (candidates ++ new_candidate signer id proposal ∷ [])) replies

abbrev pub put_to_vote : List ℕ → List ℕ → SettingProposal → List Reply → Action
put_to_vote signer id proposal replies = then_do (value_at proposals replies) (λ value rest. add_to signer id proposal rest (candidates_of_value value))

-- a threshold that the keys can reach
abbrev pub is_reachable : ℕ → Option ℕ → Bool
is_reachable count None = false
is_reachable count (Some number) = nat_le number count

-- 307 keys come first, 308 they are not taken away, 309 the threshold can be reached, 310 proposals are not proposed
abbrev pub proposal_fault : List (List ℕ) → SettingProposal → Option ℕ
proposal_fault keys proposal =
    if has_none keys && not (bytes_eq proposal.setting authorized_keys) then Some 307
    else if bytes_eq proposal.setting authorized_keys && has_none (keys_in proposal.value) then Some 308
    else if bytes_eq proposal.setting approval_threshold && not (is_reachable (length keys) (number_in proposal.value)) then Some 309
    else if bytes_eq proposal.setting proposals then Some 310
    else None

-- at most one vote decides at once
abbrev pub decide : List ℕ → List ℕ → SettingProposal → ℕ → List Reply → Option ℕ → Action
decide signer id proposal threshold replies (Some number) = invalid number
decide signer id proposal threshold replies None =
    if nat_le threshold 1 then write proposal.setting proposal.value replies
    else put_to_vote signer id proposal replies

abbrev pub propose_under : List (List ℕ) → List ℕ → List ℕ → SettingProposal → List Reply → Option ℕ → Action
propose_under keys signer id proposal replies None = invalid 302
propose_under keys signer id proposal replies (Some threshold) = decide signer id proposal threshold replies (proposal_fault keys proposal)

-- 306: the body is a proposal
abbrev pub propose_by : List (List ℕ) → List ℕ → List ℕ → List Reply → Result SettingProposal MessageFault → Action
propose_by keys signer id replies (Err e) = invalid 306
propose_by keys signer id replies (Ok proposal) = then_do (value_at approval_threshold replies) (λ value rest. propose_under keys signer id proposal rest (threshold_of value))

unfoldable pub propose : List (List ℕ) → List ℕ → List ℕ → List Reply → Action
propose keys signer body replies = propose_by keys signer (id_of body) replies (setting_proposal body)

-- ---- a vote

abbrev pub count_votes : ℕ → List VoteRecord → ℕ
count_votes vote votes = length (filter (λ one. one.vote == vote) votes)

abbrev pub with_vote : List ℕ → ℕ → SettingCandidate → SettingCandidate
with_vote signer vote candidate = record candidate { votes = candidate.votes ++ vote_of signer vote ∷ [] }

-- enough accept: the proposal is carried out and the candidate taken out; or so many reject, or all have voted: it is
-- taken out; else it stays with the vote
abbrev pub count_up : List (List ℕ) → ℕ → List SettingCandidate → ℕ → SettingCandidate → List Reply → Action
count_up keys threshold candidates place voted replies =
    if nat_le threshold (count_votes accept_number voted.votes) then
    then_do (written_to voted.proposal.setting voted.proposal.value replies) (λ nothing rest. write proposals (kept_text (remove candidates place)) rest)
    else if nat_le threshold (count_votes reject_number voted.votes) || (length voted.votes == length keys) then
    write proposals (kept_text (remove candidates place)) replies
    else write proposals (kept_text (slice_set candidates place voted)) replies

abbrev pub has_voted : List ℕ → SettingCandidate → Bool
has_voted signer candidate = list_any (λ one. bytes_eq one.public_key signer) candidate.votes

-- 314 the signer has not voted
abbrev pub vote_under : List (List ℕ) → List ℕ → ℕ → List SettingCandidate → ℕ → SettingCandidate → List Reply → Option ℕ → Action
vote_under keys signer vote candidates place candidate replies None = invalid 302
vote_under keys signer vote candidates place candidate replies (Some threshold) =
    if has_voted signer candidate then invalid 314
    else count_up keys threshold candidates place (with_vote signer vote candidate) replies

-- a candidate with its place
abbrev pub found_in : {A : Type 0} → (A → Bool) → ℕ → List A → Option (ℕ × A)
found_in p place [] = None
found_in p place (x ∷ xs) = if p x then Some (place, x) else found_in p (place + 1) xs

-- 313 there is a candidate with the id, of which the first counts
abbrev pub vote_for : List (List ℕ) → List ℕ → ℕ → List SettingCandidate → List Reply → Option (ℕ × SettingCandidate) → Action
vote_for keys signer vote candidates replies None = invalid 313
vote_for keys signer vote candidates replies (Some found) =
    then_do (value_at approval_threshold replies) (λ value rest. vote_under keys signer vote candidates found.0 found.1 rest (threshold_of value))

abbrev pub vote_among : List (List ℕ) → List ℕ → List ℕ → ℕ → List Reply → Option (List SettingCandidate) → Action
vote_among keys signer id vote replies None = invalid 302
vote_among keys signer id vote replies (Some candidates) = vote_for keys signer vote candidates replies (found_in (has_id id) 0 candidates)

-- 306 the body is a vote, 312 it accepts or rejects
abbrev pub vote_by : List (List ℕ) → List ℕ → List Reply → Result SettingVote MessageFault → Action
vote_by keys signer replies (Err e) = invalid 306
vote_by keys signer replies (Ok one) =
    if not (one.vote == accept_number || one.vote == reject_number) then invalid 312
    else then_do (value_at proposals replies) (λ value rest. vote_among keys signer one.proposal_id one.vote rest (candidates_of_value value))

unfoldable pub cast_vote : List (List ℕ) → List ℕ → List ℕ → List Reply → Action
cast_vote keys signer body replies = vote_by keys signer replies (setting_vote body)

-- ---- both

-- 304 the payload is one, 305 it proposes or votes
abbrev pub act_by : List (List ℕ) → List ℕ → List Reply → Result SettingsPayload MessageFault → Action
act_by keys signer replies (Err e) = invalid 304
act_by keys signer replies (Ok payload) =
    if payload.action == propose_number then propose keys signer payload.body replies
    else if payload.action == vote_number then cast_vote keys signer payload.body replies
    else invalid 305

-- 303 there are no keys yet, or the signer is one
abbrev pub act : List (List ℕ) → List ℕ → List ℕ → List Reply → Action
act keys signer payload replies =
    if not (has_none keys || has_key signer keys) then invalid 303
    else act_by keys signer replies (settings_payload payload)

-- the next action, for any signer, any payload and any replies
unfoldable pub next_after : List ℕ → List ℕ → List Reply → Action
next_after signer payload replies = then_do (value_at authorized_keys replies) (λ value rest. act (keys_of value) signer payload rest)

abbrev pub next : List ℕ → List ℕ → List Turn → Action
next signer payload turns = next_after signer payload (map (λ turn. turn.reply) turns)

-- the action depends on the signer, the payload and the replies alone
abbrev pub RepliesDecide : Type 0
RepliesDecide = (signer payload : List ℕ) (turns others : List Turn) → map (λ turn. turn.reply) turns ≡ map (λ turn. turn.reply) others → next signer payload turns ≡ next signer payload others

-- each refusal is by a number of the family
abbrev pub ReasonsAreOwn : Type 0
ReasonsAreOwn = (signer payload : List ℕ) (turns : List Turn) → has_own_reason (next signer payload turns) ≡ true
