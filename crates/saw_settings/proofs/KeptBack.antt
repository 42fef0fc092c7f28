-- The text that is kept for candidates is read as those candidates.
use Rattle.std.proofs.Common.{◌≡◌, ℕ, Bool, true, false, cond, List, [], length, Some, Ok, Result, Option, refl, sym, ap, ◌∙◌}
use Rattle.std.specs.Prelude.{◌==◌}
use Rattle.std.proofs.lemmas.Bool.{eqb-true}
use Rattle.std.proofs.lemmas.List.{nil_from_length}
use Rattle.base64.specs.declared.decode.DecodeError.{DecodeError}
use Rattle.base64.specs.Engines.{standard}
use Rattle.base64.specs.GeneralPurpose.{encode_of, decode_of}
use Rattle.base64.proofs.EngineFacts.{decode_of-encode_of, encode_of-nil}
use Rattle.saw_wire.specs.Writing.{spelled}
use Rattle.saw_wire.specs.declared.fault.MessageFault.{MessageFault}
use Rattle.saw_settings.specs.declared.payload.SettingProposal.{SettingProposal}
use Rattle.saw_settings.specs.declared.candidate.VoteRecord.{VoteRecord}
use Rattle.saw_settings.specs.declared.candidate.SettingCandidate.{SettingCandidate}
use Rattle.saw_settings.specs.declared.candidate.SettingCandidates.{SettingCandidates}
use Rattle.saw_settings.specs.Messages.{proposal_pieces}
use Rattle.saw_settings.specs.Candidates.{candidate_pieces, candidates_pieces, setting_candidates, vote_record_pieces}
use Rattle.saw_settings.specs.ReadBack.{IsSettingProposal, IsVoteRecord, IsSettingCandidate, IsSettingCandidates, KeptTextIsReadBack}
use Rattle.saw_settings.specs.Values.{candidates_by, candidates_in, candidates_read, kept_text}
use Rattle.saw_settings.proofs.Octets.{AreBytes, HaveBytes, bytes_field, byte_at, items_field, number_field, spelled_bytes, text_field, ◌with◌}
use Rattle.saw_settings.proofs.SettingsBack.{setting_candidates_are_read}

proposal_bytes : (m : SettingProposal) → IsSettingProposal m → HaveBytes (proposal_pieces m)
proposal_bytes m is = text_field 1 m.setting is.setting with text_field 2 m.value is.value with text_field 3 m.nonce is.nonce

vote_bytes : (m : VoteRecord) → IsVoteRecord m → HaveBytes (vote_record_pieces m)
vote_bytes m is = text_field 1 m.public_key is.public_key with number_field 2 m.vote

candidate_bytes : (m : SettingCandidate) → IsSettingCandidate m → HaveBytes (candidate_pieces m)
candidate_bytes m is =
    text_field 1 m.proposal_id is.proposal_id
    with bytes_field 2 (spelled (proposal_pieces m.proposal)) (spelled_bytes (proposal_pieces m.proposal) (proposal_bytes m.proposal is.proposal))
    with items_field vote_record_pieces vote_bytes 3 m.votes is.votes

candidates_bytes : (m : SettingCandidates) → IsSettingCandidates m → AreBytes (spelled (candidates_pieces m))
candidates_bytes m is = spelled_bytes (candidates_pieces m) (items_field candidate_pieces candidate_bytes 1 m.candidates is.candidates)

same_bytes : (bytes other : List ℕ) → ◌≡◌ {A = Result (List ℕ) DecodeError} (Ok bytes) (Ok other) → bytes ≡ other
same_bytes bytes other e = cc

decoded : (bytes : List ℕ) → AreBytes bytes → decode_of standard (encode_of standard bytes) ≡ Ok bytes
decoded bytes are = decode_of-encode_of standard bytes refl (byte_at bytes are)

same_read : (m other : SettingCandidates) → ◌≡◌ {A = Result SettingCandidates MessageFault} (Ok m) (Ok other) → m ≡ other
same_read m other e = cc

-- no text at all is kept for no candidates alone
none_kept : (candidates : List SettingCandidate) → IsSettingCandidates (record { candidates = candidates })
    → encode_of standard (spelled (candidates_pieces (record { candidates = candidates }))) ≡ [] → candidates ≡ []
none_kept candidates is none =
    let bytes = spelled (candidates_pieces (record { candidates = candidates })) in
    let same : ◌≡◌ {A = Result (List ℕ) DecodeError} (Ok []) (Ok bytes) = sym (decoded [] tt)
    ∙ ap (decode_of standard) (encode_of-nil standard ∙ sym none) ∙ decoded bytes (candidates_bytes (record { candidates = candidates }) is) in
    let read = sym (setting_candidates_are_read (record { candidates = [] }) (record { candidates = tt; fits = tt }))
    ∙ ap setting_candidates (same_bytes [] bytes same) ∙ setting_candidates_are_read (record { candidates = candidates }) is in
    sym (ap (λ m. m.candidates) (same_read (record { candidates = [] }) (record { candidates = candidates }) read))

read_by : (b : Bool) (candidates : List SettingCandidate) (read : Option (List SettingCandidate)) → (b ≡ true → candidates ≡ [])
    → read ≡ Some candidates → cond b (Some []) read ≡ Some candidates
read_by true candidates read none is = ap Some (sym (none refl))
read_by false candidates read none is = is

pub kept_text_is_read : KeptTextIsReadBack
unfolding candidates_in kept_text
kept_text_is_read candidates is =
    let bytes = spelled (candidates_pieces (record { candidates = candidates })) in
    let text = encode_of standard bytes in
    let read : candidates_by (decode_of standard text) ≡ Some candidates =
    ap candidates_by (decoded bytes (candidates_bytes (record { candidates = candidates }) is))
    ∙ ap candidates_read (setting_candidates_are_read (record { candidates = candidates }) is) in
    read_by (length text == 0) candidates (candidates_by (decode_of standard text))
    (λ zero. none_kept candidates is (nil_from_length text (eqb-true (length text) 0 zero))) read
