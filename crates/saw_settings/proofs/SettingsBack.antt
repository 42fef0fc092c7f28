-- Written settings and written candidates are read back.
use Rattle.std.proofs.Common.{◌≡◌, List, map, refl}
use Rattle.std.specs.List.{filter_map}
use Rattle.saw_wire.specs.Pieces.{Piece}
use Rattle.saw_wire.specs.Writing.{spelled}
use Rattle.saw_wire.specs.Fields.{all_bytes, number_in}
use Rattle.saw_wire.proofs.FieldsBack.{field_values, bytes_values, number_values, bytes_back, small_back, items_back, message_back, IsFine, ◌and◌}
use Rattle.saw_wire.proofs.FieldsBack.{text_fine, items_fine, message_fine, ComesBack, comes_back, is_read}
use Rattle.saw_settings.specs.declared.setting.Setting.{Setting}
use Rattle.saw_settings.specs.declared.setting.SettingEntry.{SettingEntry}
use Rattle.saw_settings.specs.declared.payload.SettingProposal.{SettingProposal}
use Rattle.saw_settings.specs.declared.candidate.VoteRecord.{VoteRecord}
use Rattle.saw_settings.specs.declared.candidate.SettingCandidate.{SettingCandidate}
use Rattle.saw_settings.specs.declared.candidate.SettingCandidates.{SettingCandidates}
use Rattle.saw_settings.specs.Messages.{entry_of, entry_fault, entry_pieces, entries_of, entries_fault, entries_pieces, proposal_of, proposal_fault}
use Rattle.saw_settings.specs.Messages.{proposal_pieces}
use Rattle.saw_settings.specs.Candidates.{vote_record_of, vote_record_fault, vote_record_pieces, candidate_of, candidate_fault, candidate_pieces}
use Rattle.saw_settings.specs.Candidates.{candidates_of, candidates_fault, candidates_pieces}
use Rattle.saw_settings.specs.ReadBack.{IsSettingEntry, IsSetting, IsSettingProposal, IsVoteRecord, IsSettingCandidate, IsSettingCandidates}
use Rattle.saw_settings.specs.ReadBack.{SettingIsReadBack, SettingCandidatesAreReadBack}

-- ---- entries

-- what the fields show
record EntryShows (m : SettingEntry) (pieces : List Piece) : Type 0 where
  key : all_bytes 1 pieces ≡ bytes_values m.key
  value : all_bytes 2 pieces ≡ bytes_values m.value

entry_shows : (m : SettingEntry) → EntryShows m (entry_pieces m)
entry_shows m = record { key = simp field_values; value = simp field_values }

entry_says : (m : SettingEntry) (pieces : List Piece) → EntryShows m pieces → entry_of pieces ≡ m
entry_says m pieces shown = rw (bytes_back 1 pieces m.key shown.key, bytes_back 2 pieces m.value shown.value) refl

entry_fine : (m : SettingEntry) (pieces : List Piece) → IsSettingEntry m → EntryShows m pieces → IsFine entry_fault pieces
entry_fine m pieces is shown = text_fine 1 pieces m.key shown.key is.key and text_fine 2 pieces m.value shown.value is.value

entry_back : (m : SettingEntry) → IsSettingEntry m → ComesBack entry_of entry_fault entry_pieces m
entry_back m is = comes_back entry_of entry_fault entry_pieces m is.fits (entry_fine m (entry_pieces m) is (entry_shows m))
    (entry_says m (entry_pieces m) (entry_shows m))

-- ---- settings

entries_shown : (m : Setting) → all_bytes 1 (entries_pieces m) ≡ map (λ one. spelled (entry_pieces one)) m.entries
entries_shown m = simp field_values

entries_say : (m : Setting) (pieces : List Piece) → IsSetting m → all_bytes 1 pieces ≡ map (λ one. spelled (entry_pieces one)) m.entries → entries_of pieces ≡ m
entries_say m pieces is shown = rw (items_back entry_back 1 pieces m.entries shown is.entries) refl

pub setting_is_read : SettingIsReadBack
setting_is_read m is =
    is_read (comes_back entries_of entries_fault entries_pieces m is.fits
    (items_fine entry_back 1 (entries_pieces m) m.entries (entries_shown m) is.entries) (entries_say m (entries_pieces m) is (entries_shown m)))

-- ---- proposals

record ProposalShows (m : SettingProposal) (pieces : List Piece) : Type 0 where
  setting : all_bytes 1 pieces ≡ bytes_values m.setting
  value : all_bytes 2 pieces ≡ bytes_values m.value
  nonce : all_bytes 3 pieces ≡ bytes_values m.nonce

proposal_shows : (m : SettingProposal) → ProposalShows m (proposal_pieces m)
proposal_shows m = record { setting = simp field_values; value = simp field_values; nonce = simp field_values }

proposal_says : (m : SettingProposal) (pieces : List Piece) → ProposalShows m pieces → proposal_of pieces ≡ m
proposal_says m pieces shown = rw (
  bytes_back 1 pieces m.setting shown.setting,
  bytes_back 2 pieces m.value shown.value,
  bytes_back 3 pieces m.nonce
      shown.nonce,
) refl

proposal_fine : (m : SettingProposal) (pieces : List Piece) → IsSettingProposal m → ProposalShows m pieces → IsFine proposal_fault pieces
proposal_fine m pieces is shown =
    text_fine 1 pieces m.setting shown.setting is.setting
    and text_fine 2 pieces m.value shown.value is.value
    and text_fine 3 pieces m.nonce shown.nonce is.nonce

proposal_back : (m : SettingProposal) → IsSettingProposal m → ComesBack proposal_of proposal_fault proposal_pieces m
proposal_back m is =
    comes_back proposal_of proposal_fault proposal_pieces m is.fits (proposal_fine m (proposal_pieces m) is (proposal_shows m))
    (proposal_says m (proposal_pieces m) (proposal_shows m))

-- ---- vote records

record VoteShows (m : VoteRecord) (pieces : List Piece) : Type 0 where
  public_key : all_bytes 1 pieces ≡ bytes_values m.public_key
  vote : filter_map (number_in 2) pieces ≡ number_values m.vote

vote_shows : (m : VoteRecord) → VoteShows m (vote_record_pieces m)
vote_shows m = record { public_key = simp field_values; vote = simp field_values }

vote_says : (m : VoteRecord) (pieces : List Piece) → IsVoteRecord m → VoteShows m pieces → vote_record_of pieces ≡ m
vote_says m pieces is shown = rw (bytes_back 1 pieces m.public_key shown.public_key, small_back 2 pieces m.vote shown.vote is.vote) refl

vote_fine : (m : VoteRecord) (pieces : List Piece) → IsVoteRecord m → VoteShows m pieces → IsFine vote_record_fault pieces
vote_fine m pieces is shown = text_fine 1 pieces m.public_key shown.public_key is.public_key

vote_back : (m : VoteRecord) → IsVoteRecord m → ComesBack vote_record_of vote_record_fault vote_record_pieces m
vote_back m is =
    comes_back vote_record_of vote_record_fault vote_record_pieces m is.fits (vote_fine m (vote_record_pieces m) is (vote_shows m))
    (vote_says m (vote_record_pieces m) is (vote_shows m))

-- ---- candidates

record CandidateShows (m : SettingCandidate) (pieces : List Piece) : Type 0 where
  proposal_id : all_bytes 1 pieces ≡ bytes_values m.proposal_id
  proposal : all_bytes 2 pieces ≡ bytes_values (spelled (proposal_pieces m.proposal))
  votes : all_bytes 3 pieces ≡ map (λ one. spelled (vote_record_pieces one)) m.votes

candidate_shows : (m : SettingCandidate) → CandidateShows m (candidate_pieces m)
candidate_shows m = record { proposal_id = simp field_values; proposal = simp field_values; votes = simp field_values }

candidate_says : (m : SettingCandidate) (pieces : List Piece) → IsSettingCandidate m → CandidateShows m pieces → candidate_of pieces ≡ m
candidate_says m pieces is shown =
    rw (
      bytes_back 1 pieces m.proposal_id shown.proposal_id,
      message_back 2 pieces m.proposal shown.proposal (proposal_back m.proposal is.proposal),
      items_back vote_back 3 pieces m.votes shown.votes is.votes,
    ) refl

candidate_fine : (m : SettingCandidate) (pieces : List Piece) → IsSettingCandidate m → CandidateShows m pieces → IsFine candidate_fault pieces
candidate_fine m pieces is shown =
    text_fine 1 pieces m.proposal_id shown.proposal_id is.proposal_id
    and message_fine 2 pieces m.proposal shown.proposal (proposal_back m.proposal is.proposal)
    and items_fine vote_back 3 pieces m.votes shown.votes is.votes

candidate_back : (m : SettingCandidate) → IsSettingCandidate m → ComesBack candidate_of candidate_fault candidate_pieces m
candidate_back m is =
    comes_back candidate_of candidate_fault candidate_pieces m is.fits (candidate_fine m (candidate_pieces m) is (candidate_shows m))
    (candidate_says m (candidate_pieces m) is (candidate_shows m))

candidates_shown : (m : SettingCandidates) → all_bytes 1 (candidates_pieces m) ≡ map (λ one. spelled (candidate_pieces one)) m.candidates
candidates_shown m = simp field_values

candidates_say : (m : SettingCandidates) (pieces : List Piece) → IsSettingCandidates m
    → all_bytes 1 pieces ≡ map (λ one. spelled (candidate_pieces one)) m.candidates → candidates_of pieces ≡ m
candidates_say m pieces is shown = rw (items_back candidate_back 1 pieces m.candidates shown is.candidates) refl

pub setting_candidates_are_read : SettingCandidatesAreReadBack
setting_candidates_are_read m is =
    is_read (
    comes_back candidates_of candidates_fault candidates_pieces m is.fits
    (items_fine candidate_back 1 (candidates_pieces m) m.candidates (candidates_shown m) is.candidates)
    (candidates_say m (candidates_pieces m) is (candidates_shown m))
    )
