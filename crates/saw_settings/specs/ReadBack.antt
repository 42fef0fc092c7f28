-- What is written for a message of the family is read back as that message.
use Rattle.std.specs.Prelude.{◌≡◌, ◌<◌, ◌^◌, List, Some, Ok}
use Rattle.std.specs.List.{AllByRecursion}
use Rattle.saw_wire.specs.Writing.{spelled, AreWritable}
use Rattle.saw_messages.specs.ReadBack.{IsText}
use Rattle.saw_settings.specs.declared.setting.Setting.{Setting}
use Rattle.saw_settings.specs.declared.setting.SettingEntry.{SettingEntry}
use Rattle.saw_settings.specs.declared.payload.SettingProposal.{SettingProposal}
use Rattle.saw_settings.specs.declared.candidate.VoteRecord.{VoteRecord}
use Rattle.saw_settings.specs.declared.candidate.SettingCandidate.{SettingCandidate}
use Rattle.saw_settings.specs.declared.candidate.SettingCandidates.{SettingCandidates}
use Rattle.saw_settings.specs.Messages.{setting, entries_pieces, entry_pieces, proposal_pieces}
use Rattle.saw_settings.specs.Candidates.{setting_candidates, candidates_pieces, candidate_pieces, vote_record_pieces}
use Rattle.saw_settings.specs.Values.{candidates_in, kept_text}

-- ---- what each value of a message type is: its texts are UTF-8, and its numbers and lengths fit their types

pub record IsSettingEntry (m : SettingEntry) : Type 0 where
  pub key : IsText m.key
  pub value : IsText m.value
  pub fits : AreWritable (entry_pieces m)

pub record IsSetting (m : Setting) : Type 0 where
  pub entries : AllByRecursion IsSettingEntry m.entries
  pub fits : AreWritable (entries_pieces m)

pub record IsSettingProposal (m : SettingProposal) : Type 0 where
  pub setting : IsText m.setting
  pub value : IsText m.value
  pub nonce : IsText m.nonce
  pub fits : AreWritable (proposal_pieces m)

pub record IsVoteRecord (m : VoteRecord) : Type 0 where
  pub public_key : IsText m.public_key
  pub vote : m.vote < 2 ^ 32
  pub fits : AreWritable (vote_record_pieces m)

pub record IsSettingCandidate (m : SettingCandidate) : Type 0 where
  pub proposal_id : IsText m.proposal_id
  pub proposal : IsSettingProposal m.proposal
  pub votes : AllByRecursion IsVoteRecord m.votes
  pub fits : AreWritable (candidate_pieces m)

pub record IsSettingCandidates (m : SettingCandidates) : Type 0 where
  pub candidates : AllByRecursion IsSettingCandidate m.candidates
  pub fits : AreWritable (candidates_pieces m)

-- ---- the laws

abbrev pub SettingIsReadBack : Type 0
SettingIsReadBack = (m : Setting) → IsSetting m → setting (spelled (entries_pieces m)) ≡ Ok m

abbrev pub SettingCandidatesAreReadBack : Type 0
SettingCandidatesAreReadBack = (m : SettingCandidates) → IsSettingCandidates m → setting_candidates (spelled (candidates_pieces m)) ≡ Ok m

-- candidates as they are kept are read as those candidates
abbrev pub KeptTextIsReadBack : Type 0
KeptTextIsReadBack = (candidates : List SettingCandidate) → IsSettingCandidates (record { candidates = candidates }) → candidates_in (kept_text candidates) ≡ Some candidates
