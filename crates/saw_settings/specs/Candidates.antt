-- Proposals that are voted on, as records say them.
use Rattle.std.specs.Prelude.{◌++◌, List, ℕ, Option, Result}
use Rattle.saw_wire.specs.Pieces.{Piece}
use Rattle.saw_wire.specs.Writing.{bytes_pieces, number_pieces}
use Rattle.saw_wire.specs.Written.{items_pieces, message_pieces}
use Rattle.saw_wire.specs.Fields.{all_items, embedded, item_fault, last_bytes, last_small, text_fault}
use Rattle.saw_wire.specs.MessageReading.{reading}
use Rattle.saw_wire.specs.declared.fault.MessageFault.{MessageFault}
use Rattle.saw_wire.specs.MessageFaults.{◌<|>◌}
use Rattle.saw_settings.specs.Messages.{proposal_of, proposal_fault, proposal_pieces}
use Rattle.saw_settings.specs.declared.candidate.VoteRecord.{VoteRecord}
use Rattle.saw_settings.specs.declared.candidate.SettingCandidate.{SettingCandidate}
use Rattle.saw_settings.specs.declared.candidate.SettingCandidates.{SettingCandidates}

-- the vote record that records say
abbrev pub vote_record_of : List Piece → VoteRecord
vote_record_of pieces = record {
  public_key = last_bytes 1 pieces;
  vote = last_small 2 pieces;
}

abbrev pub vote_record_fault : Piece → Option MessageFault
vote_record_fault piece = text_fault 1 piece

-- the records that are written for it
abbrev pub vote_record_pieces : VoteRecord → List Piece
vote_record_pieces m = bytes_pieces 1 m.public_key ++ number_pieces 2 m.vote

-- the candidate that records say; the proposal is read from the records of all its occurrences
abbrev pub candidate_of : List Piece → SettingCandidate
candidate_of pieces = record {
  proposal_id = last_bytes 1 pieces;
  proposal = proposal_of (embedded 2 pieces);
  votes = all_items vote_record_of 3 pieces;
}

abbrev pub candidate_fault : Piece → Option MessageFault
candidate_fault piece = text_fault 1 piece <|> item_fault proposal_fault 2 piece <|> item_fault vote_record_fault 3 piece

-- the records that are written for it
abbrev pub candidate_pieces : SettingCandidate → List Piece
candidate_pieces m = bytes_pieces 1 m.proposal_id ++ message_pieces proposal_pieces 2 m.proposal ++ items_pieces vote_record_pieces 3 m.votes

-- the candidates that records say
abbrev pub candidates_of : List Piece → SettingCandidates
candidates_of pieces = record { candidates = all_items candidate_of 1 pieces }

abbrev pub candidates_fault : Piece → Option MessageFault
candidates_fault piece = item_fault candidate_fault 1 piece

abbrev pub setting_candidates : List ℕ → Result SettingCandidates MessageFault
setting_candidates bytes = reading candidates_of candidates_fault bytes

-- the records that are written for them
abbrev pub candidates_pieces : SettingCandidates → List Piece
candidates_pieces m = items_pieces candidate_pieces 1 m.candidates
