-- What is kept of a setting, and the payloads of the family, as records say them.
use Rattle.std.specs.Prelude.{◌++◌, List, ℕ, Option, None, Result}
use Rattle.saw_wire.specs.Pieces.{Piece}
use Rattle.saw_wire.specs.Writing.{bytes_pieces, number_pieces}
use Rattle.saw_wire.specs.Written.{items_pieces}
use Rattle.saw_wire.specs.Fields.{all_items, item_fault, last_bytes, last_small, text_fault}
use Rattle.saw_wire.specs.MessageReading.{reading}
use Rattle.saw_wire.specs.declared.fault.MessageFault.{MessageFault}
use Rattle.saw_wire.specs.MessageFaults.{◌<|>◌}
use Rattle.saw_settings.specs.declared.setting.Setting.{Setting}
use Rattle.saw_settings.specs.declared.setting.SettingEntry.{SettingEntry}
use Rattle.saw_settings.specs.declared.payload.SettingsPayload.{SettingsPayload}
use Rattle.saw_settings.specs.declared.payload.SettingProposal.{SettingProposal}
use Rattle.saw_settings.specs.declared.payload.SettingVote.{SettingVote}

-- the entry that records say
abbrev pub entry_of : List Piece → SettingEntry
entry_of pieces = record {
  key = last_bytes 1 pieces;
  value = last_bytes 2 pieces;
}

abbrev pub entry_fault : Piece → Option MessageFault
entry_fault piece = text_fault 1 piece <|> text_fault 2 piece

-- the records that are written for it
abbrev pub entry_pieces : SettingEntry → List Piece
entry_pieces m = bytes_pieces 1 m.key ++ bytes_pieces 2 m.value

-- the entries that records say
abbrev pub entries_of : List Piece → Setting
entries_of pieces = record { entries = all_items entry_of 1 pieces }

abbrev pub entries_fault : Piece → Option MessageFault
entries_fault piece = item_fault entry_fault 1 piece

abbrev pub setting : List ℕ → Result Setting MessageFault
setting bytes = reading entries_of entries_fault bytes

-- the records that are written for them
abbrev pub entries_pieces : Setting → List Piece
entries_pieces m = items_pieces entry_pieces 1 m.entries

-- the payload that records say
abbrev pub payload_of : List Piece → SettingsPayload
payload_of pieces = record {
  action = last_small 1 pieces;
  body = last_bytes 2 pieces;
}

abbrev pub payload_fault : Piece → Option MessageFault
payload_fault piece = None

abbrev pub settings_payload : List ℕ → Result SettingsPayload MessageFault
settings_payload bytes = reading payload_of payload_fault bytes

-- the records that are written for it
abbrev pub payload_pieces : SettingsPayload → List Piece
payload_pieces m = number_pieces 1 m.action ++ bytes_pieces 2 m.body

-- the proposal that records say
abbrev pub proposal_of : List Piece → SettingProposal
proposal_of pieces = record {
  setting = last_bytes 1 pieces;
  value = last_bytes 2 pieces;
  nonce = last_bytes 3 pieces;
}

abbrev pub proposal_fault : Piece → Option MessageFault
proposal_fault piece = text_fault 1 piece <|> text_fault 2 piece <|> text_fault 3 piece

abbrev pub setting_proposal : List ℕ → Result SettingProposal MessageFault
setting_proposal bytes = reading proposal_of proposal_fault bytes

-- the records that are written for it
abbrev pub proposal_pieces : SettingProposal → List Piece
proposal_pieces m = bytes_pieces 1 m.setting ++ bytes_pieces 2 m.value ++ bytes_pieces 3 m.nonce

-- the vote that records say
abbrev pub vote_of : List Piece → SettingVote
vote_of pieces = record {
  proposal_id = last_bytes 1 pieces;
  vote = last_small 2 pieces;
}

abbrev pub vote_fault : Piece → Option MessageFault
vote_fault piece = text_fault 1 piece

abbrev pub setting_vote : List ℕ → Result SettingVote MessageFault
setting_vote bytes = reading vote_of vote_fault bytes

-- the records that are written for it
abbrev pub vote_pieces : SettingVote → List Piece
vote_pieces m = bytes_pieces 1 m.proposal_id ++ number_pieces 2 m.vote
