-- What the values of the family's own settings say.
use Rattle.std.specs.Prelude.{ℕ, ◌-◌, Bool, ◌&&◌, not, List, [], filter, map, length, drop, reverse, Option, Some, None, Result, Ok, Err, nat_le, ◌==◌, if◌then◌else◌}
use Rattle.std.specs.Int.Digits.{number_from_digits}
use Rattle.std.specs.List.{list_all, prefix_len, slice_split}
use Rattle.base64.specs.Engines.{standard}
use Rattle.base64.specs.GeneralPurpose.{encode_of, decode_of}
use Rattle.saw_wire.specs.Writing.{spelled}
use Rattle.saw_wire.specs.declared.fault.MessageFault.{MessageFault}
use Rattle.saw_settings.specs.Candidates.{setting_candidates, candidates_pieces}
use Rattle.saw_settings.specs.declared.candidate.SettingCandidate.{SettingCandidate}
use Rattle.saw_settings.specs.declared.candidate.SettingCandidates.{SettingCandidates}

-- ---- authorized keys

abbrev pub without_spaces : List ℕ → List ℕ
without_spaces text = drop (prefix_len (λ b. b == 32) text) text

-- a text without the spaces at both ends
abbrev pub trimmed : List ℕ → List ℕ
trimmed text = reverse (without_spaces (reverse (without_spaces text)))

-- the parts between commas, trimmed, of which empty ones are none
abbrev pub keys_in : List ℕ → List (List ℕ)
keys_in text = filter (λ key. not (length key == 0)) (map trimmed (slice_split (λ b. b == 44) text))

-- no setting names no keys
abbrev pub keys_of : Option (List ℕ) → List (List ℕ)
keys_of None = []
keys_of (Some text) = keys_in text

-- ---- the threshold

abbrev pub is_digit : ℕ → Bool
is_digit c = nat_le 48 c && nat_le c 57

-- 1 to 9 decimal digits
abbrev pub is_number : List ℕ → Bool
is_number text = nat_le 1 (length text) && nat_le (length text) 9 && list_all is_digit text

unfoldable pub number_in : List ℕ → Option ℕ
number_in text = if is_number text then Some (number_from_digits 10 (map (λ c. c - 48) text)) else None

-- no setting means 1
abbrev pub threshold_of : Option (List ℕ) → Option ℕ
threshold_of None = Some 1
threshold_of (Some text) = number_in text

-- ---- the candidates

abbrev pub candidates_read : Result SettingCandidates MessageFault → Option (List SettingCandidate)
candidates_read (Ok read) = Some read.candidates
candidates_read (Err e) = None

abbrev pub candidates_by : {E : Type 0} → Result (List ℕ) E → Option (List SettingCandidate)
candidates_by (Ok bytes) = candidates_read (setting_candidates bytes)
candidates_by (Err e) = None

-- the Base64 reading of the text (RFC 4648, section 4); the empty text means none
unfoldable pub candidates_in : List ℕ → Option (List SettingCandidate)
candidates_in text = if length text == 0 then Some [] else candidates_by (decode_of standard text)

-- no setting means none
abbrev pub candidates_of_value : Option (List ℕ) → Option (List SettingCandidate)
candidates_of_value None = Some []
candidates_of_value (Some text) = candidates_in text

-- candidates as they are kept
unfoldable pub kept_text : List SettingCandidate → List ℕ
kept_text candidates = encode_of standard (spelled (candidates_pieces (record { candidates = candidates })))
