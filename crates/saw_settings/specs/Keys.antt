-- Keys of settings, where each is kept, and what is kept there.
use Rattle.std.specs.Prelude.{ℕ, List, [], ◌∷◌, take, Option, Some, None, ◌==◌, if◌then◌else◌, codes}
use Rattle.std.specs.List.{before_first, after_first, flat_map}
use Rattle.std.specs.Str.{bytes_eq}
use Rattle.sha2.specs.Sha256.{sha256}
use Rattle.saw_settings.specs.declared.setting.SettingEntry.{SettingEntry}

-- who may propose and vote
abbrev pub authorized_keys : List ℕ
authorized_keys = codes "sawtooth.settings.vote.authorized_keys"

-- how many votes decide
abbrev pub approval_threshold : List ℕ
approval_threshold = codes "sawtooth.settings.vote.approval_threshold"

-- what is voted on
abbrev pub proposals : List ℕ
proposals = codes "sawtooth.settings.vote.proposals"

-- before the first dot, and behind it
abbrev pub head_part : List ℕ → List ℕ
head_part key = before_first (λ b. b == 46) key

abbrev pub tail_part : List ℕ → List ℕ
tail_part key = after_first (λ b. b == 46) key

-- a key is cut at its first three dots; missing parts are empty, and the last part may hold further dots
abbrev pub parts_of : List ℕ → List (List ℕ)
parts_of key = head_part key ∷ head_part (tail_part key) ∷ head_part (tail_part (tail_part key)) ∷ tail_part (tail_part (tail_part key)) ∷ []

-- three bytes 0, and then the first eight bytes of SHA-256 of each part
unfoldable pub address_of : List ℕ → List ℕ
address_of key = 0 ∷ 0 ∷ 0 ∷ flat_map (λ part. take 8 (sha256 part)) (parts_of key)

-- the value of the first entry with the key
abbrev pub value_in : List ℕ → List SettingEntry → Option (List ℕ)
value_in key [] = None
value_in key (entry ∷ entries) = if bytes_eq entry.key key then Some entry.value else value_in key entries

-- the first entry with the key changed, or a new one at the end
abbrev pub with_value : List ℕ → List ℕ → List SettingEntry → List SettingEntry
with_value key value [] = record { key = key; value = value } ∷ []
with_value key value (entry ∷ entries) = if bytes_eq entry.key key then record { key = key; value = value } ∷ entries else entry ∷ with_value key value entries
