-- What the family keeps at an address: names with their values, as a CBOR map.
use Rattle.std.specs.Prelude.{ℕ, ◌+◌, ◌-◌, Bool, List, [], ◌∷◌, ◌++◌, map, length, Option, Some, None, Result, Ok, Err, nat_le, ◌==◌, if◌then◌else◌}
use Rattle.std.specs.List.{list_any}
use Rattle.std.specs.Str.{bytes_eq}
use Rattle.saw_cbor.specs.Data.{unsigned, text, pairs, Pairs, no_pairs, pair}
use Rattle.saw_cbor.specs.Reading.{reading}
use Rattle.saw_cbor.specs.Writing.{written}
use Rattle.saw_intkey.specs.Payloads.{max_value, max_depth, text_in, unsigned_in, pairs_in}
use Rattle.saw_intkey.specs.declared.payload.Payload.{Payload}
use Rattle.saw_intkey.specs.declared.payload.Verb.{Verb}
use Rattle.saw_intkey.specs.declared.payload.Verb.TheVariants.{Set, Inc, Dec}

-- names with their values, in the order in which they are kept
abbrev pub Names : Type 0
Names = List (List ℕ × ℕ)

abbrev pub has_name : List ℕ → Names → Bool
has_name name names = list_any (λ entry. bytes_eq entry.0 name) names

abbrev pub with_entry : Option (List ℕ) → Option ℕ → Option Names → Option Names
with_entry (Some name) (Some value) (Some names) = if has_name name names then None else Some ((name, value) ∷ names)
with_entry _ _ _ = None

-- distinct texts with values that are not too great
abbrev pub names_in : Pairs → Option Names
names_in no_pairs = Some []
names_in (pair key value rest) = with_entry (text_in Some (Some key)) (unsigned_in (Some value)) (names_in rest)

abbrev pub names_by : Option Pairs → Option Names
names_by None = None
names_by (Some ps) = names_in ps

-- the names that bytes say; no bytes say no names
unfoldable pub names_of : List ℕ → Option Names
names_of whole = if length whole == 0 then Some [] else names_by (pairs_in (reading max_depth whole))

-- the value of a name
abbrev pub value_at : List ℕ → Names → Option ℕ
value_at name [] = None
value_at name (entry ∷ names) = if bytes_eq entry.0 name then Some entry.1 else value_at name names

-- a name with another value, in its place
abbrev pub replaced : List ℕ → ℕ → Names → Names
replaced name value names = map (λ entry. if bytes_eq entry.0 name then (entry.0, value) else entry) names

-- the number of the check that fails, or the new value: 107 the name is absent, 108 it is present, 109 the result is
-- neither below 0 nor too great
abbrev pub new_value : Verb → ℕ → Option ℕ → Result ℕ ℕ
new_value Set value None = Ok value
new_value Set value (Some kept) = Err 107
new_value Inc value None = Err 108
new_value Inc value (Some kept) = if nat_le (kept + value) max_value then Ok (kept + value) else Err 109
new_value Dec value None = Err 108
new_value Dec value (Some kept) = if nat_le value kept then Ok (kept - value) else Err 109

-- a changed name keeps its place, and a new one goes last
abbrev pub with_value_at : List ℕ → ℕ → Names → Names
with_value_at name value names = if has_name name names then replaced name value names else names ++ (name, value) ∷ []

abbrev pub changed_by : List ℕ → Names → Result ℕ ℕ → Result Names ℕ
changed_by name names (Ok value) = Ok (with_value_at name value names)
changed_by name names (Err number) = Err number

-- what a payload makes of the names
unfoldable pub changed : Payload → Names → Result Names ℕ
changed payload names = changed_by payload.name names (new_value payload.verb payload.value (value_at payload.name names))

abbrev pub pairs_of_names : Names → Pairs
pairs_of_names [] = no_pairs
pairs_of_names (entry ∷ names) = pair (text entry.0) (unsigned entry.1) (pairs_of_names names)

-- the bytes that are kept for names
unfoldable pub kept_bytes : Names → List ℕ
kept_bytes names = written (pairs (pairs_of_names names))
