-- What is written is read back.
use Rattle.std.specs.Prelude.{◌≡◌, ◌<◌, ◌≤◌, ◌^◌, ℕ, true, List, length, map, Some, Ok}
use Rattle.std.specs.List.{AllByRecursion}
use Rattle.std.specs.Str.{chars, is_utf8}
use Rattle.saw_messages.specs.Distinct.{are_distinct}
use Rattle.saw_intkey.specs.Payloads.{max_value, payload_bytes, payload_of}
use Rattle.saw_intkey.specs.declared.payload.Payload.{Payload}
use Rattle.saw_intkey.specs.States.{Names, kept_bytes, names_of}

-- a text that a program can hold, with a value that is not too great
pub record IsCounter (entry : List ℕ × ℕ) : Type 0 where
  pub utf8 : is_utf8 entry.0 ≡ true
  pub short : length entry.0 < 2 ^ 64
  pub fits : entry.1 ≤ max_value

-- the names that are kept are those that are read, in their order
abbrev pub KeptIsRead : Type 0
KeptIsRead = (names : Names) → AllByRecursion IsCounter names → are_distinct (map (λ entry. entry.0) names) ≡ true → length names < 2 ^ 64 → names_of (kept_bytes names) ≡ Some names

-- a payload whose name is a text of 1 to 20 characters
pub record IsPayload (payload : Payload) : Type 0 where
  pub utf8 : is_utf8 payload.name ≡ true
  pub short : length payload.name < 2 ^ 64
  pub some : 1 ≤ length (chars payload.name)
  pub few : length (chars payload.name) ≤ 20
  pub fits : payload.value ≤ max_value

-- the payload that is written is the one that is read
abbrev pub PayloadIsRead : Type 0
PayloadIsRead = (payload : Payload) → IsPayload payload → payload_of (payload_bytes payload) ≡ Ok payload
