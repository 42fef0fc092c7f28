-- What is true of texts, prefixes and states.
use Rattle.std.specs.Prelude.{◌≡◌, ◌↔◌, ◌≤◌, ℕ, true, List, length, take, Option, if◌then◌else◌}
use Rattle.std.specs.Str.{bytes_eq}
use Rattle.hex.specs.Hex.{encode_lower}
use Rattle.saw_address.specs.Maps.{StateMap, value_at, changed_at, is_address}
use Rattle.saw_address.specs.Prefixes.{covers, overlaps}
use Rattle.saw_address.specs.Texts.{is_address_text}

-- what covering means: the first bytes of the address are the prefix
abbrev pub CoversMeans : Type 0
CoversMeans = (prefix address : List ℕ) → (covers prefix address ≡ true) ↔ (take (length prefix) address ≡ prefix)

-- prefixes overlap exactly where some address is covered by both
abbrev pub OverlapsMeans : Type 0
OverlapsMeans = (first second : List ℕ) → length first ≤ 35 → length second ≤ 35
    → (overlaps first second ≡ true) ↔ ((address : List ℕ) × (length address ≡ 35) × (covers first address ≡ true) × (covers second address ≡ true))

-- an address is written as an address text
abbrev pub AddressIsText : Type 0
AddressIsText = (address : List ℕ) → is_address address ≡ true → is_address_text (encode_lower address) ≡ true

-- different addresses are written differently
abbrev pub TextIsOne : Type 0
TextIsOne = (first second : List ℕ) → is_address first ≡ true → is_address second ≡ true → encode_lower first ≡ encode_lower second → first ≡ second

-- what is read after a change
abbrev pub ReadAfterChange : Type 0
ReadAfterChange = (m : StateMap) (address : List ℕ) (value : Option (List ℕ)) (at : List ℕ)
    → value_at (changed_at m address value) at ≡ (if bytes_eq address at then value else value_at m at)

-- states that have the same everywhere are equal
abbrev pub SameEverywhere : Type 0
SameEverywhere = (m n : StateMap) → ((at : List ℕ) → value_at m at ≡ value_at n at) → m ≡ n
