-- What is true of spelled and written items.
use Rattle.std.specs.Prelude.{◌≡◌, ◌≤◌, ℕ, List, Ok}
use Rattle.saw_cbor.specs.Data.{Cbor, nesting}
use Rattle.saw_cbor.specs.Spelling.{Spells}
use Rattle.saw_cbor.specs.Writing.{written, IsHeld}
use Rattle.saw_cbor.specs.Reading.{reading}

-- bytes spell at most one item
abbrev pub OneSpelling : Type 0
OneSpelling = (a b : Cbor) (whole : List ℕ) → Spells a whole → Spells b whole → a ≡ b

-- the written form of an item spells it
abbrev pub WrittenIsSpelled : Type 0
WrittenIsSpelled = (c : Cbor) → IsHeld c → Spells c (written c)

-- what is written is read back, where it does not nest too deep
abbrev pub WrittenIsRead : Type 0
WrittenIsRead = (depth : ℕ) (c : Cbor) → IsHeld c → nesting c ≤ depth → reading depth (written c) ≡ Ok c
