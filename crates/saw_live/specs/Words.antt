-- Heads in words.
use Rattle.std.specs.Prelude.{ℕ, List}
use Rattle.std.specs.Int.{to_be_bytes, w64}
use Rattle.std.specs.List.{flat_map}
use Rattle.hex.specs.Hex.{encode_lower}
use Rattle.saw_live.specs.declared.rule.HeadWords.{HeadWords}

-- the bytes of words, the highest of each first
abbrev pub bytes_of : List ℕ → List ℕ
bytes_of words = flat_map (to_be_bytes w64) words

-- a head: the digits of the block's id, and the root of the state that it leaves
pub record Head : Type 0 where
  pub id : List ℕ
  pub root : List ℕ

abbrev pub head : List ℕ → List ℕ → Head
head id root = record { id = id; root = root }

-- the one that words stand for
abbrev pub head_in : HeadWords → Head
head_in words = head (encode_lower (bytes_of words.id)) (bytes_of words.root)
