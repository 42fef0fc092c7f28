-- The bytes of declared prefixes, and a transaction added to a tree by them.
use Rattle.std.specs.Prelude.{◌≡◌, ℕ, List, filter, map}
use Rattle.hex.specs.Hex.{encode_lower}
use Rattle.saw_address.specs.Texts.{is_prefix_text}
use Rattle.saw_messages.specs.TxShapes.{TxShape}
use Rattle.saw_predtree.specs.Trees.{Adds, Tree}

-- the prefixes that are written among texts, in order
abbrev pub AreBytesOf : List (List ℕ) → List (List ℕ) → Type 0
AreBytesOf texts prefixes = map encode_lower prefixes ≡ filter is_prefix_text texts

-- a transaction was added, for which these were given
pub record AddsTx (old new : Tree) (k : ℕ) (tx : TxShape) (given : List ℕ) : Type 0 where
  pub inputs : List (List ℕ)
  pub outputs : List (List ℕ)
  pub inputs_are : AreBytesOf tx.header.inputs inputs
  pub outputs_are : AreBytesOf tx.header.outputs outputs
  pub adds : Adds old new k inputs outputs given
