-- The block of a candidate.
use Rattle.std.specs.Prelude.{ℕ, ◌+◌, List, map, codes, Option, Some, None}
use Rattle.hex.specs.Hex.{encode_lower}
use Rattle.saw_messages.specs.Blocks.{block_header_pieces, block_pieces}
use Rattle.saw_messages.specs.declared.batch.Batch.{Batch}
use Rattle.saw_messages.specs.declared.block.Block.{Block}
use Rattle.saw_messages.specs.declared.block.BlockHeader.{BlockHeader}
use Rattle.saw_node.specs.Trees.{root_of_map}
use Rattle.saw_receipts.specs.Branches.{no_block}
use Rattle.saw_receipts.specs.declared.block.Parent.{Parent}
use Rattle.saw_wire.specs.Writing.{spelled}
use Rattle.saw_publish.specs.Drafts.{Draft}

-- who signs: the key's text, and the signature's text over a message
pub record Signing : Type 0 where
  pub key : List ℕ
  pub signature : List ℕ → List ℕ

-- the number of a block behind its parent; a first block has number 0
abbrev pub number_behind : Option Parent → ℕ
number_behind None = 0
number_behind (Some parent) = parent.number + 1

-- what it states as the id of the block before it
abbrev pub previous_of : Option Parent → List ℕ
previous_of None = no_block
previous_of (Some parent) = parent.id

-- the header of a block with batches of these ids, behind this parent, that leaves a map with this root
abbrev pub header_with : List ℕ → Option Parent → List (List ℕ) → List ℕ → BlockHeader
header_with key parent ids root = record {
  block_num = number_behind parent;
  previous_block_id = previous_of parent;
  signer_public_key = key;
  batch_ids = ids;
  consensus = codes "Devmode";
  state_root_hash = encode_lower root;
}

abbrev pub header_of : List ℕ → Option Parent → List Batch → List ℕ → BlockHeader
header_of key parent batches root = header_with key parent (map (λ batch. batch.header_signature) batches) root

abbrev pub signed_block : (List ℕ → List ℕ) → List ℕ → List Batch → Block
signed_block signature header batches = record { header = header; header_signature = signature header; batches = batches }

-- the block of a draft, signed over the bytes of its header
abbrev pub block_of : (List ℕ → List ℕ) → Signing → Option Parent → Draft → Block
block_of hash signing parent draft =
    signed_block signing.signature (spelled (block_header_pieces (header_of signing.key parent draft.applied (root_of_map hash draft.left)))) draft.applied

-- its bytes
abbrev pub content_of : (List ℕ → List ℕ) → Signing → Option Parent → Draft → List ℕ
content_of hash signing parent draft = spelled (block_pieces (block_of hash signing parent draft))
