-- Written blocks and their headers are read back.
use Rattle.std.proofs.Common.{◌≡◌, List, map, refl}
use Rattle.std.specs.List.{filter_map}
use Rattle.saw_wire.specs.Pieces.{Piece}
use Rattle.saw_wire.specs.Writing.{spelled}
use Rattle.saw_wire.specs.Fields.{all_bytes, number_in}
use Rattle.saw_wire.proofs.FieldsBack.{field_values, bytes_values, number_values, bytes_back, number_back, items_back, IsFine, ◌and◌, text_fine}
use Rattle.saw_wire.proofs.FieldsBack.{texts_fine, items_fine, ComesBack, comes_back, is_read}
use Rattle.saw_messages.specs.declared.block.Block.{Block}
use Rattle.saw_messages.specs.declared.block.BlockHeader.{BlockHeader}
use Rattle.saw_messages.specs.Batches.{batch_pieces}
use Rattle.saw_messages.specs.Blocks.{block_of, block_fault, block_pieces, block_header_of, block_header_fault, block_header_pieces}
use Rattle.saw_messages.specs.ReadBack.{IsBlock, IsBlockHeader, BlockIsReadBack, BlockHeaderIsReadBack}
use Rattle.saw_messages.proofs.BatchesBack.{batch_back}

-- ---- blocks

-- what the fields show
record SpelledBy (m : Block) (pieces : List Piece) : Type 0 where
  header : all_bytes 1 pieces ≡ bytes_values m.header
  header_signature : all_bytes 2 pieces ≡ bytes_values m.header_signature
  batches : all_bytes 3 pieces ≡ map (λ one. spelled (batch_pieces one)) m.batches

shows : (m : Block) → SpelledBy m (block_pieces m)
shows m = record { header = simp field_values; header_signature = simp field_values; batches = simp field_values }

says : (m : Block) (pieces : List Piece) → IsBlock m → SpelledBy m pieces → block_of pieces ≡ m
says m pieces is shown =
    rw (
      bytes_back 1 pieces m.header shown.header,
      bytes_back 2 pieces m.header_signature shown.header_signature,
      items_back batch_back 3 pieces
          m.batches shown.batches is.batches,
    ) refl

fine : (m : Block) (pieces : List Piece) → IsBlock m → SpelledBy m pieces → IsFine block_fault pieces
fine m pieces is shown =
    text_fine 2 pieces m.header_signature shown.header_signature is.header_signature
    and items_fine batch_back 3 pieces m.batches shown.batches is.batches

pub block_back : (m : Block) → IsBlock m → ComesBack block_of block_fault block_pieces m
block_back m is = comes_back block_of block_fault block_pieces m is.fits (fine m (block_pieces m) is (shows m)) (says m (block_pieces m) is (shows m))

pub block_is_read : BlockIsReadBack
block_is_read m is = is_read (block_back m is)

-- ---- headers

record HeaderShows (m : BlockHeader) (pieces : List Piece) : Type 0 where
  block_num : filter_map (number_in 1) pieces ≡ number_values m.block_num
  previous_block_id : all_bytes 2 pieces ≡ bytes_values m.previous_block_id
  signer_public_key : all_bytes 3 pieces ≡ bytes_values m.signer_public_key
  batch_ids : all_bytes 4 pieces ≡ m.batch_ids
  consensus : all_bytes 5 pieces ≡ bytes_values m.consensus
  state_root_hash : all_bytes 6 pieces ≡ bytes_values m.state_root_hash

header_shows : (m : BlockHeader) → HeaderShows m (block_header_pieces m)
header_shows m = record {
  block_num = simp field_values;
  previous_block_id = simp field_values;
  signer_public_key = simp field_values;
  batch_ids = simp field_values;
  consensus = simp field_values;
  state_root_hash = simp field_values;
}

header_says : (m : BlockHeader) (pieces : List Piece) → HeaderShows m pieces → block_header_of pieces ≡ m
header_says m pieces shown =
    rw (
      number_back 1 pieces m.block_num shown.block_num,
      bytes_back 2 pieces m.previous_block_id shown.previous_block_id,
      bytes_back 3 pieces m.signer_public_key shown.signer_public_key,
      shown.batch_ids,
      bytes_back 5 pieces m.consensus shown.consensus,
      bytes_back 6 pieces m.state_root_hash shown.state_root_hash,
    ) refl

header_fine : (m : BlockHeader) (pieces : List Piece) → IsBlockHeader m → HeaderShows m pieces → IsFine block_header_fault pieces
header_fine m pieces is shown =
    text_fine 2 pieces m.previous_block_id shown.previous_block_id is.previous_block_id
    and text_fine 3 pieces m.signer_public_key shown.signer_public_key is.signer_public_key
    and texts_fine 4 pieces m.batch_ids shown.batch_ids is.batch_ids
    and text_fine 6 pieces m.state_root_hash shown.state_root_hash is.state_root_hash

pub block_header_back : (m : BlockHeader) → IsBlockHeader m → ComesBack block_header_of block_header_fault block_header_pieces m
block_header_back m is =
    comes_back block_header_of block_header_fault block_header_pieces m is.fits (header_fine m (block_header_pieces m) is (header_shows m))
    (header_says m (block_header_pieces m) (header_shows m))

pub block_header_is_read : BlockHeaderIsReadBack
block_header_is_read m is = is_read (block_header_back m is)
