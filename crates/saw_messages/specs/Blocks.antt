-- Blocks and their headers, as records say them.
use Rattle.std.specs.Prelude.{◌++◌, List, ℕ, Option, Result}
use Rattle.saw_wire.specs.Pieces.{Piece}
use Rattle.saw_wire.specs.Writing.{bytes_pieces, number_pieces}
use Rattle.saw_wire.specs.Written.{items_pieces, texts_pieces}
use Rattle.saw_wire.specs.Fields.{all_bytes, all_items, item_fault, last_bytes, last_number, text_fault}
use Rattle.saw_wire.specs.MessageReading.{reading}
use Rattle.saw_wire.specs.declared.fault.MessageFault.{MessageFault}
use Rattle.saw_wire.specs.MessageFaults.{◌<|>◌}
use Rattle.saw_messages.specs.Batches.{batch_of, batch_fault, batch_pieces}
use Rattle.saw_messages.specs.declared.block.Block.{Block}
use Rattle.saw_messages.specs.declared.block.BlockHeader.{BlockHeader}

-- the block that records say
abbrev pub block_of : List Piece → Block
block_of pieces = record {
  header = last_bytes 1 pieces;
  header_signature = last_bytes 2 pieces;
  batches = all_items batch_of 3 pieces;
}

abbrev pub block_fault : Piece → Option MessageFault
block_fault piece = text_fault 2 piece <|> item_fault batch_fault 3 piece

abbrev pub block : List ℕ → Result Block MessageFault
block bytes = reading block_of block_fault bytes

-- the records that are written for it
abbrev pub block_pieces : Block → List Piece
block_pieces m = bytes_pieces 1 m.header ++ bytes_pieces 2 m.header_signature ++ items_pieces batch_pieces 3 m.batches

-- the block header that records say
abbrev pub block_header_of : List Piece → BlockHeader
block_header_of pieces = record {
  block_num = last_number 1 pieces;
  previous_block_id = last_bytes 2 pieces;
  signer_public_key = last_bytes 3 pieces;
  batch_ids = all_bytes 4 pieces;
  consensus = last_bytes 5 pieces;
  state_root_hash = last_bytes 6 pieces;
}

abbrev pub block_header_fault : Piece → Option MessageFault
block_header_fault piece = text_fault 2 piece <|> text_fault 3 piece <|> text_fault 4 piece <|> text_fault 6 piece

abbrev pub block_header : List ℕ → Result BlockHeader MessageFault
block_header bytes = reading block_header_of block_header_fault bytes

-- the records that are written for it
abbrev pub block_header_pieces : BlockHeader → List Piece
block_header_pieces m = number_pieces 1 m.block_num ++ bytes_pieces 2 m.previous_block_id ++ bytes_pieces 3 m.signer_public_key ++ texts_pieces 4 m.batch_ids ++ bytes_pieces 5 m.consensus ++ bytes_pieces 6 m.state_root_hash
