-- Batches, their headers and lists of batches, as records say them.
use Rattle.std.specs.Prelude.{◌++◌, List, ℕ, Option, Result}
use Rattle.saw_wire.specs.Pieces.{Piece}
use Rattle.saw_wire.specs.Writing.{bytes_pieces}
use Rattle.saw_wire.specs.Written.{flag_pieces, items_pieces, texts_pieces}
use Rattle.saw_wire.specs.Fields.{all_bytes, all_items, item_fault, last_bytes, last_flag, text_fault}
use Rattle.saw_wire.specs.MessageReading.{reading}
use Rattle.saw_wire.specs.declared.fault.MessageFault.{MessageFault}
use Rattle.saw_wire.specs.MessageFaults.{◌<|>◌}
use Rattle.saw_messages.specs.Transactions.{transaction_of, transaction_fault, transaction_pieces}
use Rattle.saw_messages.specs.declared.batch.Batch.{Batch}
use Rattle.saw_messages.specs.declared.batch.BatchHeader.{BatchHeader}
use Rattle.saw_messages.specs.declared.batch.BatchList.{BatchList}

-- the batch that records say
abbrev pub batch_of : List Piece → Batch
batch_of pieces = record {
  header = last_bytes 1 pieces;
  header_signature = last_bytes 2 pieces;
  transactions = all_items transaction_of 3 pieces;
  trace = last_flag 4 pieces;
}

abbrev pub batch_fault : Piece → Option MessageFault
batch_fault piece = text_fault 2 piece <|> item_fault transaction_fault 3 piece

abbrev pub batch : List ℕ → Result Batch MessageFault
batch bytes = reading batch_of batch_fault bytes

-- the records that are written for it
abbrev pub batch_pieces : Batch → List Piece
batch_pieces m = bytes_pieces 1 m.header ++ bytes_pieces 2 m.header_signature ++ items_pieces transaction_pieces 3 m.transactions ++ flag_pieces 4 m.trace

-- the batch header that records say
abbrev pub batch_header_of : List Piece → BatchHeader
batch_header_of pieces = record {
  signer_public_key = last_bytes 1 pieces;
  transaction_ids = all_bytes 2 pieces;
}

abbrev pub batch_header_fault : Piece → Option MessageFault
batch_header_fault piece = text_fault 1 piece <|> text_fault 2 piece

abbrev pub batch_header : List ℕ → Result BatchHeader MessageFault
batch_header bytes = reading batch_header_of batch_header_fault bytes

-- the records that are written for it
abbrev pub batch_header_pieces : BatchHeader → List Piece
batch_header_pieces m = bytes_pieces 1 m.signer_public_key ++ texts_pieces 2 m.transaction_ids

-- the batch list that records say
abbrev pub batch_list_of : List Piece → BatchList
batch_list_of pieces = record {
  batches = all_items batch_of 1 pieces;
}

abbrev pub batch_list_fault : Piece → Option MessageFault
batch_list_fault piece = item_fault batch_fault 1 piece

abbrev pub batch_list : List ℕ → Result BatchList MessageFault
batch_list bytes = reading batch_list_of batch_list_fault bytes

-- the records that are written for it
abbrev pub batch_list_pieces : BatchList → List Piece
batch_list_pieces m = items_pieces batch_pieces 1 m.batches
