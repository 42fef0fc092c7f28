-- Transactions and their headers, as records say them.
use Rattle.std.specs.Prelude.{◌++◌, List, ℕ, Option, Result}
use Rattle.saw_wire.specs.Pieces.{Piece}
use Rattle.saw_wire.specs.Writing.{bytes_pieces}
use Rattle.saw_wire.specs.Written.{texts_pieces}
use Rattle.saw_wire.specs.Fields.{all_bytes, last_bytes, text_fault}
use Rattle.saw_wire.specs.MessageReading.{reading}
use Rattle.saw_wire.specs.declared.fault.MessageFault.{MessageFault}
use Rattle.saw_wire.specs.MessageFaults.{◌<|>◌}
use Rattle.saw_messages.specs.declared.transaction.Transaction.{Transaction}
use Rattle.saw_messages.specs.declared.transaction.TransactionHeader.{TransactionHeader}

-- the transaction that records say
abbrev pub transaction_of : List Piece → Transaction
transaction_of pieces = record {
  header = last_bytes 1 pieces;
  header_signature = last_bytes 2 pieces;
  payload = last_bytes 3 pieces;
}

abbrev pub transaction_fault : Piece → Option MessageFault
transaction_fault piece = text_fault 2 piece

abbrev pub transaction : List ℕ → Result Transaction MessageFault
transaction bytes = reading transaction_of transaction_fault bytes

-- the records that are written for it
abbrev pub transaction_pieces : Transaction → List Piece
transaction_pieces m = bytes_pieces 1 m.header ++ bytes_pieces 2 m.header_signature ++ bytes_pieces 3 m.payload

-- the transaction header that records say
abbrev pub transaction_header_of : List Piece → TransactionHeader
transaction_header_of pieces = record {
  batcher_public_key = last_bytes 1 pieces;
  dependencies = all_bytes 2 pieces;
  family_name = last_bytes 3 pieces;
  family_version = last_bytes 4 pieces;
  inputs = all_bytes 5 pieces;
  nonce = last_bytes 6 pieces;
  outputs = all_bytes 7 pieces;
  payload_sha512 = last_bytes 9 pieces;
  signer_public_key = last_bytes 10 pieces;
}

abbrev pub transaction_header_fault : Piece → Option MessageFault
transaction_header_fault piece = text_fault 1 piece <|> text_fault 2 piece <|> text_fault 3 piece <|> text_fault 4 piece <|> text_fault 5 piece <|> text_fault 6 piece <|> text_fault 7 piece <|> text_fault 9 piece <|> text_fault 10 piece

abbrev pub transaction_header : List ℕ → Result TransactionHeader MessageFault
transaction_header bytes = reading transaction_header_of transaction_header_fault bytes

-- the records that are written for it
abbrev pub transaction_header_pieces : TransactionHeader → List Piece
transaction_header_pieces m = bytes_pieces 1 m.batcher_public_key ++ texts_pieces 2 m.dependencies ++ bytes_pieces 3 m.family_name ++ bytes_pieces 4 m.family_version ++ texts_pieces 5 m.inputs ++ bytes_pieces 6 m.nonce ++ texts_pieces 7 m.outputs ++ bytes_pieces 9 m.payload_sha512 ++ bytes_pieces 10 m.signer_public_key
