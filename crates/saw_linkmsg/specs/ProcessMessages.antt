-- A transaction and its end.
use Rattle.saw_linkmsg.specs.declared.process.TpProcessRequest.{TpProcessRequest}
use Rattle.saw_linkmsg.specs.declared.process.TpProcessResponse.{TpProcessResponse}
use Rattle.std.specs.Prelude.{ℕ, List, Option, Result, ◌++◌}
use Rattle.saw_wire.specs.Pieces.{Piece}
use Rattle.saw_wire.specs.Writing.{number_pieces, bytes_pieces}
use Rattle.saw_wire.specs.Written.{message_pieces}
use Rattle.saw_wire.specs.Fields.{last_small, last_bytes, embedded, text_fault, item_fault}
use Rattle.saw_wire.specs.MessageReading.{reading}
use Rattle.saw_wire.specs.declared.fault.MessageFault.{MessageFault}
use Rattle.saw_wire.specs.MessageFaults.{◌<|>◌}
use Rattle.saw_messages.specs.Transactions.{transaction_header_of, transaction_header_fault, transaction_header_pieces}

abbrev pub tp_process_request_of : List Piece → TpProcessRequest
tp_process_request_of pieces = record {
  header = transaction_header_of (embedded 1 pieces);
  payload = last_bytes 2 pieces;
  signature = last_bytes 3 pieces;
  context_id = last_bytes 4 pieces;
  header_bytes = last_bytes 5 pieces;
}

abbrev pub tp_process_request_fault : Piece → Option MessageFault
tp_process_request_fault piece = item_fault transaction_header_fault 1 piece <|> text_fault 3 piece <|> text_fault 4 piece

abbrev pub tp_process_request : List ℕ → Result TpProcessRequest MessageFault
tp_process_request bytes = reading tp_process_request_of tp_process_request_fault bytes

abbrev pub tp_process_request_pieces : TpProcessRequest → List Piece
tp_process_request_pieces m = message_pieces transaction_header_pieces 1 m.header ++ bytes_pieces 2 m.payload
    ++ bytes_pieces 3 m.signature ++ bytes_pieces 4 m.context_id ++ bytes_pieces 5 m.header_bytes

abbrev pub tp_process_response_of : List Piece → TpProcessResponse
tp_process_response_of pieces = record {
  status = last_small 1 pieces;
  message = last_bytes 2 pieces;
}

abbrev pub tp_process_response_fault : Piece → Option MessageFault
tp_process_response_fault piece = text_fault 2 piece

abbrev pub tp_process_response : List ℕ → Result TpProcessResponse MessageFault
tp_process_response bytes = reading tp_process_response_of tp_process_response_fault bytes

abbrev pub tp_process_response_pieces : TpProcessResponse → List Piece
tp_process_response_pieces m = number_pieces 1 m.status ++ bytes_pieces 2 m.message
