-- How a processor registers.
use Rattle.saw_linkmsg.specs.declared.register.TpRegisterRequest.{TpRegisterRequest}
use Rattle.saw_linkmsg.specs.declared.register.TpRegisterResponse.{TpRegisterResponse}
use Rattle.std.specs.Prelude.{ℕ, List, Option, Result, ◌++◌, None}
use Rattle.saw_wire.specs.Pieces.{Piece}
use Rattle.saw_wire.specs.Writing.{number_pieces, bytes_pieces}
use Rattle.saw_wire.specs.Written.{flag_pieces, texts_pieces}
use Rattle.saw_wire.specs.Fields.{last_small, last_bytes, all_bytes, last_flag, text_fault}
use Rattle.saw_wire.specs.MessageReading.{reading}
use Rattle.saw_wire.specs.declared.fault.MessageFault.{MessageFault}
use Rattle.saw_wire.specs.MessageFaults.{◌<|>◌}

abbrev pub tp_register_request_of : List Piece → TpRegisterRequest
tp_register_request_of pieces = record {
  family = last_bytes 1 pieces;
  version = last_bytes 2 pieces;
  namespaces = all_bytes 4 pieces;
  protocol_version = last_small 6 pieces;
  more = last_flag 9 pieces;
}

abbrev pub tp_register_request_fault : Piece → Option MessageFault
tp_register_request_fault piece = text_fault 1 piece <|> text_fault 2 piece <|> text_fault 4 piece

abbrev pub tp_register_request : List ℕ → Result TpRegisterRequest MessageFault
tp_register_request bytes = reading tp_register_request_of tp_register_request_fault bytes

abbrev pub tp_register_request_pieces : TpRegisterRequest → List Piece
tp_register_request_pieces m =
    bytes_pieces 1 m.family ++ bytes_pieces 2 m.version ++ texts_pieces 4 m.namespaces ++ number_pieces 6 m.protocol_version ++ flag_pieces 9 m.more

abbrev pub tp_register_response_of : List Piece → TpRegisterResponse
tp_register_response_of pieces = record {
  status = last_small 1 pieces;
  protocol_version = last_small 2 pieces;
}

abbrev pub tp_register_response_fault : Piece → Option MessageFault
tp_register_response_fault piece = None

abbrev pub tp_register_response : List ℕ → Result TpRegisterResponse MessageFault
tp_register_response bytes = reading tp_register_response_of tp_register_response_fault bytes

abbrev pub tp_register_response_pieces : TpRegisterResponse → List Piece
tp_register_response_pieces m = number_pieces 1 m.status ++ number_pieces 2 m.protocol_version
