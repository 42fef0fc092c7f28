-- Requests to add an event.
use Rattle.saw_linkmsg.specs.declared.events.TpEventAddRequest.{TpEventAddRequest}
use Rattle.saw_linkmsg.specs.declared.events.TpEventAddResponse.{TpEventAddResponse}
use Rattle.std.specs.Prelude.{ℕ, List, Option, Result, ◌++◌, None}
use Rattle.saw_wire.specs.Pieces.{Piece}
use Rattle.saw_wire.specs.Writing.{number_pieces, bytes_pieces}
use Rattle.saw_wire.specs.Written.{message_pieces}
use Rattle.saw_wire.specs.Fields.{last_small, last_bytes, embedded, text_fault, item_fault}
use Rattle.saw_wire.specs.MessageReading.{reading}
use Rattle.saw_wire.specs.declared.fault.MessageFault.{MessageFault}
use Rattle.saw_wire.specs.MessageFaults.{◌<|>◌}
use Rattle.saw_messages.specs.Receipts.{event_of, event_fault, event_pieces}

abbrev pub tp_event_add_request_of : List Piece → TpEventAddRequest
tp_event_add_request_of pieces = record {
  context_id = last_bytes 1 pieces;
  event = event_of (embedded 2 pieces);
}

abbrev pub tp_event_add_request_fault : Piece → Option MessageFault
tp_event_add_request_fault piece = text_fault 1 piece <|> item_fault event_fault 2 piece

abbrev pub tp_event_add_request : List ℕ → Result TpEventAddRequest MessageFault
tp_event_add_request bytes = reading tp_event_add_request_of tp_event_add_request_fault bytes

abbrev pub tp_event_add_request_pieces : TpEventAddRequest → List Piece
tp_event_add_request_pieces m = bytes_pieces 1 m.context_id ++ message_pieces event_pieces 2 m.event

abbrev pub tp_event_add_response_of : List Piece → TpEventAddResponse
tp_event_add_response_of pieces = record {
  status = last_small 2 pieces;
}

abbrev pub tp_event_add_response_fault : Piece → Option MessageFault
tp_event_add_response_fault piece = None

abbrev pub tp_event_add_response : List ℕ → Result TpEventAddResponse MessageFault
tp_event_add_response bytes = reading tp_event_add_response_of tp_event_add_response_fault bytes

abbrev pub tp_event_add_response_pieces : TpEventAddResponse → List Piece
tp_event_add_response_pieces m = number_pieces 2 m.status
