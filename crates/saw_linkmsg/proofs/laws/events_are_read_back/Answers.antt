use Rattle.saw_linkmsg.proofs.EventsBack.{tp_event_add_request_is_read, tp_event_add_response_is_read}
use Rattle.saw_linkmsg.proofs.laws.events_are_read_back.Goals as goal

pub returns-clause-request : goal.returns-clause-request
returns-clause-request c = tp_event_add_request_is_read

pub returns-clause-response : goal.returns-clause-response
returns-clause-response c = tp_event_add_response_is_read
