use Rattle.saw_linkmsg.proofs.ProcessesBack.{tp_process_request_is_read, tp_process_response_is_read}
use Rattle.saw_linkmsg.proofs.laws.processes_are_read_back.Goals as goal

pub returns-clause-request : goal.returns-clause-request
returns-clause-request c = tp_process_request_is_read

pub returns-clause-response : goal.returns-clause-response
returns-clause-response c = tp_process_response_is_read
