use Rattle.saw_linkmsg.proofs.StateResponsesBack.{tp_state_get_response_is_read, tp_state_set_response_is_read, tp_state_delete_response_is_read}
use Rattle.saw_linkmsg.proofs.laws.state_responses_are_read_back.Goals as goal

pub returns-clause-get : goal.returns-clause-get
returns-clause-get c = tp_state_get_response_is_read

pub returns-clause-set : goal.returns-clause-set
returns-clause-set c = tp_state_set_response_is_read

pub returns-clause-delete : goal.returns-clause-delete
returns-clause-delete c = tp_state_delete_response_is_read
