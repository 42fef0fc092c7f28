use Rattle.saw_top.proofs.ToldBranches.{events_leave_state}
use Rattle.saw_top.proofs.laws.events_leave_state.Goals as goal

pub returns : goal.returns
returns c = events_leave_state
