use Rattle.saw_context.proofs.Conversations.{conversed_is_late}
use Rattle.saw_context.proofs.laws.conversation_is_not_early.Goals as goal

pub returns : goal.returns
returns c = conversed_is_late
