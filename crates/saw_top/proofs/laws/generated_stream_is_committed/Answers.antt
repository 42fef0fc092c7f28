use Rattle.saw_top.proofs.GeneratedRuns.{generated_committed}
use Rattle.saw_top.proofs.laws.generated_stream_is_committed.Goals as goal

pub returns : goal.returns
returns c = generated_committed
