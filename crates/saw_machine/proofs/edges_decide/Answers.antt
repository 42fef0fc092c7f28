use Rattle.saw_machine.proofs.Edges.{edges-decide}
use Rattle.saw_machine.proofs.edges_decide.Goals as goal

pub returns : goal.returns
returns c = edges-decide
