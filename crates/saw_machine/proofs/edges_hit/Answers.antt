use Rattle.saw_machine.proofs.Edges.{edges-hit}
use Rattle.saw_machine.proofs.edges_hit.Goals as goal

pub returns : goal.returns
returns c = edges-hit
