use Rattle.saw_store.proofs.Lasts.{keeps_the_last}
use Rattle.saw_store.proofs.laws.last_node_stays.Goals as goal

pub returns : goal.returns
returns c = keeps_the_last
