use Rattle.saw_store.proofs.Lasts.{keeps_all_clear}
use Rattle.saw_store.proofs.laws.clear_nodes_are_kept.Goals as goal

pub returns : goal.returns
returns c = keeps_all_clear
