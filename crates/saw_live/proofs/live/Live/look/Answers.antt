use Rattle.std.proofs.Common.{rules}
use Rattle.saw_live.proofs.HeadLists.{looks}
use Rattle.saw_live.proofs.live.Live.look.Goals as goal

pub load_as-words-requires : goal.load_as-words-requires
load_as-words-requires g c = (search rules, (search rules, (search rules, looks _ _)))
