use Rattle.saw_predtree.proofs.Owning.{covered-of-first}
use Rattle.saw_predtree.proofs.own.is_under.Goals as goal

pub returns : goal.returns
returns c = λ h. covered-of-first c.partition_point-count.result c.args.keys.now c.args.key.now (c.is_under_last.ensures h)
