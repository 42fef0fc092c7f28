use Rattle.saw_predtree.proofs.Thinning.{from-filtered}
use Rattle.saw_predtree.proofs.thin.thinned.Goals as goal

pub returns : goal.returns
returns c =
    from-filtered c.args.found.now c.sort_unstable.new.self.items c.in_ok-given.given.items c.args.from
    (rw c.in_ok-some.ensures at c.sort_unstable.ensures.permutation) (rw c.as_slice.ensures.value at c.in_ok-given.ensures)
