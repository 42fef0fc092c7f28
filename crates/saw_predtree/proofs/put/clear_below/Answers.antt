use Rattle.saw_predtree.proofs.Putting.{cleared-more}
use Rattle.saw_predtree.proofs.put.clear_below.Goals as goal

pub loop-at-preserved-in-Some : goal.loop-at-preserved-in-Some
loop-at-preserved-in-Some c =
    cleared-more c.args.places.now c.loop-at.places c.remove.new.self c.args.key.now c.in-Some.at c.in-Some.ensures.below c.loop-at.invariant c.remove.ensures.updates
