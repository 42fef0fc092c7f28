use Rattle.saw_address.specs.Maps.{map_of}
use Rattle.saw_merkle.proofs.Fronts.{front_more}
use Rattle.saw_merkle.proofs.plain.change_map.Goals as goal

pub loop-change-preserved : goal.loop-change-preserved
loop-change-preserved c =
    front_more (map_of c.args.map.now.entries) (map_of c.loop-change.map.entries) (map_of c.apply.new.map.entries) c.args.changes.now
    c.loop-change.change-index c.change-item.result c.loop-change-test.true c.change-item.is c.loop-change.invariant c.in_ok-apply.ensures.ok
