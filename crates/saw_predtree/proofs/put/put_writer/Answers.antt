use Rattle.std.proofs.Common.{Some, refl}
use Rattle.saw_predtree.proofs.Putting.{writer-marks, writer-put}
use Rattle.saw_predtree.proofs.put.put_writer.Goals as goal

pub returns-clause-puts : goal.returns-clause-puts
returns-clause-puts c =
    writer-put c.args.places.now c.clear_below.new.places c.insert.new.self c.args.index c.args.key.now (record { writer = Some c.args.index; readers = c.new.result })
    refl c.new.ensures.items c.clear_below.ensures (rw c.copy.ensures at c.in_ok-insert.ensures.updates)

pub returns-clause-marks : goal.returns-clause-marks
returns-clause-marks c =
    rw c.mark.ensures.marks
    (writer-marks c.args.lengths.now c.args.places.now c.insert.new.self c.args.index c.args.key.now c.mark.ensures.size
    (writer-put c.args.places.now c.clear_below.new.places c.insert.new.self c.args.index c.args.key.now (record { writer = Some c.args.index; readers = c.new.result })
    refl c.new.ensures.items c.clear_below.ensures (rw c.copy.ensures at c.in_ok-insert.ensures.updates)))
