use Rattle.std.proofs.Common.{[], subst}
use Rattle.saw_runs.specs.Differing.{AddsDifference, way_part}
use Rattle.saw_runs.specs.Readings.{read_at}
use Rattle.saw_runs.proofs.SideBySide.{root_difference}
use Rattle.saw_runs.proofs.differing.difference.Goals as goal

pub returns : goal.returns
returns g c =
    let read = read_at c.args.tables.now in
    let from = c.way_of-from.result in
    let to = c.way_of-to.result in
    let first = way_part from in
    let second = way_part to in
    root_difference read c.args.from.now c.args.to.now first second c.add_difference.new.changes.items c.way_of-from.ensures.part c.way_of-to.ensures.part
    (subst (λ old. AddsDifference read 35 [] first second old c.add_difference.new.changes.items) c.new-changes.ensures.items c.in_ok-add_difference.ensures)
