use Rattle.std.proofs.Common.{sym, ap, ◌∙◌}
use Rattle.saw_node.specs.Nodes.{shape_of}
use Rattle.saw_runs.specs.Apart.{bottom_of, bytes_of}
use Rattle.saw_runs.specs.Entries.{entry_hash}
use Rattle.saw_runs.specs.Readings.{found_entry, read_at}
use Rattle.saw_runs.proofs.Clashing.{nodes_clash, parted_as, up_is}
use Rattle.saw_runs.proofs.testing.Known.clash.Goals as goal

pub parting-place-requires-after_bounds : goal.parting-place-requires-after_bounds
parting-place-requires-after_bounds g c = λ κs alive.
    let own = c.requires.sound.each c.args.new.now.hash (found_entry c.args.kept) c.requires.kept in
    up_is g.H.NodeHasher.hash_of c.as_run-first.result.0.now c.as_run-first.result.1 c.args.new.now.hash (found_entry c.args.kept)
    c.as_run-first.ensures.bytes c.as_run-first.ensures.bottom own.0
    ∙ sym (up_is g.H.NodeHasher.hash_of c.as_run-second.result.0.now c.as_run-second.result.1 c.args.new.now.hash (found_entry c.found_of-given.result)
    c.as_run-second.ensures.bytes c.as_run-second.ensures.bottom
    (c.requires.given.0 ∙ ap (entry_hash g.H.NodeHasher.hash_of) (sym c.found_of-given.ensures)))

pub node_at-requires-clause-ends : goal.node_at-requires-clause-ends
node_at-requires-clause-ends g c = λ κs alive. (c.requires.sound.each c.args.new.now.hash (found_entry c.args.kept) c.requires.kept).2

pub returns : goal.returns
returns g c = λ behind.
    nodes_clash g.H.NodeHasher.hash_of (read_at c.args.self.now.tables.now) c.args.self.now.before.now c.requires.sound c.args.new.now behind
    (found_entry c.args.kept) (found_entry c.found_of-given.result) c.parting-place.result (shape_of c.in_ok-kept.kept) (shape_of c.in_ok-given.given)
    c.found_of-given.ensures c.requires.given c.requires.kept c.requires.apart
    (parted_as g.H.NodeHasher.hash_of c.as_run-first.result.0.now c.as_run-first.result.1 c.as_run-second.result.0.now c.as_run-second.result.1
    (bytes_of (found_entry c.args.kept)) (bottom_of c.args.new.now.hash (found_entry c.args.kept)) (bytes_of (found_entry c.found_of-given.result))
    (bottom_of c.args.new.now.hash (found_entry c.found_of-given.result)) c.parting-place.result c.as_run-first.ensures.bytes
    c.as_run-first.ensures.bottom c.as_run-second.ensures.bytes c.as_run-second.ensures.bottom c.parting-place.ensures) c.in_ok-kept.ensures
    c.in_ok-given.ensures
