use Rattle.std.proofs.Common.{◌≡◌, map, subst}
use Rattle.std.specs.FinMap as finite
use Rattle.std.specs.List.{filter}
use Rattle.saw_address.specs.Maps.{StateMap}
use Rattle.saw_address.specs.Prefixes.{covers}
use Rattle.saw_runs.specs.Below.{listed_as}
use Rattle.saw_runs.specs.Listing.{map_read}
use Rattle.saw_runs.specs.Readings.{read_at}
use Rattle.saw_merkle.proofs.tree.Tree.list.Goals as goal

pub returns : goal.returns
returns g c =
    let m = map_read (read_at c.self.inside.tables.now) c.self.inside.root in
    subst (λ (m : StateMap). map listed_as c.in_ok-listed.listed.items ≡ filter (λ entry. covers c.args.prefix.now entry.0) (finite.entries m)) c.self.view_is
    (c.in_ok-listed.ensures g.H.NodeHasher.hash_of m c.self.invariant)
