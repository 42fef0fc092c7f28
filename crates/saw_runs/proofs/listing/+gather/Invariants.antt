use Rattle.std.proofs.Common.{◌≡◌, ◌+◌, ◌-◌, ◌++◌, map, take}
use Rattle.std.specs.List.{flat_map}
use Rattle.saw_runs.specs.Below.{entries_below, listed_as}
use Rattle.saw_runs.specs.Readings.{read_at}
use Rattle.saw_runs.proofs.Descending.{levels_left}
use Rattle.saw_runs.proofs.listing.+gather.Given as goal

abbrev pub decreases-gather : goal.decreases-gather
decreases-gather g l = levels_left l.at

-- the entries below the children up to here are added
abbrev pub invariant-loop-child : goal.invariant-loop-child
invariant-loop-child g l = map listed_as l.listed.items ≡ map listed_as l.fn.listed.items
    ++ flat_map (entries_below (read_at l.tables) (35 - (l.at.depth + 1)) (take l.at.depth l.at.bytes)) (take l.child-index l.child-items)
