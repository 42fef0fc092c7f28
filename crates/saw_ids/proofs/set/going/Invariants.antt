use Rattle.std.proofs.Common.{◌≡◌, take}
use Rattle.std.specs.Prelude.{filter}
use Rattle.saw_ids.specs.Sets.{entries_of, goes}
use Rattle.saw_ids.proofs.set.going.Given as goal

abbrev pub invariant-loop-one : goal.invariant-loop-one
invariant-loop-one l = entries_of l.some ≡ filter (goes l.bit l.way) (entries_of (take l.one-index l.ids))
