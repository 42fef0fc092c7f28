use Rattle.std.proofs.Common.{◌≡◌, take}
use Rattle.saw_address.specs.Maps.{map_of}
use Rattle.saw_context.specs.Outcome.{map_after}
use Rattle.saw_merkle.proofs.plain.change_map.Given as goal

-- the changes so far were made
abbrev pub invariant-loop-change : goal.invariant-loop-change
invariant-loop-change l = map_of l.map.entries ≡ map_after (map_of l.fn.map.entries) (take l.change-index l.changes)
