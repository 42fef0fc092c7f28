use Rattle.std.proofs.Common.{◌≡◌, ◌++◌, take}
use Rattle.std.specs.List.{flat_map}
use Rattle.saw_schedule.specs.ByIds.{numbers_under}
use Rattle.saw_schedule.proofs.edges.add_named.Given as goal

abbrev pub invariant-loop-id : goal.invariant-loop-id
invariant-loop-id l = l.to.items ≡ l.fn.to.items ++ flat_map (numbers_under l.numbers) (take l.id-index l.id-items)
