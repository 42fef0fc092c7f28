use Rattle.std.proofs.Common.{◌≡◌, map, take}
use Rattle.saw_context.specs.Access.{read_at}
use Rattle.saw_context.proofs.context.Context.reads_of.Given as goal

abbrev pub invariant-loop-place : goal.invariant-loop-place
invariant-loop-place g l = l.reads.items ≡ map (read_at l.self) (take l.place-index l.places)
