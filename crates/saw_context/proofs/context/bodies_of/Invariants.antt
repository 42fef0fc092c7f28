use Rattle.std.proofs.Common.{◌≡◌, map, take}
use Rattle.saw_context.proofs.context.bodies_of.Given as goal

abbrev pub invariant-loop-read : goal.invariant-loop-read
invariant-loop-read l = l.bodies.items ≡ map (λ read. read.body) (take l.read-index l.reads)
