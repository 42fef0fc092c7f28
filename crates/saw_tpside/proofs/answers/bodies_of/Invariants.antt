use Rattle.std.proofs.Common.{◌≡◌, take, map}
use Rattle.saw_tpside.proofs.answers.bodies_of.Given as goal

abbrev pub invariant-loop-entry : goal.invariant-loop-entry
invariant-loop-entry l = l.bodies ≡ map (λ entry. entry.body) (take l.entry-index l.entries)
