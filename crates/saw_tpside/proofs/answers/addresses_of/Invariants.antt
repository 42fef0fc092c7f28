use Rattle.std.proofs.Common.{◌≡◌, take, map}
use Rattle.saw_tpside.proofs.answers.addresses_of.Given as goal

abbrev pub invariant-loop-entry : goal.invariant-loop-entry
invariant-loop-entry l = l.addresses ≡ map (λ entry. entry.address) (take l.entry-index l.entries)
