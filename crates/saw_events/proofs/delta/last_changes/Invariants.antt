use Rattle.std.proofs.Common.{◌≡◌, ◌++◌, map}
use Rattle.saw_events.proofs.delta.last_changes.Given as goal

abbrev pub invariant-loop-change : goal.invariant-loop-change
invariant-loop-change l = l.made ++ map (λ entry. entry.1) l.change-iterator ≡ map (λ entry. entry.1) l.initial.change-iterator
