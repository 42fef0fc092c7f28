use Rattle.std.proofs.Common.{◌≡◌, length}
use Rattle.std.specs.List.{AllByRecursion}
use Rattle.saw_schedule.proofs.layout.all_kept.Given as goal

abbrev pub invariant-loop : goal.invariant-loop
invariant-loop l = (length l.kept.items ≡ l.counter) × AllByRecursion (λ one. one.attempts ≡ 0) l.kept.items
