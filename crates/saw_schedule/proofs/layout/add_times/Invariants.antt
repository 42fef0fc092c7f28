use Rattle.std.proofs.Common.{◌≡◌, ◌++◌, replicate}
use Rattle.saw_schedule.proofs.layout.add_times.Given as goal

abbrev pub invariant-loop : goal.invariant-loop
invariant-loop l = l.starts.items ≡ l.fn.starts.items ++ replicate l.counter l.start
