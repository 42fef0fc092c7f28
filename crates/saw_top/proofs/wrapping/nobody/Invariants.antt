use Rattle.std.proofs.Common.{◌≡◌, length}
use Rattle.saw_top.proofs.wrapping.nobody.Given as goal

abbrev pub invariant-loop : goal.invariant-loop
invariant-loop l = record { count : length l.stations.items ≡ l.counter }
