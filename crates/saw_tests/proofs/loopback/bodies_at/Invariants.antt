use Rattle.std.proofs.Common.{◌≡◌, length}
use Rattle.saw_tests.proofs.loopback.bodies_at.Given as goal

abbrev pub invariant-loop-place : goal.invariant-loop-place
invariant-loop-place l = length l.bodies ≡ l.place-index
