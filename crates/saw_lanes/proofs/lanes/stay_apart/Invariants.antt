use Rattle.std.proofs.Common.{◌≡◌, true, drop}
use Rattle.saw_lanes.specs.Apart.{are_apart}
use Rattle.saw_lanes.proofs.lanes.stay_apart.Given as goal

-- all stay apart where the rest does
abbrev pub invariant-loop-claim : goal.invariant-loop-claim
invariant-loop-claim l = are_apart l.lanes l.key l.lane (drop l.claim-index l.claims) ≡ true → are_apart l.lanes 0 0 l.claims ≡ true
