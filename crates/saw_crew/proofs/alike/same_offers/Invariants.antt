use Rattle.std.proofs.Common.{◌≡◌, take}
use Rattle.saw_crew.proofs.alike.same_offers.Given as goal

abbrev pub invariant-loop-i : goal.invariant-loop-i
invariant-loop-i l = take l.i l.some ≡ take l.i l.others
