use Rattle.std.proofs.Common.{◌≡◌, take}
use Rattle.saw_station.proofs.copies.copy_turns.Given as goal

abbrev pub invariant-loop-turn : goal.invariant-loop-turn
invariant-loop-turn l = l.made ≡ take l.turn-index l.turns
