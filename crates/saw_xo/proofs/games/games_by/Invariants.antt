use Rattle.saw_xo.proofs.Gathered.{IsRead}
use Rattle.saw_xo.proofs.games.games_by.Given as goal

abbrev pub invariant-loop-name : goal.invariant-loop-name
invariant-loop-name l = IsRead l.games.entries l.yielded
