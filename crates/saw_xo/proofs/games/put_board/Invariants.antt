use Rattle.std.proofs.Common.{◌≡◌, ◌++◌, map, take}
use Rattle.saw_xo.specs.Games.{mark_code}
use Rattle.saw_xo.proofs.games.put_board.Given as goal

abbrev pub invariant-loop-mark : goal.invariant-loop-mark
invariant-loop-mark l = l.out.items ≡ l.initial.out.items ++ map mark_code (take l.mark-index l.board)
