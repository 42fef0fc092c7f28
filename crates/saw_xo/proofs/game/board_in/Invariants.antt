use Rattle.std.proofs.Common.{◌≡◌, ℕ, ◌<◌, length, get_or, Some}
use Rattle.saw_xo.specs.Games.{mark_in}
use Rattle.saw_xo.specs.declared.game.Mark.TheVariants.{Empty}
use Rattle.saw_xo.proofs.game.board_in.Given as goal

abbrev pub invariant-loop-place : goal.invariant-loop-place
invariant-loop-place l = record {
  full : length l.board ≡ 9;
  read : (k : ℕ) → k < l.place → mark_in (get_or l.codes k 0) ≡ Some (get_or l.board k Empty);
}
