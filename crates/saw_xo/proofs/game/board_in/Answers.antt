use Rattle.std.proofs.Common.{sym, ◌∙◌, arith}
use Rattle.saw_xo.proofs.Boards.{board_whole, board_missing}
use Rattle.saw_xo.proofs.game.board_in.Goals as goal

pub returns-in_err-board : goal.returns-in_err-board
returns-in_err-board c =
    c.from_residual.ensures ∙ sym (board_missing c.args.text.now c.as_bytes-codes.result.now c.loop-place.place c.as_bytes-codes.ensures.value
    (omega arith) c.loop-place-test.true (sym c.mark_in.ensures ∙ c.in_err-board.was))

pub returns : goal.returns
returns c =
    let l = c.loop-place in
    board_whole c.args.text.now c.as_bytes-codes.result.now l.board c.as_bytes-codes.ensures.value (omega arith) l.invariant.full
    (λ k h. l.invariant.read k (omega arith))
