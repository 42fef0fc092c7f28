use Rattle.std.proofs.Common.{refl, arith}
use Rattle.saw_sha.proofs.Blocks.{IsAfter_next, IsAfter_none}
use Rattle.saw_sha.proofs.messages.sha512_four.Goals as goal

pub turns-init : goal.turns-init
turns-init c = (
  IsAfter_none c.args.a.now _ _ (c.first_states-states.ensures 0 (omega arith)),
  IsAfter_none c.args.b.now _ _ (c.first_states-states.ensures 1 (omega arith)),
  IsAfter_none c.args.c.now _ _ (c.first_states-states.ensures 2 (omega arith)),
  IsAfter_none c.args.d.now _ _ (c.first_states-states.ensures 3 (omega arith)),
)

pub turns-preserved : goal.turns-preserved
turns-preserved c = (
  IsAfter_next c.args.a.now c.turns.i _ _ _ _ _ _ c.turns.invariant.0 c.block_count-count_a.ensures c.padded_block.ensures
      (c.compress-next.ensures 0 (omega arith)) c.keep.ensures.last c.keep.ensures.other,
  IsAfter_next c.args.b.now c.turns.i _ _ _ _ _ _ c.turns.invariant.1 c.block_count-count_b.ensures c.padded_block-in-turns.ensures
      (c.compress-next.ensures 1 (omega arith)) c.keep-in-turns.ensures.last c.keep-in-turns.ensures.other,
  IsAfter_next c.args.c.now c.turns.i _ _ _ _ _ _ c.turns.invariant.2 c.block_count-count_c.ensures c.padded_block-in-turns-2.ensures
      (c.compress-next.ensures 2 (omega arith)) c.keep-in-turns-2.ensures.last c.keep-in-turns-2.ensures.other,
  IsAfter_next c.args.d.now c.turns.i _ _ _ _ _ _ c.turns.invariant.3 c.block_count-count_d.ensures c.padded_block-in-turns-3.ensures
      (c.compress-next.ensures 3 (omega arith)) c.keep-in-turns-3.ensures.last c.keep-in-turns-3.ensures.other,
)

pub returns : goal.returns
returns c =
    rw (
      c.turns.invariant.0.1 (omega arith),
      c.turns.invariant.1.1 (omega arith),
      c.turns.invariant.2.1 (omega arith),
      c.turns.invariant.3.1 (omega arith),
    ) refl
