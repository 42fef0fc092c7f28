use Rattle.std.proofs.Common.{arith, ap, slice_index, ◌∙◌}
use Rattle.std.proofs.lemmas.Nat.{and_mask}
use Rattle.hex.specs.Hex.{lower_digits}
use Rattle.hex.proofs.Pairs.{encode_step, encode_done}
use Rattle.saw_address.proofs.text.write_digits.Goals as goal

pub loop-i-preserved : goal.loop-i-preserved
loop-i-preserved c =
    let low = c.digit_of-in-loop-i.ensures ∙ ap (slice_index lower_digits) (and_mask (slice_index c.args.bytes.now c.loop-i.i) 4) in
    encode_step lower_digits c.args.bytes.now c.loop-i.out c.loop-i.i _ _ (omega arith) (omega arith) c.digit_of.ensures low c.loop-i.invariant

pub returns : goal.returns
returns c = encode_done lower_digits c.args.bytes.now c.loop-i.out c.loop-i.i (omega arith) (omega arith) c.loop-i.invariant
