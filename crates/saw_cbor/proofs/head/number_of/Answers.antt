use Rattle.std.proofs.Common.{◌<◌, arith}
use Rattle.saw_cbor.specs.Spelling.{number_of}
use Rattle.saw_cbor.proofs.Numbers.{room_for, one_more_byte, number_goes_on, number_ends}
use Rattle.saw_cbor.proofs.head.number_of.Goals as goal

pub overflow_mul-number : goal.overflow_mul-number
overflow_mul-number c = omega (arith, room_for c.loop-byte.byte-index c.loop-byte.number 0 (omega arith) c.loop-byte.invariant.below (omega arith))

pub overflow_add-number : goal.overflow_add-number
overflow_add-number c =
    let byte : c.from.result < 256 = omega (arith, c.from.ensures, c.type_inv.bytes c.loop-byte.byte-index) in
    omega (arith, room_for c.loop-byte.byte-index c.loop-byte.number c.from.result (omega arith) c.loop-byte.invariant.below byte)

pub loop-byte-preserved : goal.loop-byte-preserved
loop-byte-preserved c =
    let byte : c.from.result < 256 = omega (arith, c.from.ensures, c.type_inv.bytes c.loop-byte.byte-index) in
    record {
      below = one_more_byte c.loop-byte.byte-index c.loop-byte.number c.from.result c.loop-byte.invariant.below byte;
      so_far = rw c.from.ensures (number_goes_on c.args.bytes.now c.loop-byte.byte-index c.loop-byte.number
          (number_of c.args.bytes.now) c.loop-byte-test.true c.loop-byte.invariant.so_far);
    }

pub returns : goal.returns
returns c = number_ends c.args.bytes.now c.loop-byte.byte-index c.loop-byte.number
    (number_of c.args.bytes.now) c.loop-byte-test.false c.loop-byte.invariant.so_far
