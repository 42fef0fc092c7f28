use Rattle.std.proofs.Common.{◌<◌, arith, refl, sym}
use Rattle.hex.specs.Hex.{encode_with}
use Rattle.saw_address.proofs.Pairs.{decided_more, decided_not, spelled_more}
use Rattle.saw_address.proofs.text.read_digits.Goals as goal

pub loop-i-init : goal.loop-i-init
unfolding encode_with
loop-i-init c = record { spelled = refl; decided = refl }

pub returns-then-byte-gt255-clause-valid : goal.returns-then-byte-gt255-clause-valid
returns-then-byte-gt255-clause-valid c =
    sym (decided_not c.args.text.now c.loop-i.i c.byte_of-byte.result (omega arith) (omega arith) c.byte_of-byte.ensures c.loop-i.invariant.decided)

pub loop-i-preserved : goal.loop-i-preserved
loop-i-preserved c =
    let small : c.byte_of-byte.result < 256 = omega arith in
    let pair = (c.byte_of-byte.ensures c.byte_of-byte.result small).0 refl in
    record {
      spelled = spelled_more c.args.text.now c.loop-i.out c.loop-i.i c.byte_of-byte.result (omega arith) (omega arith) pair c.loop-i.invariant.spelled;
      decided = decided_more c.args.text.now c.loop-i.i c.byte_of-byte.result (omega arith) small c.byte_of-byte.ensures c.loop-i.invariant.decided;
    }
