use Rattle.std.proofs.Common.{◌≡◌, arith, sym, ◌∙◌, slice_index}
use Rattle.saw_address.proofs.Pairs.{begins_more, begins_not}
use Rattle.saw_address.proofs.text.begins_with.Goals as goal

pub returns-then-byte_of-from : goal.returns-then-byte_of-from
returns-then-byte_of-from c =
    let byte = slice_index c.args.bytes.now c.loop-i.i in
    let other = λ (same : c.byte_of.result ≡ byte). c.if-byte_of-from.true (same ∙ sym c.from.ensures) in
    sym (sym c.loop-i.invariant ∙ begins_not c.args.bytes.now c.args.text.now c.loop-i.i _ (omega arith) (omega arith) (c.type_inv.bytes c.loop-i.i).fits c.byte_of.ensures other)

pub loop-i-preserved : goal.loop-i-preserved
loop-i-preserved c =
    let byte = slice_index c.args.bytes.now c.loop-i.i in
    let same = c.if-byte_of-from.false ∙ c.from.ensures in
    let pair = (c.byte_of.ensures byte (c.type_inv.bytes c.loop-i.i).fits).0 same in
    sym (begins_more c.args.bytes.now c.args.text.now c.loop-i.i (omega arith) (omega arith) pair) ∙ c.loop-i.invariant
