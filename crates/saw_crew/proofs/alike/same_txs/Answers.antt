use Rattle.std.proofs.Common.{◌≡◌, ◌<◌, length, true, sym, ◌∙◌, arith}
use Rattle.std.specs.Arc.{arc_value}
use Rattle.saw_messages.specs.TxEquality.{tx_eq}
use Rattle.saw_crew.proofs.Sames.{one-more-same}
use Rattle.saw_crew.proofs.alike.same_txs.Goals as goal

pub loop-i-preserved : goal.loop-i-preserved
loop-i-preserved c =
    let inside = c.loop-i-test.true in
    let long = c.if-some-others.false in
    let within : c.loop-i.i < length c.args.others.now = omega (arith, inside, long) in
    let same : tx_eq (arc_value c.index-some-i.result) (arc_value c.index-others-i.result) ≡ true =
    rw (← c.deref.ensures, ← c.deref-in-loop-i.ensures) (sym c.is_same.ensures ∙ c.if-not-is_same.false) in
    one-more-same c.args.some.now c.args.others.now c.loop-i.i c.index-some-i.result c.index-others-i.result inside within c.index-some-i.is c.index-others-i.is same c.loop-i.invariant
