use Rattle.std.proofs.Common.{length, arith, ◌∙◌}
use Rattle.saw_ready.specs.Layouts.{AreBoth}
use Rattle.saw_ready.proofs.Spreads.{hits-member}
use Rattle.saw_ready.proofs.hits.spread_members.Goals as goal

pub loop-m-preserved : goal.loop-m-preserved
loop-m-preserved c =
    let l = c.loop-m in
    let preds = c.args.layout.now.preds in
    let succs = c.args.layout.now.succs in
    let low = l.auto.m in
    let high = c.loop-m-test.true in
    let end = c.requires.within.1 in
    let len = l.invariant.long in
    let both : AreBoth preds succs (length l.hits) = rw len c.requires.layout.both in
    record {
      long = c.spread_one.ensures.long ∙ len;
      so_far =
          hits-member preds succs c.args.first c.args.end l.hits c.spread_one.new.hits both l.m low high
          (omega (arith, high, end, len)) l.invariant.so_far c.spread_one.ensures;
    }
