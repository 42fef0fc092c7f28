use Rattle.std.proofs.Common.{◌≡◌, true, false, refl, ◌∙◌, arith}
use Rattle.saw_live.proofs.Serves.{at_its_end, one_more, served_none}
use Rattle.saw_live.proofs.serving.serve_reader.Goals as goal

pub loop-answers-init : goal.loop-answers-init
loop-answers-init g c = record {
  cell = refl;
  same = record { root = refl; map = refl; first = refl };
  end = refl;
  most = omega arith;
  served = served_none g.H.NodeHasher.hash_of _;
  source = omega arith;
  sink = omega arith;
}

pub returns-then-not-branch-clause-ok : goal.returns-then-not-branch-clause-ok
returns-then-not-branch-clause-ok g c =
    let ended : c.in_ok-serve_one.field-0 ≡ false = grind (arith, c.if-not-branch.true) in
    at_its_end g.H.NodeHasher.hash_of _ _ _ c.loop-answers.answers c.loop-answers.invariant.served c.loop-answers.invariant.most
    (rw ended at c.in_ok-serve_one.ensures.next)

pub loop-answers-preserved : goal.loop-answers-preserved
loop-answers-preserved g c =
    let before = c.loop-answers.invariant in
    let after = c.serve_one.ensures in
    let more : c.in_ok-serve_one.field-0 ≡ true = grind (arith, c.if-not-branch.false) in
    record {
      cell = after.cell ∙ before.cell;
      same = record { root = after.same.root ∙ before.same.root; map = after.same.map ∙ before.same.map; first = after.same.first ∙ before.same.first };
      end = after.end ∙ before.end;
      most = omega (arith, c.loop-answers-test.true);
      served = one_more g.H.NodeHasher.hash_of _ _ _ c.loop-answers.answers before.served (rw more at c.in_ok-serve_one.ensures.next);
      source = omega (arith, before.source, after.later.0);
      sink = omega (arith, before.sink, after.later.1);
    }
