use Rattle.std.proofs.Common.{Bool, List, Some, length, arith, ◌∙◌, subst}
use Rattle.saw_ready.specs.Edges.{finish}
use Rattle.saw_ready.specs.Hits.{IsSpread}
use Rattle.saw_ready.specs.Layouts.{AreBoth}
use Rattle.saw_ready.specs.Sets.{IsNext}
use Rattle.saw_ready.proofs.Spreads.{hits-hit}
use Rattle.saw_ready.proofs.hits.spread.Goals as goal

pub loop-k-preserved : goal.loop-k-preserved
loop-k-preserved c =
    let l = c.loop-k in
    let k = c.in-Some.k in
    let preds = c.args.layout.now.preds in
    let succs = c.args.layout.now.succs in
    let new = c.spread_one.new.hits in
    let both : AreBoth preds succs (length l.hits) = rw l.invariant.long c.requires.layout.both in
    let next : IsNext l.hits l.from (length l.hits) (Some k) = c.in-Some.ensures.next in
    let spread : IsSpread succs c.args.end k (finish succs k) l.hits new =
    subst (λ (xs : List Bool). IsSpread succs c.args.end k (finish succs k) xs new) c.next_from.ensures.same c.spread_one.ensures in
    let inside = next.1 in
    record {
      long = spread.long ∙ l.invariant.long;
      within = rw spread.long (omega (arith, inside));
      so_far = hits-hit preds succs c.args.first c.args.end l.hits new both l.from k next l.invariant.so_far spread;
    }
