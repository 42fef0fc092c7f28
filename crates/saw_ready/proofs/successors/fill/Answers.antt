use Rattle.std.proofs.Common.{ℕ, length, subst}
use Rattle.saw_ready.specs.Edges.{finish}
use Rattle.saw_ready.specs.Successors.{AreFilled}
use Rattle.saw_ready.proofs.Turning.{filled-row}
use Rattle.saw_ready.proofs.successors.fill.Goals as goal

pub loop-k-preserved : goal.loop-k-preserved
loop-k-preserved c =
    let preds = c.args.preds.now in
    let n = length c.args.next.now.items in
    filled-row preds n c.loop-k.k c.fill_row.new.next.items c.fill_row.new.to.items
    (subst (λ (m : ℕ). AreFilled preds m c.loop-k.k (finish preds c.loop-k.k) c.fill_row.new.next.items c.fill_row.new.to.items)
    c.loop-k.invariant.long c.fill_row.ensures)
