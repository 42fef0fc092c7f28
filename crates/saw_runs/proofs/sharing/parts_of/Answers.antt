use Rattle.std.proofs.Common.{◌∷◌, [], sym, subst}
use Rattle.std.specs.List.{AllByRecursion}
use Rattle.saw_context.proofs.Each.{all_append}
use Rattle.saw_runs.specs.Parts.{Follow, IsPart}
use Rattle.saw_runs.specs.Readings.{read_at}
use Rattle.saw_runs.proofs.Apart.{follow_more}
use Rattle.saw_runs.proofs.Nexts.{next_edge}
use Rattle.saw_runs.proofs.sharing.parts_of.Goals as goal

pub loop-at-preserved : goal.loop-at-preserved
loop-at-preserved g c =
    let l = c.loop-at in
    let part = c.part_at-part.result in
    let is = c.part_at-part.ensures.is in
    let grown = c.in_ok-push.ensures.items in
    record {
      each = subst (AllByRecursion (IsPart (read_at c.args.tables.now) c.args.depth c.args.kids.now c.args.changes.now)) (sym grown)
          (all_append (IsPart (read_at c.args.tables.now) c.args.depth c.args.kids.now c.args.changes.now) l.parts.items (part ∷ []) l.invariant.each (is, tt));
      follow = subst (λ ps. Follow 0 ps part.end) (sym grown) (follow_more 0 l.at l.parts.items part l.invariant.follow c.part_at-part.ensures.at);
      edge = next_edge c.args.depth c.args.changes.now part.at part.end is.group;
      within = is.group.ends;
    }
