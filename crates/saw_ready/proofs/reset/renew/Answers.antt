use Rattle.std.proofs.Common.{◌≡◌, ◌<◌, ℕ, Bool, List, Some, length, arith, ◌∙◌, sym, subst, ap}
use Rattle.saw_ready.specs.Edges.{AreEarlier}
use Rattle.saw_ready.specs.Hits.{IsIn}
use Rattle.saw_ready.specs.Sets.{IsNext, NoneIn}
use Rattle.saw_ready.proofs.Renewals.{others-next, renew-cursors, renew-flags, renew-next, waits-next}
use Rattle.saw_ready.proofs.reset.renew.Goals as goal

pub loop-k-preserved : goal.loop-k-preserved
loop-k-preserved c =
    let l = c.loop-k in
    let k = c.in-Some.k in
    let hits = l.hits in
    let start = c.args.hits.now in
    let same : hits ≡ start = l.invariant.same in
    let next : IsNext hits l.from (length hits) (Some k) = c.in-Some.ensures.next in
    let low = next.0 in
    let inside = next.1 in
    let is = c.reset_one.ensures in
    let long : length hits ≡ length l.marks.items = ap length same ∙ (c.requires.hits ∙ sym l.invariant.long) in
    let none : NoneIn start l.from k = subst (λ (xs : List Bool). NoneIn xs l.from k) same next.3 in
    let hit : IsIn start k = subst (λ (xs : List Bool). IsIn xs k) same next.2 in
    let earlier : AreEarlier c.args.layout.now.preds (length l.marks.items) = rw l.invariant.long c.requires.layout.both.earlier in
    record {
      same = c.next_from.ensures.same ∙ same;
      long = is.long ∙ l.invariant.long;
      onward = omega (arith, low);
      within = rw c.next_from.ensures.same (omega (arith, inside));
      so = rw c.next_from.ensures.same
          (renew-next c.args.layout.now.preds c.args.layout.now.starts.items hits l.marks.items c.reset_one.new.marks.items c.args.end
          l.from k l.cursors.items c.reset_one.new.cursors.items
          l.lowest.items c.reset_one.new.lowest.items l.ready c.reset_one.new.ready earlier c.requires.layout.starts_are
          (rw l.invariant.long c.requires.layout.all_start) next.2 next.0 (rw long at inside) next.3 is l.invariant.so);
      waits = waits-next start l.marks.items c.reset_one.new.marks.items l.from k none is.at is.others l.invariant.waits;
      others = others-next start c.args.marks.now.items l.marks.items c.reset_one.new.marks.items k hit is.others l.invariant.others;
    }

pub returns-clause-cursors : goal.returns-clause-cursors
returns-clause-cursors c =
    let l = c.loop-k in
    let hits = l.hits in
    let none : NoneIn hits l.from (length hits) = c.in_default.ensures.next in
    let in_range : (i : ℕ) → IsIn hits i → i < length hits =
    λ i h. rw l.invariant.same (c.requires.late i (subst (λ (xs : List Bool). IsIn xs i) l.invariant.same h)).1 in
    renew-cursors c.args.layout.now.preds c.args.layout.now.starts.items hits l.marks.items c.args.end l.from l.cursors.items
    l.lowest.items l.ready none in_range l.invariant.so

pub returns-clause-flagged : goal.returns-clause-flagged
returns-clause-flagged c =
    let l = c.loop-k in
    let hits = l.hits in
    let none : NoneIn hits l.from (length hits) = c.in_default.ensures.next in
    let in_range : (i : ℕ) → IsIn hits i → i < length hits =
    λ i h. rw l.invariant.same (c.requires.late i (subst (λ (xs : List Bool). IsIn xs i) l.invariant.same h)).1 in
    renew-flags c.args.layout.now.preds c.args.layout.now.starts.items hits l.marks.items c.args.end l.from l.cursors.items l.lowest.items
    l.ready none in_range l.invariant.so
