use Rattle.std.proofs.Common.{◌∙◌, arith, rules}
use Rattle.std.proofs.lemmas.Grind.{common_steps}
use Rattle.saw_ready.proofs.Batches.{start-after}
use Rattle.saw_ready.proofs.Lowering.{lowest-closed}
use Rattle.saw_ready.proofs.Renewals.{renew-start}
use Rattle.saw_ready.proofs.Undoing.{are-noted}
use Rattle.saw_ready.proofs.reset.fail_batch.Goals as goal

pub renew-requires-clause-so : goal.renew-requires-clause-so
renew-requires-clause-so c =
    let q = c.requires.queue in
    let p = q.placed in
    let starts = c.args.layout.now.starts.items in
    let marks = c.args.marks.now.items in
    let closed = c.close.new.marks.items in
    let long = p.is_layout.all_start in
    let lows =
    lowest-closed starts marks closed c.args.first c.args.end c.args.lowest.now.items p.is_layout.starts_are long c.requires.within.0
    c.requires.ends c.close.ensures p.lowest_are in
    rw c.note_hits.ensures.same
    (renew-start c.args.layout.now.preds starts marks closed c.args.first c.args.end c.args.cursors.now.items c.args.ready.now
    c.spread.new.hits
    c.spread.ensures.hits (c.spread.ensures.long ∙ c.requires.hits) c.close.ensures c.requires.within.0
    c.args.lowest.now.items p.cursors_are q.flagged lows p.all_point p.all_low q.all_flagged
    (λ i le lt. start-after starts c.args.end i p.is_layout.starts_are (rw long c.requires.ends) le (rw long lt)))

pub returns-clause-undone : goal.returns-clause-undone
returns-clause-undone c =
    are-noted c.args.layout.now.preds c.args.first c.args.end c.args.marks.now.items c.close.new.marks.items c.renew.new.marks.items
    c.spread.new.hits c.args.undone.now c.note_members.new.undone c.note_hits.new.undone c.spread.ensures.hits c.close.ensures
    (rw c.note_hits.ensures.same at c.renew.ensures.waits)
    (rw c.note_hits.ensures.same at c.renew.ensures.others)
    (rw c.deref.ensures.value at c.note_members.ensures) (rw c.deref-2.ensures.value at c.note_hits.ensures.noted)

pub note_hits-requires-clause-late : goal.note_hits-requires-clause-late
note_hits-requires-clause-late c = grind (arith, common_steps)

pub renew-requires-clause-late : goal.renew-requires-clause-late
renew-requires-clause-late c = grind (arith, common_steps)

pub returns-clause-failed : goal.returns-clause-failed
returns-clause-failed c = search rules
