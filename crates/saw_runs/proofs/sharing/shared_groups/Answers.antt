use Rattle.std.proofs.Common.{◌-◌, subst, arith}
use Rattle.std.proofs.lemmas.List.{nil_from_length}
use Rattle.saw_runs.specs.Parts.{ArePartsOf}
use Rattle.saw_runs.specs.Readings.{read_at}
use Rattle.saw_runs.proofs.Apart.{parts_end, parts_first, parts_next, ready_from}
use Rattle.saw_runs.proofs.sharing.shared_groups.Goals as goal

pub ran-parts-requires-clause-ready : goal.ran-parts-requires-clause-ready
ran-parts-requires-clause-ready g c κs within =
    ready_from (read_at c.args.tables.now) c.args.levels c.as_slice.result.now c.args.changes.now c.in_ok-parts.parts.items c.requires.some c.requires.fits
    c.in_ok-parts.ensures

pub loop-part-init : goal.loop-part-init
loop-part-init g c =
    parts_first g.H.NodeHasher.hash_of (read_at c.args.tables.now) c.args.changes.now (c.args.levels - 1) c.args.path.now c.args.before.now c.args.news.now.items
    (35 - c.args.levels) c.in_ok-kids.kids.items c.in_ok-parts.parts.items c.ran-parts.result.items c.into_iter-part-iterator.result.rest.items
    c.in_ok-kids.ensures.are c.in_ok-kids.ensures.rising
    (subst (λ ks. ArePartsOf (read_at c.args.tables.now) (35 - c.args.levels) ks c.args.changes.now c.in_ok-parts.parts.items) c.as_slice.ensures.value
    c.in_ok-parts.ensures) c.ran-parts.ensures.size c.ran-parts.ensures.ran c.into_iter-part-iterator.ensures.into_iter_gives.0

pub loop-part-preserved : goal.loop-part-preserved
loop-part-preserved g c =
    let l = c.loop-part in
    parts_next g.H.NodeHasher.hash_of (read_at c.args.tables.now) c.args.changes.now c.args.levels c.args.path.now c.args.before.now c.args.news.now.items
    l.news.items c.put_part.new.news.items l.kids.items c.put_part.new.kids.items l.part-iterator.rest.items c.next.new.self.rest.items c.in-Some.part
    c.requires.some c.requires.deep c.in-Some.ensures.steps.0 c.in_ok-put_part.ensures l.invariant

pub finished-requires-after_bounds : goal.finished-requires-after_bounds
finished-requires-after_bounds g c κs within = c.loop-part.invariant.walked.rising

pub returns : goal.returns
returns g c =
    let l = c.loop-part in
    let done = c.in-None.ensures.steps.0 in
    let size = l.part-iterator.rest.ok.0 in
    parts_end g.H.NodeHasher.hash_of (read_at c.args.tables.now) c.args.changes.now c.args.levels c.args.path.now c.args.before.now c.args.news.now.items
    l.news.items c.finished.new.news.items l.kids.items l.part-iterator.rest.items c.in_ok-answer.answer c.requires.some
    (nil_from_length l.part-iterator.rest.items (omega (arith, done, size))) c.in_ok-answer.ensures l.invariant
