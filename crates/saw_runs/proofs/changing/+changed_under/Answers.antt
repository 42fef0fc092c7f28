use Rattle.std.proofs.Common.{◌-◌, length, map, get_or, None, sym, ◌∙◌, ap, arith, refl, subst}
use Rattle.saw_address.specs.Maps.{is_address}
use Rattle.saw_runs.specs.Places.{EndsGroup}
use Rattle.saw_runs.proofs.Nexts.{one_fits}
use Rattle.saw_runs.proofs.Nexts.{fits_group}
use Rattle.saw_runs.specs.Changes.{ChangesBelow}
use Rattle.saw_runs.specs.Lowers.{IsOpened, kid_pair}
use Rattle.saw_runs.specs.Tables.{at_byte}
use Rattle.saw_runs.specs.Readings.{read_at}
use Rattle.saw_runs.proofs.Growing.{only_change, only_group}
use Rattle.saw_runs.proofs.Walking.{leaf_here, walked_first, walked_here, walked_through}
use Rattle.saw_runs.proofs.changing.+changed_under.Goals as goal

pub returns-in-len1-None : goal.returns-in-len1-None
returns-in-len1-None g t c =
    let one = only_change c.args.changes.now c.change-item.result c.in-len1-None.len_at_least c.in-len1-None.len_below c.change-item.is in
    subst (λ b. ChangesBelow g.H.NodeHasher.hash_of (read_at c.args.tables.now) c.args.changes.now c.args.levels c.args.path.now b c.in_ok-made.made
    c.args.news.now.items c.grown.new.news.items) (sym c.in-len1-None.is-1)
    (subst (λ cs. ChangesBelow g.H.NodeHasher.hash_of (read_at c.args.tables.now) cs c.args.levels c.args.path.now None c.in_ok-made.made
    c.args.news.now.items c.grown.new.news.items) (sym one)
    (c.in_ok-made.ensures (read_at c.args.tables.now) c.args.path.now))

pub returns-then-levels-eq0 : goal.returns-then-levels-eq0
returns-then-levels-eq0 g t c =
    let some = c.requires.some in
    leaf_here g.H.NodeHasher.hash_of (read_at c.args.tables.now) c.args.changes.now c.args.path.now c.args.before.now (length c.args.changes.now - 1)
    c.index-changes-changes.result (omega (arith, some)) c.args.levels _ c.in_ok-answer.answer c.args.news.now.items c.changed_leaf.new.news.items
    c.if-levels-eq0.true refl c.in_ok-answer.ensures

pub loop-at-init : goal.loop-at-init
loop-at-init g t c =
    walked_first g.H.NodeHasher.hash_of (read_at c.args.tables.now) c.args.changes.now (c.args.levels - 1) (35 - c.args.levels) c.args.path.now c.args.before.now
    c.args.news.now.items c.in_ok-kids.kids.items c.in_ok-kids.ensures.are c.in_ok-kids.ensures.rising

pub changed_under-requires-clause-fits : goal.changed_under-requires-clause-fits
changed_under-requires-clause-fits g t c κs within =
    let some = c.if-levels-eq0.false in
    let all = c.if-group_end-changes.true in
    one_fits c.args.changes.now c.args.levels c.group_end.result c.index-changes-0.result (omega (arith, some)) c.requires.fits c.group_end.ensures
    (omega (arith, all))

pub returns-then-group_end-changes : goal.returns-then-group_end-changes
returns-then-group_end-changes g t c =
    let some = c.if-levels-eq0.false in
    only_group g.H.NodeHasher.hash_of (read_at c.args.tables.now) c.args.changes.now c.args.levels c.args.path.now c.args.before.now c.args.news.now.items
    c.changed_under.new.news.items _ c.index-changes-0.result (omega (arith, some)) c.requires.deep
    (subst (λ n. EndsGroup (35 - c.args.levels) c.args.changes.now 0 n) c.if-group_end-changes.true c.group_end.ensures)
    c.index-changes-0.is
    (ap (λ bs. get_or bs (35 - c.args.levels) 0) (c.as_slice.ensures.bytes ∙ ap (λ x. x.address) (sym c.index-changes-0.is)))
    (ap (λ x. is_address x.address) c.index-changes-0.is ∙ c.as_slice.ensures.is)
    _ _ c.in_ok-made-2.made c.on_top.result c.in-Some.ensures.only c.in_ok-made-2.ensures c.on_top.ensures

pub changed_under-requires-in-loop-at-clause-fits : goal.changed_under-requires-in-loop-at-clause-fits
changed_under-requires-in-loop-at-clause-fits g t c κs within =
    let some = c.if-levels-eq0.false in
    fits_group c.args.changes.now c.args.levels c.loop-at.at c.group_end-end.result c.index-changes-at.result (omega (arith, some)) c.requires.fits
    c.group_end-end.ensures c.loop-at.invariant.edge

pub loop-at-preserved : goal.loop-at-preserved
loop-at-preserved g t c =
    let l = c.loop-at in
    let some = c.if-levels-eq0.false in
    walked_here g.H.NodeHasher.hash_of (read_at c.args.tables.now) c.args.changes.now c.args.levels c.args.path.now c.args.before.now c.args.news.now.items
    (omega (arith, some)) l.news.items c.changed_under-in-loop-at.new.news.items l.at c.group_end-end.result _ c.index-changes-at.result c.as_slice-in-loop-at.result.now l.kids.items
    c.put_at.new.kids.items c.opened-bottom.result.0.now c.opened-bottom.result.1 c.in_ok-answer-2.answer c.requires.deep c.group_end-end.ensures
    c.index-changes-at.is (c.as_slice-in-loop-at.ensures.bytes ∙ ap (λ x. x.address) (sym c.index-changes-at.is)) refl
    (ap (λ x. is_address x.address) c.index-changes-at.is ∙ c.as_slice-in-loop-at.ensures.is)
    (subst (λ o. IsOpened (read_at c.args.tables.now) o c.opened-bottom.result.0.now c.opened-bottom.result.1)
    (c.lower_at.ensures ∙ ap (λ ks. at_byte (get_or c.as_slice-in-loop-at.result.now (35 - c.args.levels) 0) (map kid_pair ks)) c.as_slice-in-loop-at-2.ensures.value)
    c.opened-bottom.ensures.opened)
    c.in_ok-answer-2.ensures c.in_ok-put_at.ensures l.invariant

pub finished-requires-after_bounds : goal.finished-requires-after_bounds
finished-requires-after_bounds g t c κs within = c.loop-at.invariant.rising

pub returns : goal.returns
returns g t c =
    let l = c.loop-at in
    let some = c.if-levels-eq0.false in
    let all = c.loop-at-test.false in
    walked_through g.H.NodeHasher.hash_of (read_at c.args.tables.now) c.args.changes.now c.args.levels c.args.path.now c.args.before.now c.args.news.now.items
    (omega (arith, some)) l.news.items c.finished.new.news.items l.at l.kids.items c.in_ok-answer-3.answer (omega (arith, all)) c.in_ok-answer-3.ensures l.invariant
