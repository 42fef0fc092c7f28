use Rattle.std.proofs.Common.{◌-◌, map, get_or, sym, ap, ◌∙◌, arith, refl, subst}
use Rattle.saw_address.specs.Maps.{is_address}
use Rattle.saw_runs.specs.Lowers.{IsOpened, kid_pair}
use Rattle.saw_runs.specs.Readings.{read_at}
use Rattle.saw_runs.specs.Tables.{at_byte}
use Rattle.saw_runs.proofs.Apart.{all_end, walked_all}
use Rattle.saw_runs.proofs.Growing.{only_group}
use Rattle.saw_runs.proofs.InOrder.{kids_rise}
use Rattle.saw_runs.proofs.Nexts.{one_fits}
use Rattle.saw_runs.proofs.Walking.{walked_through}
use Rattle.saw_runs.proofs.sharing.+shared_under.Goals as goal

pub shared_under-requires-clause-fits : goal.shared_under-requires-clause-fits
shared_under-requires-clause-fits g t c κs within =
    let some = c.if-levels-eq0.false in
    let all = c.if-group_end-changes.false in
    one_fits c.args.changes.now c.args.levels c.group_end.result c.index-changes-0.result (omega (arith, some)) c.requires.fits c.group_end.ensures
    (omega (arith, all))

pub shared_under-requires-2-clause-fits : goal.shared_under-requires-2-clause-fits
shared_under-requires-2-clause-fits g t c κs within =
    let some = c.if-levels-eq0.false in
    let all = c.if-group_end-changes.false in
    one_fits c.args.changes.now c.args.levels c.group_end.result c.index-changes-0.result (omega (arith, some)) c.requires.fits c.group_end.ensures
    (omega (arith, all))

pub returns-in-Some : goal.returns-in-Some
returns-in-Some g t c =
    let some = c.if-levels-eq0.false in
    let all = c.if-group_end-changes.false in
    only_group g.H.NodeHasher.hash_of (read_at c.args.tables.now) c.args.changes.now c.args.levels c.args.path.now c.args.before.now c.args.news.now.items
    c.shared_under.new.news.items _ c.index-changes-0.result (omega (arith, some)) c.requires.deep
    (all_end (35 - c.args.levels) c.args.changes.now c.group_end.result (omega (arith, all)) c.group_end.ensures) c.index-changes-0.is
    (ap (λ bs. get_or bs (35 - c.args.levels) 0) (c.as_slice.ensures.bytes ∙ ap (λ x. x.address) (sym c.index-changes-0.is)))
    (ap (λ x. is_address x.address) c.index-changes-0.is ∙ c.as_slice.ensures.is)
    _ _ c.in_ok-made.made c.on_top.result c.in-Some.ensures.only c.in_ok-made.ensures c.on_top.ensures

pub finished-requires-after_bounds : goal.finished-requires-after_bounds
finished-requires-after_bounds g t c κs within = kids_rise _ _ c.in_ok-kids.kids.items c.put_at.new.kids.items c.in_ok-put_at.ensures c.in_ok-kids.ensures.rising

pub returns : goal.returns
returns g t c =
    let some = c.if-levels-eq0.false in
    let all = c.if-group_end-changes.false in
    walked_through g.H.NodeHasher.hash_of (read_at c.args.tables.now) c.args.changes.now c.args.levels c.args.path.now c.args.before.now c.args.news.now.items
    (omega (arith, some)) c.shared_under-2.new.news.items c.finished.new.news.items c.group_end.result c.put_at.new.kids.items c.in_ok-answer-4.answer
    (omega (arith, all)) c.in_ok-answer-4.ensures
    (walked_all g.H.NodeHasher.hash_of (read_at c.args.tables.now) c.args.changes.now c.args.levels c.args.path.now c.args.before.now c.args.news.now.items
    c.shared_under-2.new.news.items c.group_end.result _ c.index-changes-0.result c.as_slice.result.now c.in_ok-kids.kids.items c.put_at.new.kids.items
    c.opened-bottom.result.0.now c.opened-bottom.result.1 c.in_ok-answer-3.answer (omega (arith, some)) c.requires.deep c.group_end.ensures (omega (arith, all))
    c.index-changes-0.is (c.as_slice.ensures.bytes ∙ ap (λ x. x.address) (sym c.index-changes-0.is)) refl
    (ap (λ x. is_address x.address) c.index-changes-0.is ∙ c.as_slice.ensures.is) c.in_ok-kids.ensures.are c.in_ok-kids.ensures.rising
    (subst (λ o. IsOpened (read_at c.args.tables.now) o c.opened-bottom.result.0.now c.opened-bottom.result.1)
    (c.lower_at.ensures ∙ ap (λ ks. at_byte (get_or c.as_slice.result.now (35 - c.args.levels) 0) (map kid_pair ks)) c.as_slice-2.ensures.value)
    c.opened-bottom.ensures.opened)
    c.in_ok-answer-3.ensures c.in_ok-put_at.ensures)
