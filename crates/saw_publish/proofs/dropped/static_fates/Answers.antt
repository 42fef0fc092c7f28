use Rattle.std.proofs.Common.{◌<◌, reverse, sym, subst, ◌∙◌}
use Rattle.saw_publish.proofs.Drops.{fates_more}
use Rattle.saw_publish.proofs.dropped.static_fates.Goals as goal

pub loop-place-preserved : goal.loop-place-preserved
loop-place-preserved c =
    λ causes size is. let so_far = c.loop-place.invariant causes size is in
    let more = fates_more causes c.loop-place.place c.loop-place.fates c.fate_at.result (reverse c.loop-place.waiting.items)
    (reverse c.fate_at.new.waiting.items) (subst (λ n. c.loop-place.place < n) (sym size) c.loop-place-test.true) so_far.0 so_far.1 c.fate_at.ensures in
    (c.in_ok-push.ensures.ok ∙ more.0, more.1)
