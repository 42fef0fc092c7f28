use Rattle.std.proofs.Common.{◌≡◌, get_or, ap, ◌∙◌, arith, refl}
use Rattle.std.proofs.lemmas.Option.{slice_get_read}
use Rattle.saw_schedule.specs.Places.{place_by, place_in}
use Rattle.saw_schedule.specs.declared.kept.Kept.{Kept}
use Rattle.saw_schedule.proofs.Gatherings.{none-moved, one-moved}
use Rattle.saw_schedule.proofs.gathering.move_outcomes.Goals.{in-Some+in_ok-push, in_default}
use Rattle.saw_schedule.proofs.gathering.move_outcomes.Goals as goal

pub loop-i-preserved : goal.loop-i-preserved
loop-i-preserved c =
    let kept = c.args.kept.now in
    let place = (get_or kept c.loop-i.i c.index-kept-i.result).place in
    let at : place_in kept c.loop-i.i ≡ place =
    ap place_by (slice_get_read kept _ c.loop-i.i c.index-kept-i.result refl (omega (arith, c.requires.0, c.loop-i-test.true)) c.index-kept-i.is)
    ∙ ap (λ (one : Kept). one.place) c.index-kept-i.is in
    elim c.match-take_at.branch [
      | in-Some+in_ok-push w ↦
          rw (w.moved-is, w.in_ok-push.ensures.ok)
          (one-moved kept c.args.outcomes.now.items c.loop-i.outcomes.items c.args.from c.loop-i.i c.args.to c.loop-i.moved c.loop-i.auto.i c.loop-i-test.true c.loop-i.invariant
          place at c.take_at.result c.take_at.ensures.taken w.in-Some.outcome w.in-Some.is c.take_at.new.outcomes.items c.take_at.ensures.left)
      | in_default w ↦
          rw w.moved-is
          (none-moved kept c.args.outcomes.now.items c.loop-i.outcomes.items c.args.from c.loop-i.i c.args.to c.loop-i.moved c.loop-i.auto.i c.loop-i-test.true c.loop-i.invariant
          place at c.take_at.result c.take_at.ensures.taken w.in_default.is c.take_at.new.outcomes.items c.take_at.ensures.left)
    ]
