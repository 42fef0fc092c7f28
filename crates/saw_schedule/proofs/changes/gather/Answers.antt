use Rattle.std.proofs.Common.{[], ◌∷◌, sym, ap, ◌∙◌}
use Rattle.std.proofs.lemmas.Result.{on_ok_weaker}
use Rattle.saw_context.proofs.Gathered.{after-all}
use Rattle.saw_context.specs.Outcome.{changes_of, map_after}
use Rattle.saw_context.specs.Serial.{map_after_all}
use Rattle.saw_schedule.proofs.changes.gather.Goals as goal

pub returns-in-Ok : goal.returns-in-Ok
returns-in-Ok c =
    on_ok_weaker c.change_all.result
    (λ made m.
    let old = map_after m (changes_of c.args.gathered.now) in
    ap (λ own. map_after m (changes_of own)) made ∙ after-all m c.args.gathered.now c.as_slice.result.now ∙ ap (map_after old) c.as_slice.ensures
    ∙ ap (λ outcome. map_after_all old (outcome ∷ [])) (sym c.in-Ok.is))
    c.change_all.ensures.ok
