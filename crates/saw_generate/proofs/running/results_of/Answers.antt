use Rattle.std.proofs.Common.{List, [], Err, refl, sym, ap, subst, ◌∙◌}
use Rattle.saw_messages.specs.declared.outcome.Reason.TheVariants.{Remote}
use Rattle.saw_messages.specs.declared.talk.Action.TheVariants as actions
use Rattle.saw_crew.proofs.Lone.{lone_alike, lone_offers}
use Rattle.saw_crew.proofs.Telling.{all_families, told_serial}
use Rattle.saw_station.specs.DeskPlaces.{AreLone, Place}
use Rattle.saw_station.specs.Serving.{alone}
use Rattle.saw_station.specs.declared.station.NoStation.{NoStation}
use Rattle.saw_generate.proofs.Faultless.{none_fails}
use Rattle.saw_generate.proofs.running.results_of.Goals as goal

pub execute-requires-clause-alike : goal.execute-requires-clause-alike
execute-requires-clause-alike g c =
    λ κs alive.
    lone_alike c.deref_mut.result.now (subst (λ (l : List (Place NoStation)). AreLone l) (sym c.deref_mut.ensures.value) c.in_ok-desks.ensures.lone)

pub unreachable-requires : goal.unreachable-requires
unreachable-requires g c =
    none_fails (λ (r : NoStation). 0) (λ r. refl) c.deref_mut.result.now c.execute.new.desks
    (c.execute.ensures.cause (c.in-Err-PeerFailed.is ∙ ap Err c.in-Err-PeerFailed.field-0-is))

pub returns-in-Ok : goal.returns-in-Ok
returns-in-Ok g c =
    let desks = c.deref_mut.result.now in
    let lone : AreLone desks = subst (λ (l : List (Place NoStation)). AreLone l) (sym c.deref_mut.ensures.value) c.in_ok-desks.ensures.lone in
    let may = rw (lone_offers desks lone) at c.in-Ok.ensures.results in
    let all = told_serial (alone []) (all_families (λ tx turns. actions.Invalid Remote) []) _ _ c.in-Ok.results.batches may in
    rw c.in_ok-plan.ensures.ok at all
