use Rattle.std.proofs.Common.{Err, Ok, map, refl}
use Rattle.saw_top.specs.Outside.{sink_end}
use Rattle.saw_top.proofs.Beginning.{have_so, stopped_status}
use Rattle.saw_top.proofs.Endings.{answered}
use Rattle.saw_top.proofs.Served.{own_with}
use Rattle.saw_top.proofs.top.run.Goals as goal

pub returns-in-Ok-clause-ended : goal.returns-in-Ok-clause-ended
returns-in-Ok-clause-ended g c = record {
  came = Ok c.in-Ok.status;
  notes = sink_end g.N.Sink c.carry_out.new.notes;
  done = c.in-Ok.ensures.carries;
  told = (refl, refl);
}

pub returns-in-Ok-clause-answered : goal.returns-in-Ok-clause-answered
returns-in-Ok-clause-answered g c =
    let laws = g.met.R.Station g.world.𝓛 g.world.𝓜 g.world.𝓡 ((λ s x. x), (λ x. x), (λ x. x), λ x. x) in
    answered _
    (λ files. own_with g.R.Station.next laws.own_reasons g.R.Station.tells (map g.R.Station.offered c.carry_out.new.remotes.items)) (λ files. refl) _ _ _ _
    (returns-in-Ok-clause-ended g c)

pub returns-in-Err-clause-ended : goal.returns-in-Err-clause-ended
returns-in-Err-clause-ended g c = record {
  came = Err c.in-Err.fault;
  notes = sink_end g.N.Sink c.carry_out.new.notes;
  done = c.in-Err.ensures.carries;
  told = (c.tell_fault.ensures.told, c.tell_fault.ensures.later);
}

pub returns-in-Err-clause-answered : goal.returns-in-Err-clause-answered
returns-in-Err-clause-answered g c =
    let laws = g.met.R.Station g.world.𝓛 g.world.𝓜 g.world.𝓡 ((λ s x. x), (λ x. x), (λ x. x), λ x. x) in
    answered _
    (λ files. own_with g.R.Station.next laws.own_reasons g.R.Station.tells (map g.R.Station.offered c.carry_out.new.remotes.items)) (λ files. refl) _ _ _ _
    (returns-in-Err-clause-ended g c)

pub returns-in-Ok-clause-begun : goal.returns-in-Ok-clause-begun
returns-in-Ok-clause-begun g c = λ asks. have_so g.R.Station.begun _ _ _ _ (c.in-Ok.ensures.begun asks) (λ still. absurd still.3)

pub returns-in-Err-clause-begun : goal.returns-in-Err-clause-begun
returns-in-Err-clause-begun g c = λ asks.
    have_so g.R.Station.begun _ _ _ _ (c.in-Err.ensures.begun asks)
    (λ still. (still.0, still.1, still.2, stopped_status c.in-Err.fault _ _ _ c.tell_fault.ensures.told still.3))
