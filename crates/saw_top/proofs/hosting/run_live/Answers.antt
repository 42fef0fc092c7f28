use Rattle.std.proofs.Common.{Err, Ok, refl}
use Rattle.saw_top.specs.Outside.{sink_end}
use Rattle.saw_top.proofs.Endings.{answered}
use Rattle.saw_top.proofs.Heads.{asked_done, host_served}
use Rattle.saw_top.proofs.Served.{own_alone}
use Rattle.saw_top.proofs.hosting.run_live.Goals as goal

pub returns-in-Ok-clause-ended : goal.returns-in-Ok-clause-ended
returns-in-Ok-clause-ended g c = record {
  came = Ok c.in-Ok.status;
  notes = sink_end g.N.Sink c.live_with.new.notes;
  done = asked_done _ _ _ _ _ c.in-Ok.ensures.carries;
  told = (refl, refl);
}

pub returns-in-Ok-clause-answered : goal.returns-in-Ok-clause-answered
returns-in-Ok-clause-answered g c = answered _ (λ files. own_alone) (λ files. refl) _ _ _ _ (returns-in-Ok-clause-ended g c)

pub returns-in-Ok-clause-served : goal.returns-in-Ok-clause-served
returns-in-Ok-clause-served g c =
    host_served _ _ _ _ _ (sink_end g.N.Sink c.live_with.new.notes) _ (Ok c.in-Ok.status) c.in-Ok.ensures.carries (refl, refl) c.in-Ok.ensures.served

pub returns-in-Err-clause-ended : goal.returns-in-Err-clause-ended
returns-in-Err-clause-ended g c = record {
  came = Err c.in-Err.fault;
  notes = sink_end g.N.Sink c.live_with.new.notes;
  done = asked_done _ _ _ _ _ c.in-Err.ensures.carries;
  told = (c.tell_fault.ensures.told, c.tell_fault.ensures.later);
}

pub returns-in-Err-clause-answered : goal.returns-in-Err-clause-answered
returns-in-Err-clause-answered g c = answered _ (λ files. own_alone) (λ files. refl) _ _ _ _ (returns-in-Err-clause-ended g c)

pub returns-in-Err-clause-served : goal.returns-in-Err-clause-served
returns-in-Err-clause-served g c =
    host_served _ _ _ _ _ (sink_end g.N.Sink c.live_with.new.notes) _ (Err c.in-Err.fault) c.in-Err.ensures.carries
    (c.tell_fault.ensures.told, c.tell_fault.ensures.later) c.in-Err.ensures.served
