use Rattle.std.proofs.Common.{refl, rules, Err, ap, ◌∙◌}
use Rattle.saw_link.specs.Remotes.{health_of}
use Rattle.saw_link.specs.Troubles.{StopsRegistering}
use Rattle.saw_link.proofs.Leaving.{kept_settled, why_settled}
use Rattle.saw_link.proofs.LinkRuns.{kept_on, spelled_ran}
use Rattle.saw_link.proofs.remote.RemoteStationStation.begin.Goals as goal

pub invariant_of-self-in-Ok : goal.invariant_of-self-in-Ok
invariant_of-self-in-Ok g c = kept_on _ _ _ _ _ _ _ c.self.invariant refl (λ spelled. spelled_ran _ _ _ _ _ spelled c.in-Ok.ensures.registered.ran)
    (c.in-Ok.ensures.still.0 ∙ c.self.invariant.still (search rules)) c.in-Ok.ensures.still.1

pub returns-in-Err-clause-why : goal.returns-in-Err-clause-why
returns-in-Err-clause-why g c sound =
    rw (← c.self.view_is) (why_settled _ _ _ g.L.Link.told g.L.Link.faults StopsRegistering c.in-Err.trouble c.settle.ensures.fault c.in-Err.ensures.stopped
    (λ is. c.in-Err.ensures.link (ap Err is))
    (λ is. absurd (c.in-Err.ensures.early (ap Err is)))
    c.settle.ensures.leaves)

pub invariant_of-self-in-Err : goal.invariant_of-self-in-Err
invariant_of-self-in-Err g c =
    kept_settled c.in-Err.trouble _ _ _ _ _ _ _ c.self.invariant
    (λ is. absurd (c.in-Err.ensures.early (ap Err is)))
    (λ no. (c.settle.ensures.leaves no).0 ∙ ap health_of c.settle.ensures.fault)
