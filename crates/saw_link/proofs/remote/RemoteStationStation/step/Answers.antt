use Rattle.std.proofs.Common.{rules, Err, ap, ◌∙◌}
use Rattle.saw_link.specs.Remotes.{StopsStep, fault_of, faults_after, health_of}
use Rattle.saw_link.proofs.Leaving.{kept_settled, remote_same, why_settled}
use Rattle.saw_link.proofs.LinkRuns.{kept_on, spelled_stepped}
use Rattle.saw_link.proofs.remote.RemoteStationStation.step.Goals as goal

pub invariant_of-self-in-Ok : goal.invariant_of-self-in-Ok
invariant_of-self-in-Ok g c = kept_on _ _ _ _ _ _ _ c.self.invariant (search (rules, c.requires.begun))
    (λ spelled. spelled_stepped _ _ c.args.tx.now c.args.talk.now.turns _ _ spelled c.in-Ok.ensures.stepped) c.in-Ok.ensures.still.0
    (c.in-Ok.ensures.still.1 ∙ c.self.invariant.ready (search (rules, c.requires.begun)) (search rules))

pub returns-in-Err-clause-why : goal.returns-in-Err-clause-why
returns-in-Err-clause-why g c sound =
    rw (← c.self.view_is) (why_settled _ _ _ g.L.Link.told g.L.Link.faults (StopsStep c.args.tx.now c.args.talk.now.turns) c.in-Err.trouble c.settle.ensures.fault c.in-Err.ensures.stopped
    (λ is. c.in-Err.ensures.link (ap Err is))
    (λ is.
    let e = c.in-Err.ensures.early (ap Err is) in
    let f = c.settle.ensures.early is in
    remote_same _ _ _ _ _ _ _ _ _ _ _ e.0 e.1 f.0 (c.settle.ensures.faults ∙ ap (faults_after _) (c.settle.ensures.fault ∙ ap fault_of is)) f.1)
    c.settle.ensures.leaves)

pub invariant_of-self-in-Err : goal.invariant_of-self-in-Err
invariant_of-self-in-Err g c =
    kept_settled c.in-Err.trouble _ _ _ _ _ _ _ c.self.invariant
    (λ is. let e = c.in-Err.ensures.early (ap Err is) in (ap g.L.Link.told e.0, e.1, (c.settle.ensures.early is).0))
    (λ no. (c.settle.ensures.leaves no).0 ∙ ap health_of c.settle.ensures.fault)
