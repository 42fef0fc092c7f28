use Rattle.std.proofs.Common.{ap}
use Rattle.saw_runs.specs.Differing.{kids_in}
use Rattle.saw_runs.proofs.Leads.{pass_children}
use Rattle.saw_runs.proofs.beside.behind_same.Goals as goal

pub returns-in-Node-Node-clause-pass : goal.returns-in-Node-Node-clause-pass
returns-in-Node-Node-clause-pass c = λ read.
    pass_children read c.same_front-same.result (kids_in read c.args.firsts) (kids_in read c.args.seconds) c.in-Node-Node.ones.now c.in-Node-Node.others.now
    (ap (kids_in read) c.in-Node-Node.is-0) (ap (kids_in read) c.in-Node-Node.is-1) c.same_front-same.ensures.same
