use Rattle.std.proofs.Common.{refl, ◌∙◌}
use Rattle.saw_crew.proofs.Ended.{gives-end, gives-next}
use Rattle.saw_crew.proofs.locked.Locked.give_all_back.Goals as goal

pub loop-job-init : goal.loop-job-init
loop-job-init g c = record { given = λ new gives. gives; offers = refl }

pub loop-job-preserved : goal.loop-job-preserved
loop-job-preserved g c =
    let so_far = c.loop-job.invariant in record {
      given = λ new gives.
          so_far.given new (gives-next c.loop-job.self.history c.give_back.new.self.history new c.args.jobs.now c.loop-job.job-index c.job-item.result c.loop-job-test.true c.job-item.is c.give_back.ensures.given gives);
      offers = c.give_back.ensures.offers ∙ so_far.offers;
    }

pub returns-clause-given : goal.returns-clause-given
returns-clause-given g c =
    c.loop-job.invariant.given c.loop-job.self.history (gives-end c.loop-job.self.history c.args.jobs.now c.loop-job.job-index c.loop-job-test.false)

pub returns-clause-offers : goal.returns-clause-offers
returns-clause-offers g c = c.loop-job.invariant.offers
