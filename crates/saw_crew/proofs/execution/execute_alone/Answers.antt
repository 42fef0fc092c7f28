use Rattle.saw_crew.proofs.Leaving.{first_kept, keep_all}
use Rattle.saw_crew.proofs.execution.execute_alone.Goals as goal

pub returns-clause-desks : goal.returns-clause-desks
returns-clause-desks g c =
    first_kept g.R.Station.faults g.R.Station.offered c.args.desks.now c.args.desks.now c.index-desks-0.result c.run_serially.new.desk c.requires.some
    (keep_all g.R.Station.faults g.R.Station.offered c.args.desks.now) c.run_serially.ensures.desk.keeps
