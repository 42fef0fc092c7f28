use Rattle.std.proofs.Common.{[]}
use Rattle.saw_context.specs.Possible.{MayComeOfAll}
use Rattle.saw_plan.specs.BatchShapes.{txs_of}
use Rattle.saw_schedule.specs.declared.results.Results.{Results}
use Rattle.saw_station.proofs.Finished.{if_ok}
use Rattle.saw_station.specs.Serving.{processors_at}
use Rattle.saw_crew.proofs.Results.{fit-all}
use Rattle.saw_crew.proofs.built_in.run_built_in.Goals as goal

pub returns-in-Some-clause-whole : goal.returns-in-Some-clause-whole
returns-in-Some-clause-whole g c =
    fit-all (processors_at g.R.Station.next g.R.Station.tells []) [] (g.B.Base.entry c.args.base.now) (txs_of c.args.batches.now) c.in-Some.batches
    (rw c.in-Some.is at c.in_ok-batches.ensures)

pub returns-clause-whole : goal.returns-clause-whole
returns-clause-whole g c =
    let processors = processors_at g.R.Station.next g.R.Station.tells [] in
    let m = g.B.Base.entry c.args.base.now in
    let batches = txs_of c.args.batches.now in
    if_ok (λ (results : Results). MayComeOfAll processors m batches results.batches) _
    (λ results comes. fit-all processors [] m batches results.batches comes) c.run_in_turn.result c.run_in_turn.ensures
