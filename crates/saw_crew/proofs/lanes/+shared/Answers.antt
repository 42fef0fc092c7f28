use Rattle.std.proofs.Common.{ℕ, ◌-◌, ◌/◌, [], ◌++◌, subst, arith}
use Rattle.saw_context.specs.Outcome.{Processors}
use Rattle.saw_plan.specs.BatchShapes.{txs_of}
use Rattle.saw_station.specs.Serving.{processors_at}
use Rattle.saw_crew.specs.Lanes.{AreOfLanes}
use Rattle.saw_crew.proofs.Apart.{of_both, of_one}
use Rattle.saw_crew.proofs.lanes.+shared.Goals as goal

pub returns-then-count-le1 : goal.returns-then-count-le1
returns-then-count-le1 g t c =
    let processors : Processors = processors_at g.R.Station.next g.R.Station.tells [] in
    rw (c.in_ok-push.ensures.items, c.new-one.ensures.items) (of_one processors (g.B.Base.entry c.args.base.now) c.args.lanes.now (txs_of c.args.batches.now)
    c.args.lane c.args.count c.in_ok-run_lane.field-0 c.requires.some c.if-count-le1.true c.in_ok-run_lane.ensures)

pub returns : goal.returns
returns g t c =
    let processors : Processors = processors_at g.R.Station.next g.R.Station.tells [] in
    let near : ℕ = c.args.count / 2 in
    rw c.in_ok-append.ensures.items
    (subst (λ n. AreOfLanes processors (g.B.Base.entry c.args.base.now) c.args.lanes.now (txs_of c.args.batches.now) c.args.lane n (c.in_ok-came.came.items ++ c.in_ok-others.others.items)) (omega arith)
    (of_both processors (g.B.Base.entry c.args.base.now) c.args.lanes.now (txs_of c.args.batches.now) c.args.lane near (c.args.count - near)
    c.in_ok-came.came.items c.in_ok-others.others.items (rw c.in_ok-came.was at c.join-came.ensures.first) (rw c.in_ok-others.was at c.join-came.ensures.second)))
