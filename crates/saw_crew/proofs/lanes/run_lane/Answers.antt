use Rattle.std.proofs.Common.{Bool, [], List, get_or, refl, rules, subst, ◌∙◌, arith}
use Rattle.std.specs.Prelude.{◌==◌}
use Rattle.saw_station.specs.Serving.{processors_at}
use Rattle.saw_station.specs.declared.offer.Offer.{Offer}
use Rattle.saw_crew.specs.Failing.{IsNextIf}
use Rattle.saw_crew.proofs.Apart.{goes_on_to, gone_to_all, gone_to_none}
use Rattle.saw_crew.proofs.lanes.run_lane.Goals as goal

pub loop-k-init : goal.loop-k-init
loop-k-init g c = record {
  offers = c.in_ok-desk.ensures;
  gone = gone_to_none (processors_at g.R.Station.next g.R.Station.tells []) (g.B.Base.entry c.args.base.now) c.args.lane c.args.lanes.now c.args.batches.now
      c.new-state.result c.new-failed.result c.new-results.result c.new-results.ensures c.new-state.ensures (search rules);
}

pub loop-k-preserved : goal.loop-k-preserved
loop-k-preserved g c =
    let l = c.loop-k in
    let here : Bool = get_or c.args.lanes.now l.k 0 == c.args.lane in
    record {
      offers = c.in_ok-run_here.ensures.offers ∙ l.invariant.offers;
      gone = goes_on_to (processors_at g.R.Station.next g.R.Station.tells []) (g.B.Base.entry c.args.base.now) c.args.lane l.k c.args.lanes.now c.args.batches.now
          c.index-batches-k.result l.results c.run_here.new.results l.state c.run_here.new.state l.failed c.run_here.new.failed c.loop-k-test.true c.requires.all
          c.index-batches-k.is l.invariant.gone here refl
          (subst (λ (offers : List Offer). IsNextIf here (processors_at g.R.Station.next g.R.Station.tells offers) l.state l.failed c.index-batches-k.result.txs l.results
          c.run_here.new.state c.run_here.new.failed c.run_here.new.results) l.invariant.offers c.in_ok-run_here.ensures.next);
    }

pub returns : goal.returns
returns g c =
    let l = c.loop-k in
    gone_to_all (processors_at g.R.Station.next g.R.Station.tells []) (g.B.Base.entry c.args.base.now) c.args.lane l.k c.args.lanes.now c.args.batches.now
    l.results l.state l.failed (omega arith) l.invariant.gone c.requires.all
