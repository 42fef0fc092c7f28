use Rattle.std.proofs.lemmas.Result.{err_from_is_err_and}
use Rattle.indexmap.specs.IndexMap.{values}
use Rattle.saw_crew.proofs.Leaving.{keep_all}
use Rattle.saw_crew.specs.Desks.{offers_at}
use Rattle.saw_rules.specs.Policies.{policy_by}
use Rattle.saw_station.proofs.Finished.{processors_own}
use Rattle.saw_station.specs.Serving.{processors_at}
use Rattle.saw_journal.proofs.Counted.{few_batches, few_transactions}
use Rattle.saw_journal.proofs.Judgements.{by_structure}
use Rattle.saw_journal.proofs.judge.judge_block.Goals as goal

pub returns-in_err-read-clause-desks : goal.returns-in_err-read-clause-desks
returns-in_err-read-clause-desks g c = keep_all g.R.Station.faults g.R.Station.offered c.args.desks.now

pub returns-in_err-read-clause-judged : goal.returns-in_err-read-clause-judged
returns-in_err-read-clause-judged g c =
    let p = err_from_is_err_and c.from_residual.result c.from_residual.ensures.1 in
    let hash = g.H.NodeHasher.hash_of in
    let accepts = g.V.Verifier.accepts c.args.verifier.now in
    let laws = g.met.R.Station g.world.𝓛 g.world.𝓜 g.world.𝓡 ((λ s x. x), (λ x. x), (λ x. x), λ x. x) in
    let own = processors_own g.R.Station.next laws.own_reasons g.R.Station.tells (offers_at c.args.desks.now) in
    let policy = policy_by g.P.BlockPolicy.fault g.P.BlockPolicy.end_fault in
    let processors = processors_at g.R.Station.next g.R.Station.tells (offers_at c.args.desks.now) in
    rw (p.1, p.2) (by_structure processors own hash accepts policy (values c.args.blocks.now) c.args.state.now c.args.bytes.now c.in_err-read.field-0.0
    c.in_err-read.ensures)

pub judge_read-requires-clause-few : goal.judge_read-requires-clause-few
judge_read-requires-clause-few g c = λ κs alive.
    few_batches (g.V.Verifier.accepts c.args.verifier.now) c.args.bytes.now c.in_ok-read.read.checked c.in_ok-read.ensures.0 c.in_ok-read.ensures.1

pub judge_read-requires-clause-counted : goal.judge_read-requires-clause-counted
judge_read-requires-clause-counted g c = λ κs alive.
    few_transactions (g.V.Verifier.accepts c.args.verifier.now) c.args.bytes.now c.in_ok-read.read.checked c.in_ok-read.ensures.0
    c.in_ok-read.ensures.1

pub returns-clause-judged : goal.returns-clause-judged
returns-clause-judged g c =
    c.judge_read.ensures.judged (g.V.Verifier.accepts c.args.verifier.now) c.args.bytes.now c.in_ok-read.ensures.0 c.in_ok-read.ensures.1
