use Rattle.std.proofs.lemmas.Result.{err_from_is_err_and}
use Rattle.saw_crew.proofs.Leaving.{keep_all, keeps_all_trans, kept_alike, kept_offers, kept_some}
use Rattle.saw_crew.specs.Desks.{offers_at}
use Rattle.saw_station.proofs.Finished.{processors_own}
use Rattle.saw_station.specs.Serving.{processors_at}
use Rattle.saw_top.specs.Outside.{counts_of, outside_with, sink_end}
use Rattle.saw_top.proofs.Desks.{rose_since}
use Rattle.saw_top.proofs.Doing.{does_all, does_nothing, does_to}
use Rattle.saw_top.proofs.Hearing.{heard_fault, heard_on, nobody_heard}
use Rattle.saw_top.proofs.tasks.do_task.Goals as goal

pub returns-in_err-journal-clause-does : goal.returns-in_err-journal-clause-does
returns-in_err-journal-clause-does g c =
    let laws = g.met.R.Station g.world.𝓛 g.world.𝓜 g.world.𝓡 ((λ s x. x), (λ x. x), (λ x. x), λ x. x) in
    λ held new_held.
    let p = err_from_is_err_and c.from_residual.result c.from_residual.ensures.1 in
    rw (p.1, p.2) (does_nothing (processors_at g.R.Station.next g.R.Station.tells (offers_at c.args.desks.now))
    (processors_own g.R.Station.next laws.own_reasons g.R.Station.tells (offers_at c.args.desks.now)) c.args.task.now
    (g.V.Verifier.accepts c.args.verifier.now)
    (record { key = g.G.Signer.key_text c.args.signer.now; signature = g.G.Signer.signature c.args.signer.now }) c.args.batches.now
    (outside_with g.S.Source g.O.Sink g.N.Sink c.args.input.now c.args.output.now c.args.notes.now held
    (counts_of g.R.Station.faults c.args.desks.now)) new_held)

pub returns-in_err-refused-clause-does : goal.returns-in_err-refused-clause-does
returns-in_err-refused-clause-does g c =
    let laws = g.met.R.Station g.world.𝓛 g.world.𝓜 g.world.𝓡 ((λ s x. x), (λ x. x), (λ x. x), λ x. x) in
    λ held new_held.
    let p = err_from_is_err_and c.from_residual-in_err-refused.result c.from_residual-in_err-refused.ensures.1 in
    rw (p.1, p.2) (does_to _ (processors_own g.R.Station.next laws.own_reasons g.R.Station.tells (offers_at c.args.desks.now)) c.args.task.now _ _ _ _ _ c.judge_lines.new.journal _ (c.in_err-refused.ensures.judges held new_held))

pub returns-clause-does : goal.returns-clause-does
returns-clause-does g c =
    let laws = g.met.R.Station g.world.𝓛 g.world.𝓜 g.world.𝓡 ((λ s x. x), (λ x. x), (λ x. x), λ x. x) in
    λ held new_held.
    let keeps = c.in_ok-refused.ensures.desks in
    let same = kept_offers g.R.Station.faults g.R.Station.offered c.args.desks.now c.judge_lines.new.desks keeps in
    does_all (processors_at g.R.Station.next g.R.Station.tells (offers_at c.args.desks.now))
    (processors_own g.R.Station.next laws.own_reasons g.R.Station.tells (offers_at c.args.desks.now)) c.args.task.now
    (g.V.Verifier.accepts c.args.verifier.now)
    (record { key = g.G.Signer.key_text c.args.signer.now; signature = g.G.Signer.signature c.args.signer.now }) c.args.batches.now
    _ _ c.judge_lines.new.journal c.in_ok-refused.refused (c.in_ok-refused.ensures.judges held new_held)
    (sink_end g.O.Sink c.finish-came.new.output) (sink_end g.N.Sink c.finish-came.new.notes) (counts_of g.R.Station.faults c.finish-came.new.desks)
    (rose_since g.R.Station.faults g.R.Station.offered c.args.desks.now c.judge_lines.new.desks _ keeps) c.finish-came.result
    (rw same at c.finish-came.ensures.finishes)

pub finish-came-requires-clause-some : goal.finish-came-requires-clause-some
finish-came-requires-clause-some g c = λ κs alive.
    kept_some g.R.Station.faults g.R.Station.offered c.args.desks.now c.judge_lines.new.desks c.in_ok-refused.ensures.desks c.requires.some

pub finish-came-requires-clause-alike : goal.finish-came-requires-clause-alike
finish-came-requires-clause-alike g c = λ κs alive.
    kept_alike g.R.Station.faults g.R.Station.offered c.args.desks.now c.judge_lines.new.desks c.in_ok-refused.ensures.desks c.requires.alike

pub returns-in_err-journal-clause-desks : goal.returns-in_err-journal-clause-desks
returns-in_err-journal-clause-desks g c = keep_all g.R.Station.faults g.R.Station.offered c.args.desks.now

pub returns-clause-desks : goal.returns-clause-desks
returns-clause-desks g c =
    keeps_all_trans g.R.Station.faults g.R.Station.offered c.args.desks.now c.judge_lines.new.desks c.finish-came.new.desks
    c.in_ok-refused.ensures.desks c.finish-came.ensures.desks

pub returns-in_err-journal-clause-heard : goal.returns-in_err-journal-clause-heard
returns-in_err-journal-clause-heard g c =
    let laws = g.met.R.Station g.world.𝓛 g.world.𝓜 g.world.𝓡 ((λ s x. x), (λ x. x), (λ x. x), λ x. x) in
    let p = err_from_is_err_and c.from_residual.result c.from_residual.ensures.1 in
    let processors = processors_at g.R.Station.next g.R.Station.tells (offers_at c.args.desks.now) in
    rw (p.1, p.2) (nobody_heard processors
    (processors_own g.R.Station.next laws.own_reasons g.R.Station.tells (offers_at c.args.desks.now)) (g.V.Verifier.accepts c.args.verifier.now)
    g.W.Follower.follows (g.W.Follower.heads c.args.follower.now) (g.S.Source.unread c.args.input.now))

pub returns-in_err-refused-clause-heard : goal.returns-in_err-refused-clause-heard
returns-in_err-refused-clause-heard g c =
    let p = err_from_is_err_and c.from_residual-in_err-refused.result c.from_residual-in_err-refused.ensures.1 in
    rw (p.1, p.2) (heard_fault c.in_err-refused.ensures.heard)

pub returns-clause-heard : goal.returns-clause-heard
returns-clause-heard g c = heard_on c.finish-came.result c.in_ok-refused.ensures.heard
