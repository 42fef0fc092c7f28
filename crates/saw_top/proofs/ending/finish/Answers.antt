use Rattle.saw_crew.proofs.Leaving.{keep_all}
use Rattle.saw_crew.specs.Desks.{offers_at}
use Rattle.saw_station.proofs.Finished.{processors_own}
use Rattle.saw_station.specs.Serving.{processors_at}
use Rattle.saw_top.specs.Outside.{counts_of, sink_end}
use Rattle.saw_top.specs.declared.task.Ending.TheVariants.{Batch, Entries, Events, Head, Proof, Receipts}
use Rattle.saw_top.proofs.Tellings.{finishes_plain, tells_only}
use Rattle.saw_top.proofs.ending.finish.Goals as goal

pub returns-in-Head-clause-finishes : goal.returns-in-Head-clause-finishes
returns-in-Head-clause-finishes g c =
    let laws = g.met.R.Station g.world.𝓛 g.world.𝓜 g.world.𝓡 ((λ s x. x), (λ x. x), (λ x. x), λ x. x) in
    let f = c.tell_head.ensures in
    rw c.in-Head.is (finishes_plain (processors_at g.R.Station.next g.R.Station.tells (offers_at c.args.desks.now))
    (processors_own g.R.Station.next laws.own_reasons g.R.Station.tells (offers_at c.args.desks.now)) (g.V.Verifier.accepts c.args.verifier.now) _
    c.args.journal.now c.args.refused (sink_end g.O.Sink c.args.output.now) (sink_end g.O.Sink c.tell_head.new.output) (sink_end g.N.Sink c.args.notes.now)
    (counts_of g.R.Station.faults c.args.desks.now) c.tell_head.result Head (λ is. cc is)
    (tells_only _ _ (sink_end g.O.Sink c.args.output.now) (sink_end g.O.Sink c.tell_head.new.output) (sink_end g.N.Sink c.args.notes.now) c.tell_head.result
    f.ok f.status f.err f.fault f.cause))

pub returns-in-Head-clause-desks : goal.returns-in-Head-clause-desks
returns-in-Head-clause-desks g c = keep_all g.R.Station.faults g.R.Station.offered c.args.desks.now

pub returns-in-Entries-clause-finishes : goal.returns-in-Entries-clause-finishes
returns-in-Entries-clause-finishes g c =
    let laws = g.met.R.Station g.world.𝓛 g.world.𝓜 g.world.𝓡 ((λ s x. x), (λ x. x), (λ x. x), λ x. x) in
    let f = c.list_head.ensures in
    rw c.in-Entries.is (finishes_plain (processors_at g.R.Station.next g.R.Station.tells (offers_at c.args.desks.now))
    (processors_own g.R.Station.next laws.own_reasons g.R.Station.tells (offers_at c.args.desks.now)) (g.V.Verifier.accepts c.args.verifier.now) _
    c.args.journal.now c.args.refused (sink_end g.O.Sink c.args.output.now) (sink_end g.O.Sink c.list_head.new.output) (sink_end g.N.Sink c.args.notes.now)
    (counts_of g.R.Station.faults c.args.desks.now) c.list_head.result (Entries _) (λ is. cc is)
    (tells_only _ _ (sink_end g.O.Sink c.args.output.now) (sink_end g.O.Sink c.list_head.new.output) (sink_end g.N.Sink c.args.notes.now) c.list_head.result
    f.ok f.status f.err f.fault f.cause))

pub returns-in-Entries-clause-desks : goal.returns-in-Entries-clause-desks
returns-in-Entries-clause-desks g c = keep_all g.R.Station.faults g.R.Station.offered c.args.desks.now

pub returns-in-Receipts-clause-finishes : goal.returns-in-Receipts-clause-finishes
returns-in-Receipts-clause-finishes g c =
    let laws = g.met.R.Station g.world.𝓛 g.world.𝓜 g.world.𝓡 ((λ s x. x), (λ x. x), (λ x. x), λ x. x) in
    let f = c.list_receipts.ensures in
    rw c.in-Receipts.is (finishes_plain (processors_at g.R.Station.next g.R.Station.tells (offers_at c.args.desks.now))
    (processors_own g.R.Station.next laws.own_reasons g.R.Station.tells (offers_at c.args.desks.now)) (g.V.Verifier.accepts c.args.verifier.now) _
    c.args.journal.now c.args.refused (sink_end g.O.Sink c.args.output.now) (sink_end g.O.Sink c.list_receipts.new.output) (sink_end g.N.Sink c.args.notes.now)
    (counts_of g.R.Station.faults c.args.desks.now) c.list_receipts.result Receipts (λ is. cc is)
    (tells_only _ _ (sink_end g.O.Sink c.args.output.now) (sink_end g.O.Sink c.list_receipts.new.output) (sink_end g.N.Sink c.args.notes.now) c.list_receipts.result
    f.ok f.status f.err f.fault f.cause))

pub returns-in-Receipts-clause-desks : goal.returns-in-Receipts-clause-desks
returns-in-Receipts-clause-desks g c = keep_all g.R.Station.faults g.R.Station.offered c.args.desks.now

pub returns-in-Batch-clause-finishes : goal.returns-in-Batch-clause-finishes
returns-in-Batch-clause-finishes g c =
    let laws = g.met.R.Station g.world.𝓛 g.world.𝓜 g.world.𝓡 ((λ s x. x), (λ x. x), (λ x. x), λ x. x) in
    let f = c.tell_batch.ensures in
    rw c.in-Batch.is (finishes_plain (processors_at g.R.Station.next g.R.Station.tells (offers_at c.args.desks.now))
    (processors_own g.R.Station.next laws.own_reasons g.R.Station.tells (offers_at c.args.desks.now)) (g.V.Verifier.accepts c.args.verifier.now) _
    c.args.journal.now c.args.refused (sink_end g.O.Sink c.args.output.now) (sink_end g.O.Sink c.tell_batch.new.output) (sink_end g.N.Sink c.args.notes.now)
    (counts_of g.R.Station.faults c.args.desks.now) c.tell_batch.result (Batch _) (λ is. cc is)
    (tells_only _ _ (sink_end g.O.Sink c.args.output.now) (sink_end g.O.Sink c.tell_batch.new.output) (sink_end g.N.Sink c.args.notes.now) c.tell_batch.result
    f.ok f.status f.err f.fault f.cause))

pub returns-in-Batch-clause-desks : goal.returns-in-Batch-clause-desks
returns-in-Batch-clause-desks g c = keep_all g.R.Station.faults g.R.Station.offered c.args.desks.now

pub returns-in-Proof-clause-finishes : goal.returns-in-Proof-clause-finishes
returns-in-Proof-clause-finishes g c =
    let laws = g.met.R.Station g.world.𝓛 g.world.𝓜 g.world.𝓡 ((λ s x. x), (λ x. x), (λ x. x), λ x. x) in
    let f = c.prove_head.ensures in
    rw c.in-Proof.is (finishes_plain (processors_at g.R.Station.next g.R.Station.tells (offers_at c.args.desks.now))
    (processors_own g.R.Station.next laws.own_reasons g.R.Station.tells (offers_at c.args.desks.now)) (g.V.Verifier.accepts c.args.verifier.now) _
    c.args.journal.now c.args.refused (sink_end g.O.Sink c.args.output.now) (sink_end g.O.Sink c.prove_head.new.output) (sink_end g.N.Sink c.args.notes.now)
    (counts_of g.R.Station.faults c.args.desks.now) c.prove_head.result (Proof _) (λ is. cc is)
    (tells_only _ _ (sink_end g.O.Sink c.args.output.now) (sink_end g.O.Sink c.prove_head.new.output) (sink_end g.N.Sink c.args.notes.now) c.prove_head.result
    f.ok f.status f.err f.fault f.cause))

pub returns-in-Proof-clause-desks : goal.returns-in-Proof-clause-desks
returns-in-Proof-clause-desks g c = keep_all g.R.Station.faults g.R.Station.offered c.args.desks.now

pub returns-in-Events-clause-finishes : goal.returns-in-Events-clause-finishes
returns-in-Events-clause-finishes g c =
    let laws = g.met.R.Station g.world.𝓛 g.world.𝓜 g.world.𝓡 ((λ s x. x), (λ x. x), (λ x. x), λ x. x) in
    let f = rw c.as_slice.ensures at c.list_events.ensures in
    rw c.in-Events.is (finishes_plain (processors_at g.R.Station.next g.R.Station.tells (offers_at c.args.desks.now))
    (processors_own g.R.Station.next laws.own_reasons g.R.Station.tells (offers_at c.args.desks.now)) (g.V.Verifier.accepts c.args.verifier.now) _
    c.args.journal.now c.args.refused (sink_end g.O.Sink c.args.output.now) (sink_end g.O.Sink c.list_events.new.output) (sink_end g.N.Sink c.args.notes.now)
    (counts_of g.R.Station.faults c.args.desks.now) c.list_events.result (Events _ _) (λ is. cc is)
    (tells_only _ _ (sink_end g.O.Sink c.args.output.now) (sink_end g.O.Sink c.list_events.new.output) (sink_end g.N.Sink c.args.notes.now) c.list_events.result
    f.ok f.status f.err f.fault f.cause))

pub returns-in-Events-clause-desks : goal.returns-in-Events-clause-desks
returns-in-Events-clause-desks g c = keep_all g.R.Station.faults g.R.Station.offered c.args.desks.now

pub returns-in-Candidate-clause-finishes : goal.returns-in-Candidate-clause-finishes
returns-in-Candidate-clause-finishes g c = rw c.in-Candidate.is c.publish.ensures.finishes
