use Rattle.std.proofs.Common.{◌≡◌, ap, Err}
use Rattle.std.proofs.lemmas.Result.{err_from_is_err_and}
use Rattle.saw_crew.specs.Desks.{offers_at}
use Rattle.saw_report.specs.declared.run_fault.RunFault.TheVariants.{Peer}
use Rattle.saw_station.proofs.Finished.{processors_own}
use Rattle.saw_station.specs.Serving.{processors_at}
use Rattle.saw_top.specs.Outside.{counts_of, sink_end}
use Rattle.saw_top.proofs.Desks.{failed_rose}
use Rattle.saw_top.proofs.Tellings.{finishes_made, finishes_unmade}
use Rattle.saw_top.proofs.publishing.publish.Goals as goal

pub returns-in_err-made-clause-finishes : goal.returns-in_err-made-clause-finishes
returns-in_err-made-clause-finishes g c =
    let laws = g.met.R.Station g.world.𝓛 g.world.𝓜 g.world.𝓡 ((λ s x. x), (λ x. x), (λ x. x), λ x. x) in
    let p = err_from_is_err_and c.from_residual.result c.from_residual.ensures.1 in
    let e = c.in_err-made.ensures in
    rw (p.1, p.2) (finishes_unmade (processors_at g.R.Station.next g.R.Station.tells (offers_at c.args.desks.now))
    (processors_own g.R.Station.next laws.own_reasons g.R.Station.tells (offers_at c.args.desks.now)) (g.V.Verifier.accepts c.args.verifier.now)
    (record { key = g.G.Signer.key_text c.args.signer.now; signature = g.G.Signer.signature c.args.signer.now })
    c.args.batches.now c.args.journal.now c.args.refused (sink_end g.O.Sink c.args.output.now) (sink_end g.N.Sink c.args.notes.now)
    (counts_of g.R.Station.faults c.args.desks.now) (counts_of g.R.Station.faults c.make.new.desks) c.in_err-made.field-0.0 e.makes (λ is.
    let peer : c.in_err-made.field-0.0 ≡ Peer = cc in
    failed_rose g.R.Station.faults g.R.Station.offered c.args.desks.now c.make.new.desks e.desks (e.cause (ap Err peer))))

pub returns-clause-finishes : goal.returns-clause-finishes
returns-clause-finishes g c =
    finishes_made (processors_at g.R.Station.next g.R.Station.tells (offers_at c.args.desks.now)) (g.V.Verifier.accepts c.args.verifier.now)
    (record { key = g.G.Signer.key_text c.args.signer.now; signature = g.G.Signer.signature c.args.signer.now })
    c.args.batches.now c.args.journal.now c.args.refused (sink_end g.O.Sink c.args.output.now) (sink_end g.O.Sink c.tell_made.new.output)
    (sink_end g.N.Sink c.args.notes.now) (sink_end g.N.Sink c.tell_made.new.notes) (counts_of g.R.Station.faults c.args.desks.now)
    (counts_of g.R.Station.faults c.make.new.desks) c.in_ok-made.made c.in_ok-made.ensures.makes c.tell_made.result c.tell_made.ensures.tells
