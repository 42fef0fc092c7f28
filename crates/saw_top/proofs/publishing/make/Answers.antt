use Rattle.std.proofs.Common.{◌∙◌}
use Rattle.std.proofs.lemmas.Result.{err_from_is_err_and}
use Rattle.saw_crew.proofs.Leaving.{keep_all}
use Rattle.saw_crew.specs.Desks.{offers_at}
use Rattle.saw_rules.specs.OnChainRules.{on_chain}
use Rattle.saw_identity.specs.Permissions.{permissions}
use Rattle.saw_top.specs.World.{governed}
use Rattle.saw_station.specs.Serving.{processors_at}
use Rattle.saw_top.proofs.Makings.{makes_block, makes_none, makes_refusal, meets_clash}
use Rattle.saw_top.proofs.publishing.make.Goals as goal

pub returns-in_err-parent-clause-makes : goal.returns-in_err-parent-clause-makes
returns-in_err-parent-clause-makes g c =
    let p = err_from_is_err_and c.from_residual.result c.from_residual.ensures.1 in
    rw (p.1, p.2) tt

pub returns-in_err-parent-clause-desks : goal.returns-in_err-parent-clause-desks
returns-in_err-parent-clause-desks g c = keep_all g.R.Station.faults g.R.Station.offered c.args.desks.now

pub returns-in_err-known-clause-makes : goal.returns-in_err-known-clause-makes
returns-in_err-known-clause-makes g c =
    let p = err_from_is_err_and c.from_residual-in_err-known.result c.from_residual-in_err-known.ensures.1 in
    rw (p.1, p.2) tt

pub returns-in_err-known-clause-desks : goal.returns-in_err-known-clause-desks
returns-in_err-known-clause-desks g c = keep_all g.R.Station.faults g.R.Station.offered c.args.desks.now

pub returns-in-Ok-clause-makes : goal.returns-in-Ok-clause-makes
unfolding governed on_chain permissions
returns-in-Ok-clause-makes g c =
    makes_block (processors_at g.R.Station.next g.R.Station.tells (offers_at c.args.desks.now)) (g.V.Verifier.accepts c.args.verifier.now)
    (record {
      signing = record { key = g.G.Signer.key_text c.args.signer.now; signature = g.G.Signer.signature c.args.signer.now };
      batches = c.args.batches.now;
    }) c.args.journal.now _ _ c.state.ensures.state (c.as_ref.ensures.value ∙ c.in_ok-parent.ensures.is)
    c.in-Ok.made (c.in-Ok.ensures.builds _ c.in_ok-known.ensures)

pub returns-in-Err-NothingValid-clause-makes : goal.returns-in-Err-NothingValid-clause-makes
unfolding governed on_chain permissions
returns-in-Err-NothingValid-clause-makes g c =
    let e = rw (c.in-Err-NothingValid.is, c.in-Err-NothingValid.field-0-is) at c.build.ensures.builds in
    makes_none (processors_at g.R.Station.next g.R.Station.tells (offers_at c.args.desks.now)) (g.V.Verifier.accepts c.args.verifier.now)
    (record {
      signing = record { key = g.G.Signer.key_text c.args.signer.now; signature = g.G.Signer.signature c.args.signer.now };
      batches = c.args.batches.now;
    }) c.args.journal.now _ _ c.state.ensures.state (c.as_ref.ensures.value ∙ c.in_ok-parent.ensures.is)
    c.in-Err-NothingValid.dropped (e _ c.in_ok-known.ensures)

pub returns-in-Err-Policy-clause-makes : goal.returns-in-Err-Policy-clause-makes
unfolding governed on_chain permissions
returns-in-Err-Policy-clause-makes g c =
    let e = rw (c.in-Err-Policy.is, c.in-Err-Policy.field-0-is) at c.build.ensures.builds in
    makes_refusal (processors_at g.R.Station.next g.R.Station.tells (offers_at c.args.desks.now)) (g.V.Verifier.accepts c.args.verifier.now)
    (record {
      signing = record { key = g.G.Signer.key_text c.args.signer.now; signature = g.G.Signer.signature c.args.signer.now };
      batches = c.args.batches.now;
    }) c.args.journal.now _ _ c.state.ensures.state (c.as_ref.ensures.value ∙ c.in_ok-parent.ensures.is)
    c.in-Err-Policy.k c.in-Err-Policy.fault c.in-Err-Policy.dropped (e _ c.in_ok-known.ensures)

pub returns-in-Err-PeerFailed-clause-makes : goal.returns-in-Err-PeerFailed-clause-makes
returns-in-Err-PeerFailed-clause-makes g c = tt

pub returns-in-Err-Collision-clause-makes : goal.returns-in-Err-Collision-clause-makes
unfolding governed on_chain permissions
returns-in-Err-Collision-clause-makes g c =
    let e = rw (c.in-Err-Collision.is, c.in-Err-Collision.field-0-is) at c.build.ensures.builds in
    meets_clash (processors_at g.R.Station.next g.R.Station.tells (offers_at c.args.desks.now)) (g.V.Verifier.accepts c.args.verifier.now)
    (record {
      signing = record { key = g.G.Signer.key_text c.args.signer.now; signature = g.G.Signer.signature c.args.signer.now };
      batches = c.args.batches.now;
    }) c.args.journal.now _ _ c.state.ensures.state (c.as_ref.ensures.value ∙ c.in_ok-parent.ensures.is)
    c.in-Err-Collision.kept c.in-Err-Collision.given (e _ c.in_ok-known.ensures)

pub returns-clause-makes : goal.returns-clause-makes
returns-clause-makes g c = tt
