use Rattle.std.proofs.Common.{◌<◌, ◌^◌, List, [], length, sym, ap, subst, ◌∙◌}
use Rattle.std.proofs.lemmas.Result.{err_from_is_err_and}
use Rattle.std.specs.Prelude.{option_copied}
use Rattle.saw_crew.proofs.Leaving.{keep_all}
use Rattle.saw_crew.specs.Desks.{offers_at}
use Rattle.saw_merkle.specs.States.{map_at}
use Rattle.saw_messages.specs.TxShapes.{BatchShape}
use Rattle.saw_plan.specs.BatchShapes.{transactions_in}
use Rattle.saw_receipts.specs.Heads.{root_behind}
use Rattle.saw_rules.specs.Policies.{policy_by}
use Rattle.saw_station.proofs.Finished.{processors_own}
use Rattle.saw_station.specs.Serving.{processors_at}
use Rattle.saw_publish.specs.Building.{Answers}
use Rattle.saw_publish.specs.Candidates.{Signing}
use Rattle.saw_publish.specs.Drafts.{draft_of}
use Rattle.saw_publish.specs.Judging.{IsPassed, policy_fates}
use Rattle.saw_publish.specs.Ran.{IsRan}
use Rattle.saw_publish.specs.declared.fault.PublishFault.TheVariants.{OutOfMemory}
use Rattle.saw_publish.proofs.Drafting.{few_fates, few_passed, few_transactions, is_draft}
use Rattle.saw_publish.proofs.Executed.{some_known}
use Rattle.saw_publish.proofs.Making.{before_is, plain_builds}
use Rattle.saw_publish.proofs.building.build.Goals as goal

pub returns-in_err-sifted-clause-desks : goal.returns-in_err-sifted-clause-desks
returns-in_err-sifted-clause-desks g c = keep_all g.R.Station.faults g.R.Station.offered c.args.desks.now

pub returns-in_err-before-clause-desks : goal.returns-in_err-before-clause-desks
returns-in_err-before-clause-desks g c = keep_all g.R.Station.faults g.R.Station.offered c.args.desks.now

pub returns-in_err-passed-clause-desks : goal.returns-in_err-passed-clause-desks
returns-in_err-passed-clause-desks g c = keep_all g.R.Station.faults g.R.Station.offered c.args.desks.now

pub returns-in_err-sifted-clause-builds : goal.returns-in_err-sifted-clause-builds
returns-in_err-sifted-clause-builds g c =
    λ there known.
    let p = err_from_is_err_and c.from_residual.result c.from_residual.ensures.1 in
    let laws = g.met.R.Station g.world.𝓛 g.world.𝓜 g.world.𝓡 ((λ s x. x), (λ x. x), (λ x. x), λ x. x) in
    let own = processors_own g.R.Station.next laws.own_reasons g.R.Station.tells (offers_at c.args.desks.now) in
    let signing : Signing = record { key = g.G.Signer.key_text c.args.signer.now; signature = g.G.Signer.signature c.args.signer.now } in
    let processors = processors_at g.R.Station.next g.R.Station.tells (offers_at c.args.desks.now) in
    rw (p.1, p.2) (plain_builds g.H.NodeHasher.hash_of (policy_by g.P.BlockPolicy.fault g.P.BlockPolicy.end_fault) signing c.args.state.now (option_copied c.args.parent) processors own
    (g.V.Verifier.accepts c.args.verifier.now) there c.args.batches.now OutOfMemory tt)

pub returns-in_err-before-clause-builds : goal.returns-in_err-before-clause-builds
returns-in_err-before-clause-builds g c =
    λ there known.
    let p = err_from_is_err_and c.from_residual-in_err-before.result c.from_residual-in_err-before.ensures.1 in
    let laws = g.met.R.Station g.world.𝓛 g.world.𝓜 g.world.𝓡 ((λ s x. x), (λ x. x), (λ x. x), λ x. x) in
    let own = processors_own g.R.Station.next laws.own_reasons g.R.Station.tells (offers_at c.args.desks.now) in
    let signing : Signing = record { key = g.G.Signer.key_text c.args.signer.now; signature = g.G.Signer.signature c.args.signer.now } in
    let processors = processors_at g.R.Station.next g.R.Station.tells (offers_at c.args.desks.now) in
    rw (p.1, p.2) (plain_builds g.H.NodeHasher.hash_of (policy_by g.P.BlockPolicy.fault g.P.BlockPolicy.end_fault) signing c.args.state.now (option_copied c.args.parent) processors own
    (g.V.Verifier.accepts c.args.verifier.now) there c.args.batches.now OutOfMemory tt)

pub returns-in_err-passed-clause-builds : goal.returns-in_err-passed-clause-builds
returns-in_err-passed-clause-builds g c =
    λ there known.
    let p = err_from_is_err_and c.from_residual-in_err-passed.result c.from_residual-in_err-passed.ensures.1 in
    let laws = g.met.R.Station g.world.𝓛 g.world.𝓜 g.world.𝓡 ((λ s x. x), (λ x. x), (λ x. x), λ x. x) in
    let own = processors_own g.R.Station.next laws.own_reasons g.R.Station.tells (offers_at c.args.desks.now) in
    let signing : Signing = record { key = g.G.Signer.key_text c.args.signer.now; signature = g.G.Signer.signature c.args.signer.now } in
    let processors = processors_at g.R.Station.next g.R.Station.tells (offers_at c.args.desks.now) in
    rw (p.1, p.2) (plain_builds g.H.NodeHasher.hash_of (policy_by g.P.BlockPolicy.fault g.P.BlockPolicy.end_fault) signing c.args.state.now (option_copied c.args.parent) processors own
    (g.V.Verifier.accepts c.args.verifier.now) there c.args.batches.now OutOfMemory tt)

pub returns-in_err-ran-clause-builds : goal.returns-in_err-ran-clause-builds
returns-in_err-ran-clause-builds g c =
    λ there known.
    let p = err_from_is_err_and c.from_residual-in_err-ran.result c.from_residual-in_err-ran.ensures.1 in
    let laws = g.met.R.Station g.world.𝓛 g.world.𝓜 g.world.𝓡 ((λ s x. x), (λ x. x), (λ x. x), λ x. x) in
    let own = processors_own g.R.Station.next laws.own_reasons g.R.Station.tells (offers_at c.args.desks.now) in
    let signing : Signing = record { key = g.G.Signer.key_text c.args.signer.now; signature = g.G.Signer.signature c.args.signer.now } in
    let processors = processors_at g.R.Station.next g.R.Station.tells (offers_at c.args.desks.now) in
    rw (p.1, p.2) (plain_builds g.H.NodeHasher.hash_of (policy_by g.P.BlockPolicy.fault g.P.BlockPolicy.end_fault) signing c.args.state.now (option_copied c.args.parent) processors own
    (g.V.Verifier.accepts c.args.verifier.now) there c.args.batches.now _ c.in_err-ran.ensures.fault)

pub run_passed-requires-clause-few : goal.run_passed-requires-clause-few
run_passed-requires-clause-few g c =
    λ κs alive. subst (λ (batches : List BatchShape). length batches < 2 ^ 32) (sym c.as_slice.ensures)
    (few_passed (g.V.Verifier.accepts c.args.verifier.now) c.args.batches.now c.in_ok-sifted.sifted c.in_ok-passed.passed _ c.in_ok-sifted.ensures.sifted
    c.in_ok-passed.ensures c.in_ok-sifted.ensures.few)

pub run_passed-requires-clause-counted : goal.run_passed-requires-clause-counted
run_passed-requires-clause-counted g c =
    λ κs alive. subst (λ (batches : List BatchShape). transactions_in batches < 2 ^ 32) (sym c.as_slice.ensures)
    (few_transactions (g.V.Verifier.accepts c.args.verifier.now) c.args.batches.now c.in_ok-sifted.sifted c.in_ok-passed.passed _
    c.in_ok-sifted.ensures.sifted c.in_ok-passed.ensures)

pub make-requires-clause-rising : goal.make-requires-clause-rising
make-requires-clause-rising g c =
    λ κs alive. (c.in_ok-ran.ensures.ran _ (some_known c.args.known.now)).2.rising

pub make-requires-clause-few : goal.make-requires-clause-few
make-requires-clause-few g c =
    λ κs alive. few_fates (g.V.Verifier.accepts c.args.verifier.now) c.args.batches.now c.in_ok-sifted.sifted c.in_ok-passed.passed _
    c.in_ok-sifted.ensures.sifted c.in_ok-passed.ensures c.in_ok-sifted.ensures.few

pub returns-clause-builds : goal.returns-clause-builds
returns-clause-builds g c =
    λ there known.
    let hash = g.H.NodeHasher.hash_of in
    let policy = policy_by g.P.BlockPolicy.fault g.P.BlockPolicy.end_fault in
    let signing : Signing = record { key = g.G.Signer.key_text c.args.signer.now; signature = g.G.Signer.signature c.args.signer.now } in
    let accepts = g.V.Verifier.accepts c.args.verifier.now in
    let parent = option_copied c.args.parent in
    let before = map_at c.args.state.now c.in_ok-before.before in
    let sifted = c.in_ok-sifted.sifted in
    let passed = c.in_ok-passed.passed in
    let came = c.in_ok-ran.ensures.ran there known in
    let ran = subst (λ (batches : List BatchShape). IsRan came.0 before there batches c.in_ok-ran.ran) c.as_slice.ensures came.2 in
    let passes = subst (λ key. IsPassed (policy_fates policy.fault before key [] sifted.batches) sifted passed) c.key.ensures.is c.in_ok-passed.ensures in (
      came.0,
      came.1,
      subst (λ m. Answers hash policy signing c.args.state.now parent m (draft_of accepts policy signing.key came.0 m there c.args.batches.now) c.make.result)
          (before_is hash c.args.state.now parent c.in_ok-before.before c.sound.ensures.empty (c.in_ok-before.ensures ∙ ap (root_behind hash) c.root_of.ensures))
          (c.make.ensures.answers (draft_of accepts policy signing.key came.0 before there c.args.batches.now)
          (is_draft accepts policy signing.key came.0 before there c.args.batches.now sifted passed c.in_ok-ran.ran c.in_ok-sifted.ensures.sifted passes ran)),
    )
