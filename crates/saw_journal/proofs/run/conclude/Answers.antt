use Rattle.std.proofs.Common.{List, ap, subst, ◌∙◌}
use Rattle.std.proofs.lemmas.Result.{err_from_is_err_and}
use Rattle.saw_context.specs.Outcome.{map_after}
use Rattle.saw_merkle.specs.Clashes.{IsClashFor, IsPreparedFor}
use Rattle.saw_merkle.specs.States.{map_at}
use Rattle.saw_messages.specs.declared.outcome.Change.{Change}
use Rattle.saw_messages.specs.TxShapes.{BatchShape}
use Rattle.saw_journal.specs.Judgement.{batch_records}
use Rattle.saw_journal.proofs.Runs.{by_root, failed_first, few_results, not_prepared}
use Rattle.saw_journal.proofs.run.conclude.Goals as goal

pub test_results-requires : goal.test_results-requires
test_results-requires g c = few_results c.args.checked.batches c.args.results.batches c.requires.fit c.requires.few

pub returns-in_err-test_results-clause-ran : goal.returns-in_err-test_results-clause-ran
returns-in_err-test_results-clause-ran g c = λ processors may.
    let p = err_from_is_err_and c.from_residual.result c.from_residual.ensures.1 in
    rw (p.1, p.2) (failed_first processors g.H.NodeHasher.hash_of c.args.state.now c.args.before c.args.checked c.args.results.batches may
    c.in_err-test_results.field-0.0 c.in_err-test_results.ensures)

pub returns-in_err-told-clause-ran : goal.returns-in_err-told-clause-ran
returns-in_err-told-clause-ran g c = λ processors may.
    let p = err_from_is_err_and c.from_residual-in_err-told.result c.from_residual-in_err-told.ensures.1 in rw (p.1, p.2) tt

pub returns-in_err-prepared-clause-ran : goal.returns-in_err-prepared-clause-ran
returns-in_err-prepared-clause-ran g c = λ processors may.
    let p = err_from_is_err_and c.from_residual-in_err-prepared.result c.from_residual-in_err-prepared.ensures.1 in
    let hash = g.H.NodeHasher.hash_of in
    let results = c.args.results.batches in
    let before = map_at c.args.state.now c.args.before in
    let changes = c.in_ok-told.told.changes in
    let clash = subst (λ (changes : List Change). IsClashFor hash c.args.state.now (map_after before changes) c.in_err-prepared.field-0.0)
    c.as_slice-2.ensures c.in_err-prepared.ensures.clash in
    rw (p.1, p.2) (not_prepared processors hash c.args.state.now c.args.before c.args.checked results may c.in_ok-test_results.ensures
    changes (c.in_ok-told.ensures.left before) c.in_err-prepared.field-0.0 clash)

pub returns-clause-ran : goal.returns-clause-ran
returns-clause-ran g c = λ processors may.
    let hash = g.H.NodeHasher.hash_of in
    let checked = c.args.checked in
    let results = c.args.results.batches in
    let before = map_at c.args.state.now c.args.before in
    let changes = c.in_ok-told.told.changes in
    let ready = subst (λ (changes : List Change). IsPreparedFor hash c.args.state.now (map_after before changes) c.in_ok-prepared.prepared)
    c.as_slice-2.ensures c.in_ok-prepared.ensures.ok in
    let records = c.from_vec-batches.ensures ∙ c.in_ok-told.ensures.records
    ∙ ap (λ (batches : List BatchShape). batch_records batches c.args.results.batches) c.as_slice.ensures in
    by_root processors hash c.args.state.now c.args.before checked results may c.in_ok-test_results.ensures
    changes (c.in_ok-told.ensures.left before) c.in_ok-prepared.prepared.root ready.root c.from_vec-batches.result
    c.in_ok-prepared.prepared records c.requires.known c.in_ok-told.ensures.rising ready c.rooted.result
    (rw c.into_parts-id.ensures at c.rooted.ensures.tested) (rw c.into_parts-id.ensures at c.rooted.ensures.made)
