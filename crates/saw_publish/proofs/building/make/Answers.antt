use Rattle.std.proofs.Common.{List, map, ap, subst, ◌∙◌}
use Rattle.std.proofs.lemmas.Result.{err_from_is_err_and}
use Rattle.std.specs.Prelude.{option_copied}
use Rattle.saw_context.specs.Outcome.{map_after}
use Rattle.saw_merkle.specs.Clashes.{IsClashFor}
use Rattle.saw_merkle.specs.States.{map_at}
use Rattle.saw_messages.specs.TxShapes.{BatchShape}
use Rattle.saw_messages.specs.declared.outcome.Change.{Change}
use Rattle.saw_node.specs.Trees.{root_of_map}
use Rattle.saw_rules.specs.Policies.{first_fault, policy_by}
use Rattle.saw_publish.specs.Candidates.{Signing}
use Rattle.saw_publish.specs.Fates.{still_in}
use Rattle.saw_publish.proofs.Making.{empty_is, made_block, made_clash, made_nothing, made_refused, some_are}
use Rattle.saw_publish.proofs.building.make.Goals as goal

pub returns-then-is_empty-clause-answers : goal.returns-then-is_empty-clause-answers
returns-then-is_empty-clause-answers g c =
    λ draft is.
    let signing : Signing = record { key = g.G.Signer.key_text c.args.signer.now; signature = g.G.Signer.signature c.args.signer.now } in
    let policy = policy_by g.P.BlockPolicy.fault g.P.BlockPolicy.end_fault in
    let hash = g.H.NodeHasher.hash_of in
    let before = map_at c.args.state.now c.args.before.now in
    let applied_are = c.in_ok-applied.ensures ∙ ap (λ fates. still_in fates c.args.passed.batches) c.as_slice.ensures in
    made_nothing hash policy signing c.args.state.now (option_copied c.args.parent) before c.args.passed c.args.ran draft is c.in_ok-applied.applied applied_are
    (empty_is c.in_ok-applied.applied c.is_empty.result c.is_empty.ensures c.if-is_empty.true) c.nothing_valid.result c.nothing_valid.ensures

pub returns-in-Some-clause-answers : goal.returns-in-Some-clause-answers
returns-in-Some-clause-answers g c =
    λ draft is.
    let signing : Signing = record { key = g.G.Signer.key_text c.args.signer.now; signature = g.G.Signer.signature c.args.signer.now } in
    let policy = policy_by g.P.BlockPolicy.fault g.P.BlockPolicy.end_fault in
    let hash = g.H.NodeHasher.hash_of in
    let before = map_at c.args.state.now c.args.before.now in
    let applied_are = c.in_ok-applied.ensures ∙ ap (λ fates. still_in fates c.args.passed.batches) c.as_slice.ensures in
    let some = some_are c.in_ok-applied.applied c.is_empty.result c.is_empty.ensures c.if-is_empty.false in
    let found_is = c.in_ok-found.ensures
    ∙ ap (λ key. first_fault policy.fault policy.end_fault before key c.as_slice-2.result.now) c.key.ensures.is
    ∙ ap (λ (batches : List BatchShape). first_fault policy.fault policy.end_fault before signing.key batches) c.as_slice-2.ensures in
    made_refused hash policy signing c.args.state.now (option_copied c.args.parent) before c.args.passed c.args.ran draft is c.in_ok-applied.applied applied_are some c.in_ok-found.field-0 found_is
    c.in-Some.found c.in-Some.is c.refused.result c.refused.ensures

pub returns-in_err-root-clause-answers : goal.returns-in_err-root-clause-answers
returns-in_err-root-clause-answers g c =
    λ draft is.
    let signing : Signing = record { key = g.G.Signer.key_text c.args.signer.now; signature = g.G.Signer.signature c.args.signer.now } in
    let policy = policy_by g.P.BlockPolicy.fault g.P.BlockPolicy.end_fault in
    let hash = g.H.NodeHasher.hash_of in
    let before = map_at c.args.state.now c.args.before.now in
    let applied_are = c.in_ok-applied.ensures ∙ ap (λ fates. still_in fates c.args.passed.batches) c.as_slice.ensures in
    let some = some_are c.in_ok-applied.applied c.is_empty.result c.is_empty.ensures c.if-is_empty.false in
    let found_is = c.in_ok-found.ensures
    ∙ ap (λ key. first_fault policy.fault policy.end_fault before key c.as_slice-2.result.now) c.key.ensures.is
    ∙ ap (λ (batches : List BatchShape). first_fault policy.fault policy.end_fault before signing.key batches) c.as_slice-2.ensures in
    let fault = c.in_err-root.field-0.0 in
    let p = err_from_is_err_and c.from_residual-in_err-root.result c.from_residual-in_err-root.ensures.1 in
    rw (p.1, p.2) (made_clash hash policy signing c.args.state.now (option_copied c.args.parent) before c.args.passed c.args.ran draft is c.in_ok-applied.applied applied_are some
    c.in_ok-found.field-0 found_is c.in-None.is fault
    (subst (λ (changes : List Change). IsClashFor hash c.args.state.now (map_after before changes) fault) c.as_slice-4.ensures c.in_err-root.ensures.clash))

pub returns-clause-answers : goal.returns-clause-answers
returns-clause-answers g c =
    λ draft is.
    let signing : Signing = record { key = g.G.Signer.key_text c.args.signer.now; signature = g.G.Signer.signature c.args.signer.now } in
    let policy = policy_by g.P.BlockPolicy.fault g.P.BlockPolicy.end_fault in
    let hash = g.H.NodeHasher.hash_of in
    let before = map_at c.args.state.now c.args.before.now in
    let applied_are = c.in_ok-applied.ensures ∙ ap (λ fates. still_in fates c.args.passed.batches) c.as_slice.ensures in
    let some = some_are c.in_ok-applied.applied c.is_empty.result c.is_empty.ensures c.if-is_empty.false in
    let found_is = c.in_ok-found.ensures
    ∙ ap (λ key. first_fault policy.fault policy.end_fault before key c.as_slice-2.result.now) c.key.ensures.is
    ∙ ap (λ (batches : List BatchShape). first_fault policy.fault policy.end_fault before signing.key batches) c.as_slice-2.ensures in
    let written = rw (c.as_slice-5.ensures, c.as_slice-6.ensures) at c.in_ok-block.ensures in
    made_block hash policy signing c.args.state.now (option_copied c.args.parent) before c.args.passed c.args.ran draft is c.in_ok-applied.applied applied_are some c.in_ok-found.field-0 found_is
    c.in-None.is c.in_ok-ids.ids (c.in_ok-ids.ensures ∙ ap (map (λ (batch : BatchShape). batch.id)) c.as_slice-3.ensures) c.in_ok-root.root
    (c.in_ok-root.ensures.ok ∙ ap (λ changes. root_of_map hash (map_after before changes)) c.as_slice-4.ensures) c.in_ok-block.block.items written
    c.in_ok-losses_of.field-0 c.in_ok-losses_of.ensures
