use Rattle.std.proofs.Common.{◌++◌, ◌∷◌, [], ℕ, List, refl, sym, subst, ◌∙◌}
use Rattle.std.proofs.lemmas.Result.{on_ok_weaker}
use Rattle.std.specs.Arc.{arc_value}
use Rattle.saw_ids.specs.Sets.{HasIds}
use Rattle.saw_ids.specs.declared.set.IdSet.{IdSet}
use Rattle.saw_plan.specs.SortingSteps.{both}
use Rattle.saw_receipts.specs.Branches.{batch_ids}
use Rattle.saw_receipts.specs.declared.block.BatchRecord.{BatchRecord}
use Rattle.saw_journal.specs.KnownBranches.{AddHeld, KnowsWith}
use Rattle.saw_journal.specs.declared.branch_ids.BranchIds.{BranchIds}
use Rattle.saw_journal.proofs.FirstHolders.{branch_more, with_block}
use Rattle.saw_journal.proofs.holding.hold_block.Goals as goal

pub returns-clause-told : goal.returns-clause-told
returns-clause-told c =
    let block = c.args.block.now in
    let old = c.args.holders.now in
    let kept = c.args.kept.now in
    let now = c.hold_batches.new.holders in
    let later = c.hold_batches.new.kept in
    let id_is = c.in_ok-id.ensures.ok ∙ c.in_ok-try_clone.ensures in
    on_ok_weaker c.hold_batches.result
    (λ more all there fresh batches transactions knows.
    let chain = knows.knows.chain in
    let mid : BranchIds = record { blocks = c.insert.new.self; batches = kept.batches; transactions = kept.transactions } in
    let longer = c.in_ok-insert.ensures.more chain knows.knows.has in
    let with_it = with_block all block.id fresh old kept mid there batches transactions knows longer refl refl in
    let told = more there (subst (λ (id : List ℕ). KnowsWith id old mid there) (sym id_is) with_it) in
    let whole = subst (λ (batches : List BatchRecord). KnowsWith (arc_value c.in_ok-id.id) now later (both there (batch_ids batches)))
    c.as_slice.ensures told in
    branch_more all block old now kept later there (both there (batch_ids block.batches)) knows
    (subst (λ (set : IdSet). HasIds set (chain ++ block.id ∷ [])) (sym c.hold_batches.ensures.same) longer)
    (subst (λ (id : List ℕ). KnowsWith id now later (both there (batch_ids block.batches))) id_is whole))
    c.hold_batches.ensures.told

pub returns-clause-adds : goal.returns-clause-adds
returns-clause-adds c =
    subst (λ (id : List ℕ). AddHeld id c.args.holders.now c.hold_batches.new.holders) (c.in_ok-id.ensures.ok ∙ c.in_ok-try_clone.ensures)
    c.hold_batches.ensures.adds
