use Rattle.std.proofs.Common.{[], ◌∷◌, ◌++◌, List, ap, subst, sym, ◌∙◌}
use Rattle.std.specs.Map.{values_of}
use Rattle.indexmap.specs.IndexMap.{values}
use Rattle.saw_receipts.specs.declared.block.BlockRecord.{BlockRecord}
use Rattle.saw_journal.specs.KnownBranches.{HaveIds}
use Rattle.saw_journal.specs.declared.branch_ids.BranchIds.{BranchIds}
use Rattle.saw_journal.proofs.journal.put.Goals as goal

pub held_behind-requires-clause-kept : goal.held_behind-requires-clause-kept
held_behind-requires-clause-kept g c =
    let holders = c.args.holders.now in
    subst (λ (blocks : List BlockRecord). HaveIds blocks holders c.as_slice.result.now) (sym (ap values_of c.reserve.ensures.entries))
    (subst (λ (ids : List BranchIds). HaveIds (values c.args.blocks.now) holders ids)
    (sym (c.as_slice.ensures.value ∙ c.reserve-2.ensures.items)) c.requires.kept)

pub returns-clause-kept : goal.returns-clause-kept
returns-clause-kept g c =
    let holders = c.held_behind.new.holders in
    let known = c.in_ok-kept.kept in
    subst (λ (blocks : List BlockRecord). HaveIds blocks holders c.push_last.new.ids.items) (sym c.put_last.ensures.values)
    (subst (λ (ids : List BranchIds). HaveIds (values c.reserve.new.self ++ c.args.new.block ∷ []) holders ids)
    (sym (c.push_last.ensures ∙ ap (λ items. items ++ known ∷ []) (sym c.as_slice.ensures.value))) c.in_ok-kept.ensures.kept)
