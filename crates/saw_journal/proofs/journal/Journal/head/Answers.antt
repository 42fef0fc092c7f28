use Rattle.std.proofs.Common.{◌≡◌, Option, Some, sym, ap, subst, ◌∙◌}
use Rattle.std.specs.Global.{Global}
use Rattle.std.specs.Prelude.{IfSome, String, option_map}
use Rattle.std.proofs.lemmas.Option.{slice_get-map}
use Rattle.indexmap.specs.IndexMap.{values}
use Rattle.saw_receipts.specs.declared.block.BlockRecord.{BlockRecord}
use Rattle.saw_receipts.specs.Branches.{block_at}
use Rattle.saw_receipts.specs.Heads.{head_of}
use Rattle.saw_journal.specs.Ledger.{Ledger}
use Rattle.saw_journal.specs.Linked.{AreLinked}
use Rattle.saw_journal.specs.Standing.{head_at}
use Rattle.saw_journal.proofs.Linking.{all_found, head_so}
use Rattle.saw_journal.proofs.journal.Journal.head.Goals as goal

pub returns-in-Some-get_index-clause-found : goal.returns-in-Some-get_index-clause-found
returns-in-Some-get_index-clause-found g c =
    let blocks = c.args.self.now.blocks in
    let entries = c.self.inside.blocks in
    let found = head_so (λ (block : BlockRecord). block_at blocks block.id ≡ Some block) blocks
    (all_found blocks (subst (λ (j : Ledger). AreLinked j.blocks) c.self.view_is c.self.invariant.founded.linked)) in
    let is : head_of blocks ≡ Some c.in-Some-get_index.block.now =
    ap (λ (j : Ledger). head_of j.blocks) (sym c.self.view_is) ∙ sym c.self.invariant.chosen ∙ ap (head_at (values entries)) c.in-Some.is
    ∙ slice_get-map (λ (e : String Global × BlockRecord). e.1) entries.entries c.in-Some.place
    ∙ ap (option_map (λ (e : String Global × BlockRecord). e.1)) (sym c.in-Some-get_index.ensures.entry) in
    subst (λ (head : Option BlockRecord). IfSome head (λ block. block_at blocks block.id ≡ Some block)) is found
