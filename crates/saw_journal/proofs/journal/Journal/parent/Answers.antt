use Rattle.std.proofs.Common.{◌<◌, Option, length, sym, subst}
use Rattle.std.specs.Prelude.{IfSome, IsSome}
use Rattle.std.specs.List.{AllByRecursion}
use Rattle.saw_merkle.specs.States.{state_at}
use Rattle.saw_receipts.specs.declared.block.BlockRecord.{BlockRecord}
use Rattle.saw_journal.specs.Ledger.{Ledger}
use Rattle.saw_journal.specs.Linked.{AreLinked}
use Rattle.saw_journal.proofs.Linking.{all_below, head_so}
use Rattle.saw_journal.proofs.journal.Journal.parent.Goals as goal

pub returns-in_ok-try_clone-in-Some-clause-number : goal.returns-in_ok-try_clone-in-Some-clause-number
returns-in_ok-try_clone-in-Some-clause-number g c =
    let blocks = c.args.self.now.blocks in
    let below = head_so (λ (block : BlockRecord). block.number < length blocks) blocks
    (all_below blocks (subst (λ (j : Ledger). AreLinked j.blocks) c.self.view_is c.self.invariant.founded.linked)) in
    subst (λ (head : Option BlockRecord). IfSome head (λ block. block.number < length blocks)) (sym c.in-Some.ensures.is) below

pub returns-in_ok-try_clone-in-Some-clause-known : goal.returns-in_ok-try_clone-in-Some-clause-known
returns-in_ok-try_clone-in-Some-clause-known g c =
    let known = subst (λ (j : Ledger). AllByRecursion (λ block. IsSome (state_at j.states block.root)) j.blocks) c.self.view_is
    c.self.invariant.founded.known in
    let here = head_so (λ (block : BlockRecord). IsSome (state_at c.args.self.now.states block.root)) c.args.self.now.blocks known in
    subst (λ (head : Option BlockRecord). IfSome head (λ block. IsSome (state_at c.args.self.now.states block.root))) (sym c.in-Some.ensures.is) here
