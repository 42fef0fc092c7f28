use Rattle.std.proofs.Common.{◌≤◌, length, subst}
use Rattle.saw_journal.specs.Ledger.{Ledger}
use Rattle.saw_journal.specs.Linked.{AreLinked}
use Rattle.saw_journal.proofs.Linking.{all_below}
use Rattle.saw_journal.proofs.journal.Journal.blocks.Goals as goal

pub returns-clause-linked : goal.returns-clause-linked
returns-clause-linked g c = subst (λ (j : Ledger). AreLinked j.blocks) c.self.view_is c.self.invariant.founded.linked

pub returns-clause-numbers : goal.returns-clause-numbers
returns-clause-numbers g c = all_below c.args.self.now.blocks (subst (λ (j : Ledger). AreLinked j.blocks) c.self.view_is c.self.invariant.founded.linked)

pub returns-clause-room : goal.returns-clause-room
returns-clause-room g c = subst (λ (j : Ledger). length j.blocks ≤ j.limit) c.self.view_is c.self.invariant.room
