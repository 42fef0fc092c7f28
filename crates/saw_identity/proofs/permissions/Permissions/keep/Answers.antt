use Rattle.std.proofs.Common.{ap, ◌∙◌}
use Rattle.saw_messages.specs.TxShapes.{TxShape}
use Rattle.saw_identity.specs.Permissions.{for_transactions}
use Rattle.saw_identity.proofs.Rulings.{known_kept, none_permitted}
use Rattle.saw_identity.proofs.permissions.Permissions.keep.Goals as goal

pub returns : goal.returns
returns c = record {
  ok = λ m holds own. record {
    batches = holds.batches;
    transactions = holds.transactions;
    all = holds.all;
    families = known_kept m c.args.self.now.families.entries c.insert.new.self.entries c.in_ok-family.family c.args.tx.now.header.family_name _
        (c.in_ok-family.ensures ∙ ap (λ (tx : TxShape). tx.header.family_name) c.tx.view_is) holds.families
        (record { own = own; permitted = none_permitted (for_transactions m c.args.tx.now.header.family_name) c.new.result c.new.ensures.empty }) c.in_ok-insert.ensures.updates.0;
    batch_signers = holds.batch_signers;
    last = holds.last;
  };
}
