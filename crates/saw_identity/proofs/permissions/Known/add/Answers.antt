use Rattle.std.proofs.Common.{refl, ap, ◌∙◌}
use Rattle.saw_messages.specs.TxShapes.{TxShape}
use Rattle.saw_identity.specs.Permissions.{for_transactions}
use Rattle.saw_identity.proofs.Rulings.{one_permitted, permitted}
use Rattle.saw_identity.proofs.permissions.Known.add.Goals as goal

pub returns : goal.returns
returns c = record {
  ok = λ m t is none. record {
    own = is.own;
    permitted = one_permitted (for_transactions m c.args.tx.now.header.family_name) c.in_ok-signer.signer c.args.self.now.permitted c.insert.new.self
        (permitted m t c.args.tx.now c.in_ok-signer.signer c.args.tx.now.header.family_name
        (c.in_ok-signer.ensures ∙ ap (λ (tx : TxShape). tx.header.signer_public_key) c.tx.view_is) refl none)
        is.permitted c.in_ok-insert.ensures.updates.0;
  };
}
