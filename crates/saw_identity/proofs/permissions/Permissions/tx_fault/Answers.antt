use Rattle.std.proofs.Common.{ap, ◌∙◌}
use Rattle.saw_messages.specs.TxShapes.{TxShape}
use Rattle.saw_identity.proofs.Rulings.{tx_ruled_by}
use Rattle.saw_identity.proofs.permissions.Permissions.tx_fault.Goals as goal

pub returns : goal.returns
returns c = λ m holds own.
    let self = c.args.self.now in
    let told = rw (c.first_of.ensures, c.first_of-others.ensures) at c.ruled.ensures in
    tx_ruled_by m c.args.t c.args.tx.now c.as_str.result.now c.args.own.now self.transactions self.all c.ruled.result own holds.transactions holds.all
    (c.as_str.ensures ∙ ap (λ (tx : TxShape). tx.header.signer_public_key) c.tx.view_is) told
