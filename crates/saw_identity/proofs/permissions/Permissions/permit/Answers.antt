use Rattle.std.proofs.Common.{ap, ◌∙◌}
use Rattle.saw_messages.specs.TxShapes.{TxShape}
use Rattle.saw_identity.proofs.Rulings.{permitted}
use Rattle.saw_identity.proofs.permissions.Permissions.permit.Goals as goal

pub returns : goal.returns
returns c = record {
  ok = λ m t holds none. record {
    batches = holds.batches;
    transactions = holds.transactions;
    all = holds.all;
    families = c.in_ok-add_signer.ensures.ok m t holds.families none;
    batch_signers = holds.batch_signers;
    last = permitted m t c.args.tx.now c.in_ok-signer.signer c.in_ok-family.family
        (c.in_ok-signer.ensures ∙ ap (λ (tx : TxShape). tx.header.signer_public_key) c.tx.view_is)
        (c.in_ok-family.ensures ∙ ap (λ (tx : TxShape). tx.header.family_name) c.tx.view_is) none;
  };
}
