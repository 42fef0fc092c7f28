use Rattle.saw_identity.specs.Permissions.{for_batches}
use Rattle.saw_identity.proofs.Rulings.{one_permitted}
use Rattle.saw_identity.proofs.permissions.Permissions.permit_batches.Goals as goal

pub returns : goal.returns
returns c = record {
  ok = λ m holds none. record {
    batches = holds.batches;
    transactions = holds.transactions;
    all = holds.all;
    families = holds.families;
    batch_signers = one_permitted (for_batches m) c.in_ok-signer.signer c.args.self.now.batch_signers c.insert.new.self
        (rw c.in_ok-signer.ensures none) holds.batch_signers c.in_ok-insert.ensures.updates.0;
    last = holds.last;
  };
}
