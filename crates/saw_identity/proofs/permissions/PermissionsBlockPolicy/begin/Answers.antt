use Rattle.std.proofs.Common.{codes, option_copied}
use Rattle.saw_identity.proofs.Rulings.{all_is, ruling_is}
use Rattle.saw_identity.proofs.permissions.PermissionsBlockPolicy.begin.Goals as goal

pub returns : goal.returns
returns g c =
    let m = g.B.Base.entry c.args.parent.now in
    let batches = ruling_is m 3 (codes "transactor.batch_signer") c.role_address.result (option_copied c.get.result) c.in_ok-role.role c.in_ok-batches.batches
    c.role_address.ensures c.get.ensures c.in_ok-role.ensures (c.in_ok-batches.ensures m (rw c.policy_at.ensures at c.get-2.ensures)) in
    let transactions = ruling_is m 2 (codes "transactor.transaction_signer") c.role_address-2.result (option_copied c.get-3.result) c.in_ok-role-2.role
    c.in_ok-transactions.transactions c.role_address-2.ensures c.get-3.ensures c.in_ok-role-2.ensures
    (c.in_ok-transactions.ensures m (rw c.policy_at-2.ensures at c.get-4.ensures)) in
    let transactor = ruling_is m 4 (codes "transactor") c.role_address-3.result (option_copied c.get-5.result) c.in_ok-role-3.role
    c.in_ok-transactor.transactor c.role_address-3.ensures c.get-5.ensures c.in_ok-role-3.ensures
    (c.in_ok-transactor.ensures m (rw c.policy_at-3.ensures at c.get-6.ensures)) in
    c.new.ensures m batches transactions (all_is m c.or-all.result c.in_ok-transactor.transactor c.ruling_with.result c.in_ok-default.default
    c.policy_address.result (option_copied c.get-7.result) c.or-all.ensures transactor c.ruling_with.ensures c.in_ok-default.ensures c.get-7.ensures
    c.policy_address.ensures)
