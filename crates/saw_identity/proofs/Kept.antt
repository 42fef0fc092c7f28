-- Where no role and no policy is kept, nobody is denied.
use Rattle.std.proofs.Common.{◌≡◌, ℕ, suc, List, [], ◌∷◌, ◌++◌, None, refl}
use Rattle.std.specs.Prelude.{codes}
use Rattle.saw_address.specs.Maps.{StateMap, value_at}
use Rattle.saw_messages.specs.TxShapes.{BatchShape, TxShape}
use Rattle.saw_identity.specs.Addresses.{policy_address, role_address}
use Rattle.saw_identity.specs.Permissions.{fault, txs_denied}

module _ (m : StateMap) (roles : (name : List ℕ) → value_at m (role_address name) ≡ None) (policies : (name : List ℕ) → value_at m (policy_address name) ≡ None) where
  none_denied : (t : ℕ) (txs : List TxShape) → txs_denied m t txs ≡ None
  none_denied t [] = refl
  none_denied t (tx ∷ txs) =
      rw (
        roles (codes "transactor.transaction_signer." ++ tx.header.family_name),
        roles (codes "transactor.transaction_signer"),
        roles (codes "transactor"),
        policies (codes "default"),
      ) (none_denied (suc t) txs)

  pub nobody_denied : (signer : List ℕ) (before : List BatchShape) (batch : BatchShape) → fault m signer before batch ≡ None
  nobody_denied signer before batch =
      rw (roles (codes "transactor.batch_signer"), roles (codes "transactor"), policies (codes "default")) (none_denied 0 batch.txs)
