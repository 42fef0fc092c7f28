-- What is true of the policy of the settings.
use Rattle.std.specs.Prelude.{◌≡◌, ◌≤◌, ◌+◌, ℕ, List, ◌∷◌, ◌++◌, true, length, None}
use Rattle.saw_address.specs.Maps.{StateMap}
use Rattle.saw_messages.specs.TxShapes.{BatchShape, TxShape}
use Rattle.saw_rules.specs.OnChainRules.{allowed, listed, is_of, is_broken, fault, end_fault}
use Rattle.saw_rules.specs.declared.rule.Rule.TheVariants.{NofX, Local}

-- where neither setting can be read, no block is refused
abbrev pub NothingReadRefusesNothing : Type 0
NothingReadRefusesNothing = (m : StateMap) → allowed m ≡ None → listed m ≡ None
    → ((signer : List ℕ) (before : List BatchShape) (batch : BatchShape) → fault m signer before batch ≡ None)
    × ((batches : List BatchShape) → end_fault m batches ≡ None)

-- where none may be of a family, one is too many
abbrev pub ZeroIsBroken : Type 0
ZeroIsBroken = (signer family : List ℕ) (earlier front others : List TxShape) (tx : TxShape) → is_of family tx ≡ true
    → is_broken signer earlier (front ++ tx ∷ others) (NofX 0 family) ≡ true

-- an index behind the last transaction breaks no rule
abbrev pub NoneArePassed : Type 0
NoneArePassed = (signer : List ℕ) (earlier txs : List TxShape) (index : ℕ) (indices : List ℕ) → length earlier + length txs ≤ index
    → is_broken signer earlier txs (Local (index ∷ indices)) ≡ is_broken signer earlier txs (Local indices)
