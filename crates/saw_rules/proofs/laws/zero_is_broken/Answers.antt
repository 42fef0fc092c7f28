use Rattle.std.proofs.Common.{◌≡◌, ℕ, suc, true, List, ◌∷◌, ◌++◌, refl, arith}
use Rattle.std.proofs.lemmas.Bool.{lt-ltb}
use Rattle.saw_messages.specs.TxShapes.{TxShape}
use Rattle.saw_rules.specs.OnChainRules.{how_many, is_of}
use Rattle.saw_rules.proofs.Counted.{counted_behind}
use Rattle.saw_rules.proofs.laws.zero_is_broken.Goals as goal

one_more : (family : List ℕ) (tx : TxShape) (others : List TxShape) → is_of family tx ≡ true → how_many family (tx ∷ others) ≡ suc (how_many family others)
one_more family tx others is = rw is refl

pub returns : goal.returns
returns c = λ signer family earlier front others tx is.
    lt-ltb 0 (how_many family (earlier ++ (front ++ tx ∷ others))) (omega (
      arith,
      counted_behind family earlier (front ++ tx ∷ others),
      counted_behind family front (tx ∷ others),
      one_more family tx others is,
    ))
