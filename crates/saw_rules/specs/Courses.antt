-- What a judgement under way has of the state and of the batches that passed.
use Rattle.std.specs.Prelude.{◌≡◌, ℕ, Bool, true, ◌&&◌, List, [], ◌∷◌, ◌++◌, map}
use Rattle.std.specs.List.{list_all}
use Rattle.std.specs.Str.{bytes_eq}
use Rattle.std.specs.Arc.{arc_value}
use Rattle.saw_address.specs.Maps.{StateMap}
use Rattle.saw_messages.specs.TxShapes.{BatchShape, TxShape}
use Rattle.saw_rules.specs.OnChainRules.{allowed, rules_in, txs_in, how_many}
use Rattle.saw_rules.specs.declared.onchain.OnChainRules.{OnChainRules}
use Rattle.saw_rules.specs.declared.rule.Rule.{Rule}
use Rattle.saw_rules.specs.declared.rule.Rule.TheVariants.{NofX, XatY, Local}

-- how many transactions are of the family that a rule `NofX` names, and 0 for another rule
abbrev pub count_for : List TxShape → Rule → ℕ
count_for txs (NofX most family) = how_many family txs
count_for txs (XatY family place) = 0
count_for txs (Local indices) = 0

-- ---- transactions that are alike

-- both are of one family and version
abbrev pub is_like : TxShape → TxShape → Bool
is_like first tx = bytes_eq tx.header.family_name first.header.family_name && bytes_eq tx.header.family_version first.header.family_version

-- all are of the family and version of the first
abbrev pub are_alike : List TxShape → Bool
are_alike [] = true
are_alike (first ∷ others) = list_all (is_like first) (first ∷ others)

-- ---- the whole

-- it judges over this map, for the signer of this key, behind these batches
pub record Stands (course : OnChainRules) (m : StateMap) (key : List ℕ) (before : List BatchShape) : Type 0 where
  pub families : course.families ≡ allowed m
  pub rules : course.rules ≡ rules_in m
  pub signer : course.signer ≡ key
  pub txs : map arc_value course.txs.items ≡ txs_in before
  pub counts : course.counts.items ≡ map (count_for (txs_in before)) (rules_in m)

-- the same, and it has counted with this batch
pub record Looked (course : OnChainRules) (m : StateMap) (key : List ℕ) (before : List BatchShape) (batch : BatchShape) : Type 0 where
  pub stands : Stands course m key before
  pub counts : course.next_counts.items ≡ map (count_for (txs_in before ++ batch.txs)) (rules_in m)
