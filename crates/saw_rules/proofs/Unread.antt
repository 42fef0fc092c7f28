-- Where neither setting can be read no block is refused.
use Rattle.std.proofs.Common.{◌≡◌, ℕ, List, [], ◌∷◌, ◌++◌, Option, None, unwrap_or, length, refl, ap, ◌∙◌}
use Rattle.std.specs.Option.{option_or}
use Rattle.saw_address.specs.Maps.{StateMap}
use Rattle.saw_messages.specs.TxShapes.{BatchShape, TxShape}
use Rattle.saw_rules.specs.Laws.{NothingReadRefusesNothing}
use Rattle.saw_rules.specs.OnChainRules.{allowed, family_fault, listed, missed_fault, on_chain, rule_fault, txs_in}
use Rattle.saw_rules.specs.Policies.{Policy, first_behind, first_fault, first_or}
use Rattle.saw_rules.specs.declared.families.Family.{Family}
use Rattle.saw_rules.specs.declared.rule.Rule.{Rule}

no_fault : (families : Option (List Family)) (rules : Option (List Rule)) (signer : List ℕ) (earlier txs : List TxShape) → families ≡ None → rules ≡ None
    → option_or (family_fault families txs) (rule_fault (unwrap_or rules []) signer earlier txs) ≡ None
no_fault families rules signer earlier txs first second = rw (first, second) refl

none_missed : (rules : Option (List Rule)) (txs : List TxShape) → rules ≡ None → missed_fault (unwrap_or rules []) txs ≡ None
none_missed rules txs none = rw none refl

pub nothing_read : NothingReadRefusesNothing
nothing_read m no_families no_rules = (
  λ signer before batch. no_fault (allowed m) (listed m) signer (txs_in before) batch.txs no_families no_rules,
  λ batches. none_missed (listed m) (txs_in batches) no_rules,
)

-- a policy that finds nothing wrong over a map
module _ (policy : Policy) (m : StateMap) (signer : List ℕ)
    (none : (before : List BatchShape) (batch : BatchShape) → policy.fault m signer before batch ≡ None)
    (none_at_end : (batches : List BatchShape) → policy.end_fault m batches ≡ None) where
  pub none_behind : (before batches : List BatchShape) → first_behind policy.fault policy.end_fault m signer before batches ≡ None
  none_behind before [] = ap (λ found. first_or policy.fault policy.end_fault m signer found (length before) None) (none_at_end before)
  none_behind before (batch ∷ batches) =
      ap (λ found. first_or policy.fault policy.end_fault m signer found (length before) (first_behind policy.fault policy.end_fault m signer (before ++ batch ∷ []) batches)) (none before batch)
      ∙ none_behind (before ++ batch ∷ []) batches

-- no block is refused over a map that has neither setting
pub unread_passes : (m : StateMap) (signer : List ℕ) (batches : List BatchShape) → allowed m ≡ None → listed m ≡ None
    → first_fault on_chain.fault on_chain.end_fault m signer batches ≡ None
unfolding on_chain
unread_passes m signer batches no_families no_rules =
    let none = nothing_read m no_families no_rules in
    none_behind on_chain m signer (none.0 signer) none.1 [] batches
