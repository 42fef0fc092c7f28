-- What the state itself demands of a block: the families that it allows, and its block validation rules.
use Rattle.std.specs.Prelude.{ℕ, suc, ◌-◌, Bool, false, ◌&&◌, not, List, [], ◌++◌, length, filter, flat_map, position, slice_get, nat_lt, nat_le, Option, Some, None, option_map, option_and_then, unwrap_or, codes, if◌then◌else◌, ℤ, pos, negsuc}
use Rattle.std.specs.List.{list_any}
use Rattle.std.specs.Option.{option_or}
use Rattle.std.specs.Str.{bytes_eq}
use Rattle.saw_address.specs.Maps.{StateMap}
use Rattle.saw_messages.specs.TxShapes.{BatchShape, TxShape}
use Rattle.saw_settings.specs.Settings.{setting_of}
use Rattle.saw_checks.specs.declared.policy.PolicyFault.{PolicyFault}
use Rattle.saw_checks.specs.declared.policy.PolicyFault.TheVariants as faults
use Rattle.saw_rules.specs.Families.{families_of}
use Rattle.saw_rules.specs.Policies.{Policy, policy_by}
use Rattle.saw_rules.specs.RuleTexts.{rules_of}
use Rattle.saw_rules.specs.declared.families.Family.{Family}
use Rattle.saw_rules.specs.declared.rule.Rule.{Rule}
use Rattle.saw_rules.specs.declared.rule.Rule.TheVariants.{NofX, XatY, Local}

-- ---- what is set

abbrev pub families_key : List ℕ
families_key = codes "sawtooth.validator.transaction_families"

abbrev pub rules_key : List ℕ
rules_key = codes "sawtooth.validator.block_validation_rules"

-- The families that are allowed. None: that is not set, and every family is.
abbrev pub allowed : StateMap → Option (List Family)
allowed m = option_and_then families_of (setting_of m families_key)

-- The rules that are listed. None: that is not set, and there are none.
abbrev pub listed : StateMap → Option (List Rule)
listed m = option_and_then rules_of (setting_of m rules_key)

-- the rules of a block
abbrev pub rules_in : StateMap → List Rule
rules_in m = unwrap_or (listed m) []

-- ---- transactions

-- the transactions of batches, numbered through
abbrev pub txs_in : List BatchShape → List TxShape
txs_in batches = flat_map (λ batch. batch.txs) batches

abbrev pub is_of : List ℕ → TxShape → Bool
is_of family tx = bytes_eq tx.header.family_name family

abbrev pub is_allowed : List Family → TxShape → Bool
is_allowed families tx = list_any (λ family. bytes_eq family.name tx.header.family_name && bytes_eq family.version tx.header.family_version) families

abbrev pub how_many : List ℕ → List TxShape → ℕ
how_many family txs = length (filter (is_of family) txs)

-- whether there is a transaction of which something holds
abbrev pub is_one_with : (TxShape → Bool) → Option TxShape → Bool
is_one_with holds None = false
is_one_with holds (Some tx) = holds tx

-- the transaction of a number, where it is in a batch behind so many earlier ones
abbrev pub at_number : ℕ → List TxShape → ℕ → Option TxShape
at_number earlier txs number = if nat_lt number earlier then None else slice_get txs (number - earlier)

-- ---- a batch behind earlier ones

-- whether the transaction at a place from the front is in the batch, and of another family
abbrev pub is_other_at : List ℕ → ℕ → List TxShape → ℤ → Bool
is_other_at family earlier txs (pos place) = is_one_with (λ tx. not (is_of family tx)) (at_number earlier txs place)
is_other_at family earlier txs (negsuc from_end) = false

-- whether the transaction at an index is in the batch, and signed by another
abbrev pub is_of_other : List ℕ → ℕ → List TxShape → ℕ → Bool
is_of_other signer earlier txs index = is_one_with (λ tx. not (bytes_eq tx.header.signer_public_key signer)) (at_number earlier txs index)

abbrev pub is_broken : List ℕ → List TxShape → List TxShape → Rule → Bool
is_broken signer earlier txs (NofX most family) = nat_lt most (how_many family (earlier ++ txs))
is_broken signer earlier txs (XatY family place) = is_other_at family (length earlier) txs place
is_broken signer earlier txs (Local indices) = list_any (is_of_other signer (length earlier) txs) indices

-- the first transaction whose family and version are not allowed
abbrev pub family_fault : Option (List Family) → List TxShape → Option PolicyFault
family_fault None txs = None
family_fault (Some families) txs = option_map faults.Family (position (λ tx. not (is_allowed families tx)) txs)

-- the first broken rule
abbrev pub rule_fault : List Rule → List ℕ → List TxShape → List TxShape → Option PolicyFault
rule_fault rules signer earlier txs = option_map faults.Rule (position (is_broken signer earlier txs) rules)

-- what is wrong with a batch of a block by this signer, behind the batches before it, over the map of the block's parent
abbrev pub fault : StateMap → List ℕ → List BatchShape → BatchShape → Option PolicyFault
fault m signer before batch = option_or (family_fault (allowed m) batch.txs) (rule_fault (rules_in m) signer (txs_in before) batch.txs)

-- ---- a whole block

-- a place counted from the front, or from the end
abbrev pub at_place : List TxShape → ℤ → Option TxShape
at_place txs (pos place) = slice_get txs place
at_place txs (negsuc from_end) = if nat_le (suc from_end) (length txs) then slice_get txs (length txs - suc from_end) else None

abbrev pub is_missed : List TxShape → Rule → Bool
is_missed txs (XatY family place) = not (is_one_with (is_of family) (at_place txs place))
is_missed txs _ = false

-- the first rule on a place that is not there, or has another family
abbrev pub missed_fault : List Rule → List TxShape → Option PolicyFault
missed_fault rules txs = option_map faults.Rule (position (is_missed txs) rules)

-- what is wrong with a block as a whole
abbrev pub end_fault : StateMap → List BatchShape → Option PolicyFault
end_fault m batches = missed_fault (rules_in m) (txs_in batches)

-- the policy of both settings
unfoldable pub on_chain : Policy
on_chain = policy_by fault end_fault
