-- Who may transact: what policies and roles of a state say of signers.
use Rattle.std.specs.Prelude.{ℕ, suc, Bool, ◌||◌, List, [], ◌∷◌, ◌++◌, Option, Some, None, option_map, Result, Ok, Err, ◌==◌, if◌then◌else◌, codes}
use Rattle.std.specs.Option.{option_or}
use Rattle.std.specs.Str.{bytes_eq}
use Rattle.saw_address.specs.Maps.{StateMap, value_at}
use Rattle.saw_wire.specs.declared.fault.MessageFault.{MessageFault}
use Rattle.saw_checks.specs.declared.policy.PolicyFault.{PolicyFault}
use Rattle.saw_checks.specs.declared.policy.PolicyFault.TheVariants.{Denied}
use Rattle.saw_messages.specs.TxShapes.{TxShape}
use Rattle.saw_rules.specs.Policies.{BatchTest, EndTest, Policy as BlockPolicy, policy_by as judged_by}
use Rattle.saw_identity.specs.Actions.{permit}
use Rattle.saw_identity.specs.Addresses.{policy_address, role_address}
use Rattle.saw_identity.specs.Messages.{policy_list, role_list}
use Rattle.saw_identity.specs.declared.policy.Entry.{Entry}
use Rattle.saw_identity.specs.declared.policy.Policy.{Policy}
use Rattle.saw_identity.specs.declared.policy.PolicyList.{PolicyList}
use Rattle.saw_identity.specs.declared.role.Role.{Role}
use Rattle.saw_identity.specs.declared.role.RoleList.{RoleList}

-- ---- what stands in a state

-- the first with a name
abbrev pub named : {A : Type 0} → (A → List ℕ) → List ℕ → List A → Option A
named name_of name [] = None
named name_of name (item ∷ items) = if bytes_eq (name_of item) name then Some item else named name_of name items

abbrev pub policy_in : List ℕ → Result PolicyList MessageFault → Option Policy
policy_in name (Ok list) = named (λ policy. policy.name) name list.policies
policy_in name (Err e) = None

abbrev pub policy_kept : List ℕ → Option (List ℕ) → Option Policy
policy_kept name None = None
policy_kept name (Some body) = policy_in name (policy_list body)

-- the policy of a name
abbrev pub policy_of : StateMap → List ℕ → Option Policy
policy_of m name = policy_kept name (value_at m (policy_address name))

abbrev pub role_in : List ℕ → Result RoleList MessageFault → Option Role
role_in name (Ok list) = named (λ role. role.name) name list.roles
role_in name (Err e) = None

abbrev pub role_kept : List ℕ → Option (List ℕ) → Option Role
role_kept name None = None
role_kept name (Some body) = role_in name (role_list body)

abbrev pub policy_by : StateMap → Option Role → Option Policy
policy_by m None = None
policy_by m (Some role) = policy_of m role.policy_name

-- the policy of a role, where the role stands
abbrev pub role_policy : StateMap → List ℕ → Option Policy
role_policy m name = policy_by m (role_kept name (value_at m (role_address name)))

-- ---- what decides for a signer

-- a role by its number, and its policy where it stands
abbrev pub Standing : Type 0
Standing = ℕ × Option Policy

abbrev pub for_batches : StateMap → List Standing
for_batches m =
    (3, role_policy m (codes "transactor.batch_signer")) ∷ (4, role_policy m (codes "transactor")) ∷ (5, policy_of m (codes "default")) ∷ []

abbrev pub for_transactions : StateMap → List ℕ → List Standing
for_transactions m family =
    (1, role_policy m (codes "transactor.transaction_signer." ++ family)) ∷ (2, role_policy m (codes "transactor.transaction_signer"))
    ∷ (4, role_policy m (codes "transactor")) ∷ (5, policy_of m (codes "default")) ∷ []

-- a denial: by which role, and by which entry of its policy, if one fits the signer
pub record Denial : Type 0 where
  pub role : ℕ
  pub entry : Option ℕ

abbrev pub fits : List ℕ → Entry → Bool
fits signer entry = bytes_eq entry.key (codes "*") || bytes_eq entry.key signer

-- the first entry that fits decides; without one the signer is denied
abbrev pub denied_from : ℕ → List ℕ → ℕ → List Entry → Option Denial
denied_from role signer place [] = Some (record { role = role; entry = None })
denied_from role signer place (entry ∷ entries) =
    if fits signer entry then (if entry.kind == permit then None else Some (record { role = role; entry = Some place }))
    else denied_from role signer (suc place) entries

-- the first role that stands decides; without one the signer is permitted
abbrev pub denied_by : List ℕ → List Standing → Option Denial
denied_by signer [] = None
denied_by signer ((role, None) ∷ others) = denied_by signer others
denied_by signer ((role, Some policy) ∷ others) = denied_from role signer 0 policy.entries

-- ---- what is wrong with a batch

-- a denial of the signer of the transaction at a place, or of the batch
abbrev pub fault_by : Option ℕ → Denial → PolicyFault
fault_by t denial = Denied t denial.role denial.entry

-- the first transaction, by its place, whose signer is denied
abbrev pub txs_denied : StateMap → ℕ → List TxShape → Option PolicyFault
txs_denied m t [] = None
txs_denied m t (tx ∷ txs) =
    option_or (option_map (fault_by (Some t)) (denied_by tx.header.signer_public_key (for_transactions m tx.header.family_name)))
    (txs_denied m (suc t) txs)

-- the first denial: of the batch's signer, and then of its transactions in order
abbrev pub fault : BatchTest
fault m signer before batch = option_or (option_map (fault_by None) (denied_by batch.signer (for_batches m))) (txs_denied m 0 batch.txs)

abbrev pub end_fault : EndTest
end_fault m batches = None

-- the policy of permissions
unfoldable pub permissions : BlockPolicy
permissions = judged_by fault end_fault

-- ---- two policies, of which the first goes first

abbrev pub both_fault : BatchTest → BatchTest → BatchTest
both_fault p q m signer before batch = option_or (p m signer before batch) (q m signer before batch)

abbrev pub both_end_fault : EndTest → EndTest → EndTest
both_end_fault p q m batches = option_or (p m batches) (q m batches)

abbrev pub both : BlockPolicy → BlockPolicy → BlockPolicy
both p q = judged_by (both_fault p.fault q.fault) (both_end_fault p.end_fault q.end_fault)
