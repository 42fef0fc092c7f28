-- What a judgement by permissions has of the state.
use Rattle.std.specs.Prelude.{◌≡◌, ⊤, ℕ, Bool, true, false, ◌&&◌, List, [], ◌++◌, Option, Some, None, IfSome, option_map, codes}
use Rattle.std.specs.BTreeMap.{is_at}
use Rattle.std.specs.BTreeSet.{BTreeSet, contains}
use Rattle.std.specs.Cmp.Lexicographic.{slice_cmp}
use Rattle.std.specs.Map.{lookup}
use Rattle.std.specs.Option.{option_or}
use Rattle.std.specs.Ordering.{nat_cmp}
use Rattle.std.specs.Str.{bytes_eq}
use Rattle.saw_address.specs.Maps.{StateMap}
use Rattle.saw_checks.specs.declared.policy.PolicyFault.{PolicyFault}
use Rattle.saw_messages.specs.TxShapes.{BatchShape, TxShape}
use Rattle.saw_identity.specs.Permissions.{Standing, denied_by, denied_from, fault_by, for_batches, for_transactions, policy_of, role_policy}
use Rattle.saw_identity.specs.declared.permissions.Judged.TheVariants as judged
use Rattle.saw_identity.specs.declared.permissions.Judged.{Judged}
use Rattle.saw_identity.specs.declared.permissions.Known.{Known}
use Rattle.saw_identity.specs.declared.permissions.Last.{Last}
use Rattle.saw_identity.specs.declared.permissions.Permissions.{Permissions}
use Rattle.saw_identity.specs.declared.policy.Policy.{Policy}
use Rattle.saw_identity.specs.declared.role.Role.{Role}
use Rattle.saw_identity.specs.declared.ruling.Ruling.{Ruling}

-- ---- what decides

-- a role by its number with its policy, where it stands
abbrev pub ruling : ℕ → Option Policy → Option Ruling
ruling number None = None
ruling number (Some policy) = Some (record { role = number; policy = policy })

-- the policy's name of a role, and no name where there is no role
abbrev pub policy_name : Option Role → List ℕ
policy_name None = []
policy_name (Some role) = role.policy_name

-- the name of the role that decides for transactions of one family
abbrev pub family_role : List ℕ → List ℕ
family_role family = codes "transactor.transaction_signer." ++ family

-- by role 1
abbrev pub own_ruling : StateMap → List ℕ → Option Ruling
own_ruling m family = ruling 1 (role_policy m (family_role family))

-- by role 2
abbrev pub for_all_transactions : StateMap → Option Ruling
for_all_transactions m = ruling 2 (role_policy m (codes "transactor.transaction_signer"))

-- by role 3
abbrev pub for_all_batches : StateMap → Option Ruling
for_all_batches m = ruling 3 (role_policy m (codes "transactor.batch_signer"))

-- by role 4, or else by the policy `default`
abbrev pub for_all : StateMap → Option Ruling
for_all m = option_or (ruling 4 (role_policy m (codes "transactor"))) (ruling 5 (policy_of m (codes "default")))

-- what a ruling says of a signer, of the transaction at a place or of the batch
abbrev pub ruled : Option ℕ → List ℕ → Option Ruling → Option PolicyFault
ruled t signer None = None
ruled t signer (Some one) = option_map (fault_by t) (denied_from one.role signer 0 one.policy.entries)

-- what is wrong with the transaction at a place
abbrev pub tx_fault : StateMap → ℕ → TxShape → Option PolicyFault
tx_fault m t tx = option_map (fault_by (Some t)) (denied_by tx.header.signer_public_key (for_transactions m tx.header.family_name))

-- ---- a judgement

-- what is kept of a family
abbrev pub kept_for : List (List ℕ × Known) → List ℕ → Option Known
kept_for families family = lookup (is_at (slice_cmp nat_cmp family)) families

-- each of these signers is permitted where these roles decide
abbrev pub ArePermitted : List Standing → BTreeSet (List ℕ) → Type 0
ArePermitted standings signers = (signer : List ℕ) → contains (slice_cmp nat_cmp) signers signer ≡ true → denied_by signer standings ≡ None

-- its ruling is that of the family, and its signers are permitted
pub record IsKnown (m : StateMap) (family : List ℕ) (known : Known) : Type 0 where
  pub own : known.own ≡ own_ruling m family
  pub permitted : ArePermitted (for_transactions m family) known.permitted

-- the same of each family that is kept
abbrev pub AreKnown : StateMap → List (List ℕ × Known) → Type 0
AreKnown m families = (family : List ℕ) → IfSome (kept_for families family) (IsKnown m family)

-- the signer is permitted for transactions of the family
abbrev pub IsPermitted : StateMap → Last → Type 0
IsPermitted m last = denied_by last.signer (for_transactions m last.family) ≡ None

-- the signer and the family are these
abbrev pub is_as : TxShape → Option Last → Bool
is_as tx None = false
is_as tx (Some last) = bytes_eq last.signer tx.header.signer_public_key && bytes_eq last.family tx.header.family_name

-- it judges over this map
pub record Holds (course : Permissions) (m : StateMap) : Type 0 where
  pub batches : course.batches ≡ for_all_batches m
  pub transactions : course.transactions ≡ for_all_transactions m
  pub all : course.all ≡ for_all m
  pub families : AreKnown m course.families.entries
  pub batch_signers : ArePermitted (for_batches m) course.batch_signers
  pub last : IfSome course.last (IsPermitted m)

-- the same, for any signer and behind any batches
abbrev pub Stands : Permissions → StateMap → List ℕ → List BatchShape → Type 0
Stands course m signer before = Holds course m

abbrev pub Looked : Permissions → StateMap → List ℕ → List BatchShape → BatchShape → Type 0
Looked course m signer before batch = Holds course m

-- the answer of a judgement that has read of the state what it needs
abbrev pub answer : Option PolicyFault → Judged
answer None = judged.Permitted
answer (Some fault) = judged.Denied fault

-- what was told of the transaction at a place: nothing, where its family has not been read
abbrev pub Tells : StateMap → ℕ → TxShape → Judged → Type 0
Tells m t tx judged.Unread = ⊤
Tells m t tx judged.Permitted = tx_fault m t tx ≡ None
Tells m t tx (judged.Denied fault) = tx_fault m t tx ≡ Some fault
