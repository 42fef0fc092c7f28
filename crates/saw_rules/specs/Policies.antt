-- The judgement of a block by a policy.
use Rattle.std.specs.Prelude.{ℕ, List, [], ◌∷◌, ◌++◌, length, Option, Some, None}
use Rattle.saw_address.specs.Maps.{StateMap}
use Rattle.saw_messages.specs.TxShapes.{BatchShape}
use Rattle.saw_checks.specs.declared.policy.PolicyFault.{PolicyFault}
use Rattle.saw_rules.specs.declared.policy.Placed.{Placed}

-- what is wrong with a batch behind others, and with all batches of a block
abbrev pub BatchTest : Type 0
BatchTest = StateMap → List ℕ → List BatchShape → BatchShape → Option PolicyFault

abbrev pub EndTest : Type 0
EndTest = StateMap → List BatchShape → Option PolicyFault

-- who judges blocks so
pub record Policy : Type 0 where
  pub fault : BatchTest
  pub end_fault : EndTest

abbrev pub policy_by : BatchTest → EndTest → Policy
policy_by fault end_fault = record { fault = fault; end_fault = end_fault }

-- who finds nothing wrong
abbrev pub no_policy : Policy
no_policy = policy_by (λ m signer before batch. None) (λ m batches. None)

module _ (fault : BatchTest) (end_fault : EndTest) (m : StateMap) (signer : List ℕ) where
  abbrev pub first_or : Option PolicyFault → ℕ → Option Placed → Option Placed
  first_or None k others = others
  first_or (Some found) k others = Some (record { k = k; fault = found })

  -- the first batch with a fault behind these, or else the fault of all
  abbrev pub first_behind : List BatchShape → List BatchShape → Option Placed
  first_behind before [] = first_or (end_fault m before) (length before) None
  first_behind before (batch ∷ batches) = first_or (fault m signer before batch) (length before) (first_behind (before ++ batch ∷ []) batches)

-- the first fault of the batches of a block by this signer
abbrev pub first_fault : BatchTest → EndTest → StateMap → List ℕ → List BatchShape → Option Placed
first_fault fault end_fault m signer batches = first_behind fault end_fault m signer [] batches
