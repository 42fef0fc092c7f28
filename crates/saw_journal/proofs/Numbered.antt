-- That the faults of tests have the numbers of their tests.
use Rattle.std.proofs.Common.{◌≡◌, ℕ, Bool, true, false, List, [], ◌∷◌, Option, Some, None, refl}
use Rattle.std.specs.Prelude.{option_map}
use Rattle.saw_messages.specs.declared.outcome.Reason.{Reason}
use Rattle.saw_plan.specs.declared.sorted.Dropped.{Dropped}
use Rattle.saw_receipts.specs.Numbers.{fault_number}
use Rattle.saw_receipts.specs.declared.verdict.BlockFault.{BlockFault}
use Rattle.saw_receipts.specs.declared.verdict.BlockFault.TheVariants as faults
use Rattle.saw_rules.specs.declared.policy.Placed.{Placed}
use Rattle.saw_journal.specs.BlockFaults.{first_dropped, when}
use Rattle.saw_journal.specs.Numbered.{FaultsHaveNumbers, HasItsNumber}

by_test : (n : ℕ) (holds : Bool) (found : BlockFault) → fault_number found ≡ n → HasItsNumber (n, when holds found)
by_test n true found is fault same = let here : found ≡ fault = cc in cc
by_test n false found is fault same = absurd cc

by_drop : (dropped : List Dropped) → HasItsNumber (13, first_dropped dropped)
by_drop [] fault same = absurd cc
by_drop (one ∷ others) fault same = let here : faults.Static one.place one.cause ≡ fault = cc in cc

by_policy : (found : Option Placed) → HasItsNumber (16, option_map (λ placed. faults.Policy placed.k placed.fault) found)
by_policy None fault same = absurd cc
by_policy (Some placed) fault same = let here : faults.Policy placed.k placed.fault ≡ fault = cc in cc

by_failure : (found : Option (ℕ × ℕ × Reason)) → HasItsNumber (14, option_map (λ failure. faults.BatchInvalid failure.0 failure.1 failure.2) found)
by_failure None fault same = absurd cc
by_failure (Some failure) fault same = let here : faults.BatchInvalid failure.0 failure.1 failure.2 ≡ fault = cc in cc

pub faults_have_numbers : FaultsHaveNumbers
faults_have_numbers hash policy blocks before results parts = (
  by_test 8 _ faults.Known refl,
  (
    by_test 9 _ faults.GenesisAgain refl,
    (
      by_test 10 _ faults.PreviousUnknown refl,
      (
        by_test 11 _ (faults.BlockNumber _ _) refl,
        (
          by_test 12 _ faults.Consensus refl,
          (by_drop _, (by_policy _, (by_failure _, (by_test 15 _ (faults.Root _ _) refl, tt)))),
        ),
      ),
    ),
  ),
)
