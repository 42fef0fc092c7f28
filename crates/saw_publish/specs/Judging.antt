-- The fates of batches by a policy.
use Rattle.std.specs.Prelude.{◌≡◌, ℕ, List, [], ◌∷◌, ◌++◌, Option, Some, None, option_map}
use Rattle.saw_address.specs.Maps.{StateMap}
use Rattle.saw_checks.specs.declared.policy.PolicyFault.{PolicyFault}
use Rattle.saw_messages.specs.TxShapes.{BatchShape}
use Rattle.saw_receipts.specs.declared.loss.LossCause.TheVariants as losses
use Rattle.saw_rules.specs.Policies.{BatchTest}
use Rattle.saw_publish.specs.Fates.{Fates, further, still_in}
use Rattle.saw_publish.specs.declared.judge.Passed.{Passed}
use Rattle.saw_publish.specs.declared.sift.Sifted.{Sifted}

-- the batches that passed, and one more if it has no fault
abbrev pub passed_with : Option PolicyFault → List BatchShape → BatchShape → List BatchShape
passed_with None passed batch = passed ++ batch ∷ []
passed_with (Some fault) passed batch = passed

module _ (fault : BatchTest) (m : StateMap) (signer : List ℕ) where
  -- the fates of batches, each judged behind those that passed before it
  abbrev pub policy_fates : List BatchShape → List BatchShape → Fates
  policy_fates passed [] = []
  policy_fates passed (batch ∷ batches) =
      option_map losses.Policy (fault m signer passed batch)
      ∷ policy_fates (passed_with (fault m signer passed batch) passed batch) batches

-- what is left of batches that found room, with these further fates
pub record IsPassed (more : Fates) (sifted : Sifted) (passed : Passed) : Type 0 where
  pub fates : passed.fates ≡ further sifted.fates more
  pub batches : passed.batches ≡ still_in more sifted.batches
  pub encodings : passed.encodings ≡ still_in more sifted.encodings
