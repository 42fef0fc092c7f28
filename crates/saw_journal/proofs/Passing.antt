-- What comes of a block's batches by the rules on them and by their run.
use Rattle.std.proofs.Common.{◌≡◌, ℕ, Bool, false, List, [], Option, Some, None, Result, Ok, Err, refl, sym, ap, subst, ◌∙◌}
use Rattle.std.specs.Prelude.{IsErrOf}
use Rattle.saw_address.specs.Maps.{StateMap}
use Rattle.saw_checks.specs.Tests.{◌<|>◌}
use Rattle.saw_context.specs.Outcome.{Processors}
use Rattle.saw_crew.proofs.Unoffered.{all_come}
use Rattle.saw_crew.specs.Offered.{are_offered}
use Rattle.saw_crew.specs.declared.fault.CrewFault.{CrewFault}
use Rattle.saw_crew.specs.declared.fault.CrewFault.TheVariants as crew
use Rattle.saw_messages.specs.TxShapes.{BatchShape, TxShape}
use Rattle.saw_messages.specs.declared.talk.Action.{Action}
use Rattle.saw_messages.specs.declared.talk.Turn.{Turn}
use Rattle.saw_plan.specs.BatchShapes.{txs_of}
use Rattle.saw_plan.specs.StaticRules.{Ids}
use Rattle.saw_receipts.specs.declared.verdict.BlockFault.{BlockFault}
use Rattle.saw_rules.specs.Policies.{Policy}
use Rattle.saw_schedule.specs.declared.results.Results.{Results}
use Rattle.saw_station.specs.Serving.{processors_at}
use Rattle.saw_station.specs.declared.offer.Offer.{Offer}
use Rattle.saw_journal.proofs.Judging.{or_none}
use Rattle.saw_journal.specs.BlockFaults.{policy_fault, static_fault}
use Rattle.saw_journal.specs.LowerFaults.{fault_of_crew}
use Rattle.saw_journal.specs.Passing.{PassesAs, RanAs, rule_fault}
use Rattle.saw_journal.specs.Stops.{IsStop, TestsAs}
use Rattle.saw_journal.specs.declared.fault.JournalFault.TheVariants as faults
use Rattle.saw_journal.specs.declared.stop.Stop.{Stop}
use Rattle.saw_journal.specs.declared.stop.Stop.TheVariants.{Refused, Failed}

-- the static rules, and then the policy
module _ (policy : Policy) (m : StateMap) (signer : List ℕ) (there : Ids) (batches : List BatchShape) where
  pub first_dropped_is : (stop : Stop) → IsStop (static_fault there batches) stop → IsStop (rule_fault policy m signer there batches) stop
  first_dropped_is (Refused fault) is = ap (λ found. found <|> (policy_fault policy m signer batches <|> None)) is
  first_dropped_is (Failed fault) is = is

  pub then_policy : (found : Option BlockFault) → static_fault there batches ≡ None → policy_fault policy m signer batches ≡ found
      → rule_fault policy m signer there batches ≡ found
  then_policy found none is =
      ap (λ dropped. dropped <|> (policy_fault policy m signer batches <|> None)) none ∙ or_none (policy_fault policy m signer batches) ∙ is

  pub policy_is : (stop : Stop) → static_fault there batches ≡ None → IsStop (policy_fault policy m signer batches) stop
      → IsStop (rule_fault policy m signer there batches) stop
  policy_is (Refused fault) none is = then_policy (Some fault) none is
  policy_is (Failed fault) none is = is

  -- both tests
  pub passes_by : (result : Result (Unit {0}) Stop) → static_fault there batches ≡ None → TestsAs (policy_fault policy m signer batches) result
      → PassesAs policy m signer there batches result
  passes_by (Ok done) none told = then_policy None none told
  passes_by (Err stop) none told = policy_is stop none told

module _ (processors : Processors) (peer : Type 0) (policy : Policy) (m : StateMap) (signer : List ℕ) (there : Ids) (batches : List BatchShape) where
  abbrev Ends : Stop → Type 0
  Ends stop = RanAs processors peer policy m signer there batches (Err stop)

  -- nothing is run, as there is a fault before, unless memory ran out
  pub stopped : (stop : Stop) → IsStop (rule_fault policy m signer there batches) stop → Ends stop
  stopped (Refused fault) is = is
  stopped (Failed fault) is = subst (λ fault. Ends (Failed fault)) (sym is) tt

  -- the crew failed
  pub not_run : (fault : CrewFault) → (fault ≡ crew.PeerFailed → peer) → Ends (Failed (fault_of_crew fault))
  not_run crew.PeerFailed told = told refl
  not_run crew.OutOfMemory told = tt

  pub never_full : {A : Type 0} (stop : Stop) → Ends stop → IsErrOf {T = A} (Err stop) (Failed faults.Full) → ⊥
  never_full (Refused fault) is failed = absurd cc
  never_full (Failed (faults.Collision kept given)) is failed = absurd is
  never_full (Failed faults.Full) is failed = absurd is
  never_full (Failed faults.PeerFailed) is failed = absurd cc
  never_full (Failed faults.OutOfMemory) is failed = absurd cc

  pub peer_tells : {A : Type 0} (stop : Stop) → Ends stop → IsErrOf {T = A} (Err stop) (Failed faults.PeerFailed) → peer
  peer_tells (Refused fault) is failed = absurd cc
  peer_tells (Failed (faults.Collision kept given)) is failed = absurd is
  peer_tells (Failed faults.Full) is failed = absurd is
  peer_tells (Failed faults.PeerFailed) is failed = is
  peer_tells (Failed faults.OutOfMemory) is failed = absurd cc

  -- where no processor can fail
  pub without_peer : (result : Result Results Stop) → RanAs processors ⊥ policy m signer there batches result
      → RanAs processors peer policy m signer there batches result
  without_peer (Ok results) is = is
  without_peer (Err (Refused fault)) is = is
  without_peer (Err (Failed (faults.Collision kept given))) is = is
  without_peer (Err (Failed faults.Full)) is = is
  without_peer (Err (Failed faults.PeerFailed)) is = absurd is
  without_peer (Err (Failed faults.OutOfMemory)) is = tt

-- where no transaction is of a family that is offered
module _ (next : TxShape → List Turn → Action) (tells : Bool) (offers : List Offer) (peer : Type 0) (policy : Policy) (m : StateMap) (signer : List ℕ)
    (there : Ids) (batches : List BatchShape) (none : are_offered offers (txs_of batches) ≡ false) where
  pub ran_unoffered : (result : Result Results Stop) → RanAs (processors_at next tells []) peer policy m signer there batches result
      → RanAs (processors_at next tells offers) peer policy m signer there batches result
  ran_unoffered (Ok results) is =
      (is.0, record { may = all_come next tells offers m (txs_of batches) results.batches none is.1.may; fit = is.1.fit })
  ran_unoffered (Err (Refused fault)) is = is
  ran_unoffered (Err (Failed (faults.Collision kept given))) is = is
  ran_unoffered (Err (Failed faults.Full)) is = is
  ran_unoffered (Err (Failed faults.PeerFailed)) is = is
  ran_unoffered (Err (Failed faults.OutOfMemory)) is = is
