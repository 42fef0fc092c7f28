-- What a judgement answers, by the part that ends it.
use Rattle.std.proofs.Common.{◌≡◌, inl, inr, ℕ, Bool, true, List, Option, Some, None, Result, Ok, Err, refl, sym, ap, subst, ◌∙◌}
use Rattle.saw_address.specs.Maps.{StateMap}
use Rattle.saw_checks.specs.Readings.{BlockGives, IsBlockOf}
use Rattle.saw_checks.specs.StructureFaults.{structure_fault}
use Rattle.saw_checks.specs.Tests.{◌<|>◌}
use Rattle.saw_checks.specs.declared.checked.CheckedBlock.{CheckedBlock}
use Rattle.saw_checks.specs.declared.fault.StructureFault.{StructureFault}
use Rattle.saw_checks.specs.declared.fault.StructureFault.TheVariants as structures
use Rattle.saw_context.specs.Outcome.{Processors}
use Rattle.saw_context.specs.Possible.{MayComeOfAll}
use Rattle.saw_context.specs.Serial.{left_after}
use Rattle.saw_context.specs.declared.batch_result.BatchResult.{BatchResult}
use Rattle.saw_merkle.specs.States.{States, map_at}
use Rattle.saw_messages.specs.Reasons.{has_own_reason}
use Rattle.saw_messages.specs.TxShapes.{TxShape}
use Rattle.saw_messages.specs.declared.talk.Turn.{Turn}
use Rattle.saw_plan.specs.BatchShapes.{txs_of}
use Rattle.saw_rules.specs.Policies.{Policy}
use Rattle.saw_receipts.specs.declared.block.BlockRecord.{BlockRecord}
use Rattle.saw_receipts.specs.declared.verdict.BlockFault.{BlockFault}
use Rattle.saw_receipts.specs.declared.verdict.BlockFault.TheVariants.{Structure}
use Rattle.saw_journal.specs.BlockFaults.{failure_fault, fault_but_root, first_in, ids_before, parent_of, place_tests}
use Rattle.saw_journal.specs.BlockShapes.{parts_in}
use Rattle.saw_journal.specs.Judgement.{Kept, judged, judged_parts, kept_of, rules_by, some_unless, unless, would_leave}
use Rattle.saw_receipts.specs.Running.{Runs}
use Rattle.saw_journal.specs.Ledger.{map_under}
use Rattle.saw_receipts.specs.Running.{RunsBy}
use Rattle.saw_journal.specs.Passing.{RanAs, rule_fault}
use Rattle.saw_journal.specs.Parted.{ComesTo, HasRun, JudgedAs, RunsAs}
use Rattle.saw_journal.specs.Stops.{IsStop, stop_of_structure}
use Rattle.saw_journal.specs.declared.fault.JournalFault.TheVariants as faults
use Rattle.saw_journal.specs.declared.judge.New.{New}
use Rattle.saw_journal.specs.declared.stop.Stop.{Stop}
use Rattle.saw_journal.specs.declared.stop.Stop.TheVariants.{Refused, Failed}
use Rattle.saw_journal.proofs.Judging.{but_root, by_run, misplaced, ruled_out}
use Rattle.saw_journal.proofs.SameParts.{judged_bad, judged_is, left_is}
use Rattle.saw_receipts.proofs.Ways.{by_serial, here_are, is_by_serial, is_or_here, or_here}

module _ (processors : Processors) (own : (tx : TxShape) (turns : List Turn) → has_own_reason (processors.next tx turns) ≡ true)
    (hash : List ℕ → List ℕ) (accepts : List ℕ → List ℕ → List ℕ → Bool) (policy : Policy) (blocks : List BlockRecord) (states : States)
    (content : List ℕ) where
  abbrev Answers : Result New Stop → Type 0
  Answers = JudgedAs processors hash accepts policy blocks states content

  -- a fault that comes of each way to run batches
  refused : (fault : BlockFault) → ((runs : Runs) → judged (rules_by hash accepts policy runs) (map_under states) blocks content ≡ Err fault)
      → Answers (Err (Refused fault))
  refused fault bad = record { runs = by_serial processors; by = is_by_serial processors own; judged_as = bad (by_serial processors) }

  unsound : (e : StructureFault) → (e ≡ structures.OutOfMemory → ⊥) → BlockGives accepts content (Err e) → Answers (Err (Refused (Structure e)))
  unsound e other (inl memory) = absurd (other memory)
  unsound e other (inr bad) = refused (Structure e) (λ runs. judged_bad accepts hash policy runs (map_under states) blocks content e bad)

  -- the structure has a fault
  pub by_structure : (e : StructureFault) → BlockGives accepts content (Err e) → Answers (Err (stop_of_structure e))
  by_structure (structures.Undecodable fault) gives = unsound (structures.Undecodable fault) (λ same. cc) gives
  by_structure structures.IdText gives = unsound structures.IdText (λ same. cc) gives
  by_structure structures.KeyText gives = unsound structures.KeyText (λ same. cc) gives
  by_structure (structures.TooManyTransactions count) gives = unsound (structures.TooManyTransactions count) (λ same. cc) gives
  by_structure (structures.BatchIds index) gives = unsound (structures.BatchIds index) (λ same. cc) gives
  by_structure (structures.Batch k fault) gives = unsound (structures.Batch k fault) (λ same. cc) gives
  by_structure structures.Signature gives = unsound structures.Signature (λ same. cc) gives
  by_structure structures.OutOfMemory gives = tt

  module _ (checked : CheckedBlock) (sound : structure_fault accepts content ≡ None) (of : IsBlockOf content checked) where
    by_parts : (runs : Runs)
        → judged (rules_by hash accepts policy runs) (map_under states) blocks content
        ≡ judged_parts hash policy runs (map_under states) blocks (parts_in checked)
    by_parts runs = judged_is accepts hash policy runs (map_under states) blocks content checked sound of

    -- its place has a fault
    pub by_place : (stop : Stop) → IsStop (first_in (place_tests blocks checked.id checked.header)) stop → Answers (Err stop)
    by_place (Refused fault) is = refused fault (λ runs. by_parts runs ∙ misplaced hash policy runs blocks states (parts_in checked) fault (sym is))
    by_place (Failed fault) is = subst (λ fault. Answers (Err (Failed fault))) (sym is) tt

    module _ (placed : first_in (place_tests blocks checked.id checked.header) ≡ None) where
      module _ (at : List ℕ) (same : map_under states (parent_of blocks checked.header) ≡ map_at states at) where
        abbrev ruling : StateMap → Option BlockFault
        ruling m = rule_fault policy m checked.header.signer_public_key (ids_before blocks checked.header) checked.batches

        -- its batches may not stand in it, or the call fails
        pub by_batches : (peer : Type 0) (stop : Stop)
            → RanAs processors peer policy (map_at states at) checked.header.signer_public_key (ids_before blocks checked.header) checked.batches (Err stop)
            → Answers (Err stop)
        by_batches peer (Refused fault) is =
            refused fault (λ runs. by_parts runs ∙ ruled_out hash policy runs blocks states (parts_in checked) (sym placed) fault (ap ruling same ∙ is))
        by_batches peer (Failed (faults.Collision kept given)) is = absurd is
        by_batches peer (Failed faults.Full) is = absurd is
        by_batches peer (Failed faults.PeerFailed) is = tt
        by_batches peer (Failed faults.OutOfMemory) is = tt

        module _ (allowed : ruling (map_at states at) ≡ None) where
          abbrev before : StateMap
          before = map_under states (parent_of blocks checked.header)

          abbrev txs : List (List TxShape)
          txs = txs_of checked.batches

          may_here : (results : List BatchResult) → MayComeOfAll processors (map_at states at) txs results
              → RunsBy processors (or_here processors before txs results)
          may_here results may = is_or_here processors own before txs results
              (subst (λ (m : StateMap). MayComeOfAll processors m txs results) (sym same) may)

          -- the map that the block would leave with these results, if none fails
          leaves : (results : List BatchResult) → failure_fault results ≡ None
              → would_leave (rules_by hash accepts policy (or_here processors before txs results)) (map_under states) blocks content
              ≡ Some (left_after (map_at states at) results)
          leaves results fine =
              let runs = or_here processors before txs results in
              let whole : ruling before ≡ None = ap ruling same ∙ allowed in
              let but : fault_but_root hash policy blocks before (runs before txs) (parts_in checked) ≡ failure_fault (runs before txs) =
              but_root hash policy blocks before (runs before txs) (parts_in checked)
              ∙ ap (λ first. first <|> (ruling before <|> failure_fault (runs before txs))) placed ∙ ap (λ first. first <|> failure_fault (runs before txs)) whole in
              left_is accepts hash policy runs (map_under states) blocks content checked sound of
              ∙ ap (λ found. some_unless found (left_after before (runs before txs))) but
              ∙ ap (λ results. some_unless (failure_fault results) (left_after before results)) (here_are processors before txs results)
              ∙ ap (λ found. some_unless found (left_after before results)) fine
              ∙ ap (λ m. Some (left_after m results)) same

          came : (results : List BatchResult) (found : Option BlockFault) → HasRun processors hash states at (parts_in checked) results found
              → (result : Result Kept BlockFault) → unless found (kept_of hash (parts_in checked) (map_at states at) results) ≡ result
              → ComesTo processors hash accepts policy blocks states content result
          came results found run result is = record {
            runs = or_here processors before txs results;
            by = may_here results run.may;
            judged_as = by_parts (or_here processors before txs results)
                ∙ by_run hash policy (or_here processors before txs results) blocks states (parts_in checked) (sym placed) (ap ruling same ∙ allowed) results at same
                (here_are processors before txs results)
                ∙ ap (λ found. unless found (kept_of hash (parts_in checked) (map_at states at) results)) run.tested ∙ is;
          }

          -- what the run answers
          pub by_results : (result : Result New Stop) → RunsAs processors hash states at (parts_in checked) result → Answers result
          by_results (Ok new) is = (
            kept_of hash (parts_in checked) (map_at states at) is.0,
            came is.0 None is.1 (Ok (kept_of hash (parts_in checked) (map_at states at) is.0)) refl,
            is.2,
          )
          by_results (Err (Refused fault)) is = came is.0 (Some fault) is.1 (Err fault) refl
          by_results (Err (Failed (faults.Collision kept given))) is = (
            or_here processors before txs is.0,
            may_here is.0 is.1,
            record { left = left_after (map_at states at) is.0; left_is = leaves is.0 is.2; clash = is.3 },
          )
          by_results (Err (Failed faults.Full)) is = tt
          by_results (Err (Failed faults.PeerFailed)) is = tt
          by_results (Err (Failed faults.OutOfMemory)) is = tt
