-- A block's batches over the map before it.
use Rattle.std.proofs.Common.{◌≡◌, ◌<◌, ◌^◌, ℕ, List, [], ◌∷◌, length, Option, Some, None, Result, Ok, Err, refl, sym, ap, subst, ◌∙◌, arith}
use Rattle.std.specs.Prelude.{IfOk, IsSome}
use Rattle.std.proofs.lemmas.List.{length-map}
use Rattle.saw_address.specs.Maps.{StateMap}
use Rattle.saw_checks.specs.Tests.{◌<|>◌}
use Rattle.saw_context.specs.Changed.{AreRising}
use Rattle.saw_context.specs.Outcome.{Processors, map_after}
use Rattle.saw_context.specs.Possible.{MayComeOfAll}
use Rattle.saw_context.specs.Serial.{left_after}
use Rattle.saw_context.specs.declared.batch_result.BatchResult.{BatchResult}
use Rattle.saw_merkle.specs.Clashes.{IsClashFor, IsPreparedFor}
use Rattle.saw_merkle.specs.Preparations.{Preparation}
use Rattle.saw_merkle.specs.States.{States, map_at, state_at}
use Rattle.saw_messages.specs.TxShapes.{BatchShape, TxShape}
use Rattle.saw_messages.specs.declared.outcome.Change.{Change}
use Rattle.saw_node.specs.Trees.{root_of_map}
use Rattle.saw_plan.specs.BatchShapes.{txs_of}
use Rattle.saw_receipts.specs.declared.block.BlockRecord.{BlockRecord}
use Rattle.saw_receipts.specs.declared.verdict.BlockFault.{BlockFault}
use Rattle.saw_schedule.specs.BatchResults.{AreResultsFor}
use Rattle.saw_store.specs.declared.fault.StoreFault.{StoreFault}
use Rattle.saw_store.specs.declared.fault.StoreFault.TheVariants.{Collision, OutOfMemory}
use Rattle.saw_journal.specs.BlockFaults.{failure_fault, root_fault}
use Rattle.saw_journal.specs.Judgement.{batch_records}
use Rattle.saw_journal.specs.LowerFaults.{fault_of_store}
use Rattle.saw_journal.specs.Parted.{RunsAs, run_fault}
use Rattle.saw_receipts.specs.declared.block.BatchRecord.{BatchRecord}
use Rattle.saw_journal.specs.Stops.{IsStop, TestsAs}
use Rattle.saw_journal.specs.declared.judge.New.{New}
use Rattle.saw_journal.specs.declared.stop.Stop.{Stop}
use Rattle.saw_journal.specs.declared.stop.Stop.TheVariants.{Refused, Failed}
use Rattle.saw_journal.specs.BlockShapes.{parts_in}
use Rattle.saw_journal.proofs.Judging.{or_none}
use Rattle.saw_checks.specs.declared.checked.CheckedBlock.{CheckedBlock}

-- ---- results

same_length : (batches : List (List TxShape)) (results : List BatchResult) → AreResultsFor batches results → length results ≡ length batches
same_length [] [] are = refl
same_length [] (result ∷ results) are = absurd are
same_length (txs ∷ batches) [] are = absurd are
same_length (txs ∷ batches) (result ∷ results) are = omega (arith, same_length batches results are.1)

pub few_results : (batches : List BatchShape) (results : List BatchResult) → AreResultsFor (txs_of batches) results → length batches < 2 ^ 32
    → length results < 2 ^ 32
few_results batches results are few =
    omega (arith, same_length (txs_of batches) results are ∙ length-map batches (λ (batch : BatchShape). batch.txs), few)

-- ---- the tests behind the run

module _ (processors : Processors) (hash : List ℕ → List ℕ) (states : States) (before : List ℕ) (checked : CheckedBlock) (results : List BatchResult)
    (may : MayComeOfAll processors (map_at states before) (txs_of checked.batches) results) where
  abbrev Answers : Result New Stop → Type 0
  Answers = RunsAs processors hash states before (parts_in checked)

  -- a batch failed
  pub failed_first : (fault : BlockFault) → failure_fault results ≡ Some fault → Answers (Err (Refused fault))
  failed_first fault failed = (
    results,
    record {
      may = may;
      tested = ap (λ found. found <|> (root_fault checked.header (root_of_map hash (left_after (map_at states before) results)) <|> None)) failed;
    },
  )

  module _ (none : failure_fault results ≡ None) (changes : List Change)
      (left : map_after (map_at states before) changes ≡ left_after (map_at states before) results) where
    -- the state prepared nothing: two nodes collide, unless memory ran out
    pub not_prepared : (fault : StoreFault) → IsClashFor hash states (map_after (map_at states before) changes) fault
        → Answers (Err (Failed (fault_of_store fault)))
    not_prepared (Collision kept given) clash =
        (results, may, none, subst (λ (m : StateMap). IsClashFor hash states m (Collision kept given)) left clash)
    not_prepared OutOfMemory clash = tt

    module _ (root : List ℕ) (is : root ≡ root_of_map hash (map_after (map_at states before) changes)) where
      root_is : root ≡ root_of_map hash (left_after (map_at states before) results)
      root_is = is ∙ ap (root_of_map hash) left

      then_root : (found : Option BlockFault) → root_fault checked.header root ≡ found → run_fault hash states before (parts_in checked) results ≡ found
      then_root found told =
          ap (λ first. first <|> (root_fault checked.header (root_of_map hash (left_after (map_at states before) results)) <|> None)) none
          ∙ ap (λ root. root_fault checked.header root <|> None) (sym root_is) ∙ or_none (root_fault checked.header root) ∙ told

      -- it states another root
      pub other_root : (stop : Stop) → IsStop (root_fault checked.header root) stop → Answers (Err stop)
      other_root (Refused fault) told = (results, record { may = may; tested = then_root (Some fault) told })
      other_root (Failed fault) told = subst (λ fault. Answers (Err (Failed fault))) (sym told) tt

      -- or there is a record of it
      pub is_new : (block : BlockRecord) (prepared : Preparation) → root_fault checked.header root ≡ None
          → IsSome (state_at states before) → AreRising changes
          → IsPreparedFor hash states (map_after (map_at states before) changes) prepared
          → block ≡ record {
            id = checked.id;
            number = checked.header.block_num;
            previous = checked.header.previous_block_id;
            signer =
                checked.header.signer_public_key;
            root = root;
            batches = batch_records checked.batches results;
          }
          → Answers (Ok (record { block = block; before = before; changes = changes; prepared = prepared }))
      is_new block prepared told known rising ready made = (
        results,
        record { may = may; tested = then_root None told },
        record {
          block = made ∙ ap (λ root. record {
            id = checked.id;
            number = checked.header.block_num;
            previous = checked.header.previous_block_id;
            signer =
                checked.header.signer_public_key;
            root = root;
            batches = batch_records checked.batches results;
          }) root_is;
          rising = rising;
          known = known;
          left = sym left;
          prepared = subst (λ (m : StateMap). IsPreparedFor hash states m prepared) left ready;
        },
      )

      -- what comes of the test of the root
      pub by_root : (batches : List BatchRecord) (prepared : Preparation) → batches ≡ batch_records checked.batches results
          → IsSome (state_at states before) → AreRising changes → IsPreparedFor hash states (map_after (map_at states before) changes) prepared
          → (result : Result New Stop) → TestsAs (root_fault checked.header root) result
          → IfOk result (λ new. new ≡ record {
            block = record {
              id = checked.id;
              number = checked.header.block_num;
              previous = checked.header.previous_block_id;
              signer =
                  checked.header.signer_public_key;
              root = root;
              batches = batches;
            };
            before = before;
            changes = changes;
            prepared = prepared;
          })
          → Answers result
      by_root batches prepared all known rising ready (Err stop) told made = other_root stop told
      by_root batches prepared all known rising ready (Ok new) told made =
          subst (λ new. Answers (Ok new)) (sym made) (is_new _ prepared told known rising ready
          (ap (λ (batches : List BatchRecord). record {
            id = checked.id;
            number = checked.header.block_num;
            previous = checked.header.previous_block_id;
            signer =
                checked.header.signer_public_key;
            root = root;
            batches = batches;
          }) all))
