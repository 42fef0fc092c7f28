-- That a block without fault leaves its map, and that one which states another root is told the root of its own.
use Rattle.std.proofs.Common.{◌≡◌, inl, inr, ℕ, Bool, true, false, List, [], ◌∷◌, Option, Some, None, Ok, Err, refl, sym, ap, ◌∙◌}
use Rattle.std.specs.Prelude.{option_map}
use Rattle.saw_address.specs.Maps.{StateMap}
use Rattle.saw_checks.specs.Tests.{◌<|>◌}
use Rattle.saw_context.specs.Serial.{left_after}
use Rattle.saw_context.specs.declared.batch_result.BatchResult.{BatchResult}
use Rattle.saw_messages.specs.declared.outcome.Reason.{Reason}
use Rattle.saw_node.specs.Trees.{root_of_map}
use Rattle.saw_plan.specs.BatchShapes.{txs_of}
use Rattle.saw_plan.specs.declared.sorted.Dropped.{Dropped}
use Rattle.saw_receipts.specs.declared.block.BlockRecord.{BlockRecord}
use Rattle.saw_receipts.specs.declared.verdict.BlockFault.{BlockFault}
use Rattle.saw_rules.specs.declared.policy.Placed.{Placed}
use Rattle.saw_receipts.specs.declared.verdict.BlockFault.TheVariants as faults
use Rattle.saw_receipts.specs.declared.verdict.BlockFault.TheVariants.{BatchInvalid, BlockNumber, Consensus, GenesisAgain, Known, PreviousUnknown}
use Rattle.saw_receipts.specs.declared.verdict.BlockFault.TheVariants.{Root, Structure}
use Rattle.saw_journal.specs.BlockFaults.{failure_fault, fault_by, first_dropped, first_in, ids_before, parent_of, place_tests, rule_tests, run_tests, when}
use Rattle.saw_journal.specs.Judgement.{Kept, Rules, judged, kept_of, some_unless, unless, would_leave}
use Rattle.saw_journal.specs.Left.{KeptIsLeft}
use Rattle.saw_journal.proofs.FromBytes.{HasParts, from_bytes}
use Rattle.saw_journal.proofs.Judging.{but_root, fault_in, unless_ok}
use Rattle.saw_journal.proofs.SameParts.{neither}

unless_err : (fault : Option BlockFault) (kept : Kept) (e : BlockFault) → unless fault kept ≡ Err e → fault ≡ Some e
unless_err None kept e is = absurd cc
unless_err (Some fault) kept e is = cc

-- ---- no other test tells a root

module _ (stated computed : List ℕ) where
  -- that a test has another fault
  abbrev IsOther : Option BlockFault → Type 0
  IsOther found = found ≡ Some (Root stated computed) → ⊥

  others_none : (first others : Option BlockFault) → IsOther first → (first <|> others) ≡ Some (Root stated computed)
      → (first ≡ None) × (others ≡ Some (Root stated computed))
  others_none None others never is = (refl, is)
  others_none (Some fault) others never is = absurd (never is)

  place_other : (a b c d e : Bool) (n due : ℕ)
      → IsOther (first_in ((8, when a Known) ∷ (9, when b GenesisAgain) ∷ (10, when c PreviousUnknown) ∷ (11, when d (BlockNumber n due)) ∷ (12, when e Consensus) ∷ []))
  place_other true b c d e n due is = cc
  place_other false true c d e n due is = cc
  place_other false false true d e n due is = cc
  place_other false false false true e n due is = cc
  place_other false false false false true n due is = cc
  place_other false false false false false n due is = cc

  rule_other : (dropped : List Dropped) (found : Option Placed)
      → IsOther (first_in ((13, first_dropped dropped) ∷ (16, option_map (λ placed. faults.Policy placed.k placed.fault) found) ∷ []))
  rule_other [] None is = cc
  rule_other [] (Some placed) is = cc
  rule_other (one ∷ others) found is = cc

  failure_other : (found : Option (ℕ × ℕ × Reason)) → IsOther (option_map (λ failure. BatchInvalid failure.0 failure.1 failure.2) found)
  failure_other None is = cc
  failure_other (Some failure) is = cc

  root_is : (other : Bool) (said root : List ℕ) → (when other (Root said root) <|> None) ≡ Some (Root stated computed) → computed ≡ root
  root_is true said root is = cc
  root_is false said root is = absurd cc

module _ (rules : Rules) (map_behind : Option BlockRecord → StateMap) (blocks : List BlockRecord) (content : List ℕ) (has : HasParts rules content) where
  abbrev before : StateMap
  before = map_behind (parent_of blocks has.parts.header)

  abbrev results : List BatchResult
  results = rules.runs before (txs_of has.parts.batches)

  abbrev placing : Option BlockFault
  placing = first_in (place_tests blocks has.parts.id has.parts.header)

  abbrev ruling : Option BlockFault
  ruling = first_in (rule_tests rules.policy (ids_before blocks has.parts.header) before has.parts.header.signer_public_key has.parts.batches)

  in_order : fault_by rules.hash rules.policy blocks before results has.parts ≡ (placing <|> (ruling <|> first_in (run_tests rules.hash before results has.parts.header)))
  in_order = fault_in rules.hash rules.policy blocks before results has.parts

  -- what its batches leave, where no test but that of its root has a fault
  leaves : placing ≡ None → ruling ≡ None → failure_fault results ≡ None → would_leave rules map_behind blocks content ≡ Some (left_after before results)
  leaves placed whole fine =
      has.leaves map_behind blocks
      ∙ ap (λ found. some_unless found (left_after before results)) (but_root rules.hash rules.policy blocks before results has.parts
      ∙ ap (λ first. first <|> (ruling <|> failure_fault results)) placed ∙ ap (λ first. first <|> failure_fault results) whole ∙ fine)

  fine_left : (kept : Kept) → judged rules map_behind blocks content ≡ Ok kept → would_leave rules map_behind blocks content ≡ Some kept.left
  fine_left kept fine =
      let split = unless_ok (fault_by rules.hash rules.policy blocks before results has.parts) (kept_of rules.hash has.parts before results) kept
      (sym (has.judged_as map_behind blocks) ∙ fine) in
      let placed = neither placing _ (sym in_order ∙ split.0) in
      let whole = neither ruling _ placed.1 in
      let run = neither (failure_fault results) _ whole.1 in
      leaves placed.0 whole.0 run.0 ∙ ap (λ (kept : Kept). Some kept.left) split.1

  root_left : (stated computed : List ℕ) → judged rules map_behind blocks content ≡ Err (Root stated computed)
      → (m : StateMap) × (would_leave rules map_behind blocks content ≡ Some m) × (computed ≡ root_of_map rules.hash m)
  root_left stated computed bad =
      let found = unless_err (fault_by rules.hash rules.policy blocks before results has.parts) (kept_of rules.hash has.parts before results)
      (Root stated computed) (sym (has.judged_as map_behind blocks) ∙ bad) in
      let placed = others_none stated computed placing _ (place_other stated computed _ _ _ _ _ _ _) (sym in_order ∙ found) in
      let whole = others_none stated computed ruling _ (rule_other stated computed _ _) placed.1 in
      let run = others_none stated computed (failure_fault results) _ (failure_other stated computed _) whole.1 in
      (left_after before results, leaves placed.0 whole.0 run.0, root_is stated computed _ _ _ run.1)

pub kept_is_left : KeptIsLeft
kept_is_left rules map_behind blocks content = elim (from_bytes rules content) [
  | inl bad ↦ (
    λ kept fine. let same : Err (Structure bad.fault) ≡ Ok kept = sym (bad.judged_as map_behind blocks) ∙ fine in absurd cc,
    λ stated computed other. let same : Err (Structure bad.fault) ≡ Err (Root stated computed) = sym (bad.judged_as map_behind blocks) ∙ other in absurd cc,
  )
  | inr has ↦ (fine_left rules map_behind blocks content has, root_left rules map_behind blocks content has)
]
