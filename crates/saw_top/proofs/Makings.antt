-- What was built, as what there is to publish.
use Rattle.std.proofs.Common.{◌≡◌, ◌<◌, ◌==◌, ◌||◌, ℕ, Bool, true, false, List, length, Option, Some, None, is_some, Result, Ok, Err, sym, ap, ap₂, subst, ◌∙◌, arith}
use Rattle.std.specs.Prelude.{if◌then◌else◌}
use Rattle.std.proofs.lemmas.Bool.Decides.{nat_tests}
use Rattle.saw_context.specs.Outcome.{Processors}
use Rattle.saw_journal.specs.Ledger.{Ledger}
use Rattle.saw_checks.specs.declared.policy.PolicyFault.{PolicyFault}
use Rattle.saw_merkle.specs.States.{States}
use Rattle.saw_messages.specs.declared.batch.Batch.{Batch}
use Rattle.saw_node.specs.Hashes.{first_half}
use Rattle.saw_node.specs.Contents.{Node}
use Rattle.saw_publish.specs.Building.{Builds, block_fault, map_before}
use Rattle.saw_publish.specs.Candidates.{content_of}
use Rattle.saw_publish.specs.declared.candidate.Candidate.{Candidate}
use Rattle.saw_publish.specs.declared.fault.PublishFault.{PublishFault}
use Rattle.saw_publish.specs.declared.fault.PublishFault.TheVariants as faults
use Rattle.saw_receipts.specs.Branches.{ids_in}
use Rattle.saw_receipts.specs.Heads.{head_branch}
use Rattle.saw_receipts.specs.Running.{Runs}
use Rattle.saw_receipts.specs.declared.block.Parent.{Parent}
use Rattle.saw_receipts.specs.declared.loss.Loss.{Loss}
use Rattle.saw_report.specs.declared.run_fault.RunFault.TheVariants.{Collision}
use Rattle.saw_top.specs.World.{governed}
use Rattle.saw_rules.specs.declared.policy.Placed.{Placed}
use Rattle.saw_top.specs.Ends.{publication_in}
use Rattle.saw_top.specs.Making.{Makes}
use Rattle.saw_top.specs.Publishing.{Publication, Waiting, has_no_block, is_nothing, parent_at}
use Rattle.saw_top.specs.World.{Accepts, rules_with}

not_zero : (n : ℕ) → 0 < n → (n == 0) ≡ false
not_zero n some = grind (arith, nat_tests)

module _ (processors : Processors) (accepts : Accepts) (waiting : Waiting) (ledger : Ledger) (states : States) (parent : Option Parent)
    (same : states ≡ ledger.states) (is : parent ≡ parent_at ledger.blocks) where
  abbrev Built : Result Candidate PublishFault → Type 0
  Built result =
      Builds first_half governed waiting.signing states parent processors accepts (ids_in (head_branch ledger.blocks)) waiting.batches result

  abbrev Here : Result Candidate PublishFault → Type 0
  Here result =
      Builds first_half governed waiting.signing ledger.states (parent_at ledger.blocks) processors accepts (ids_in (head_branch ledger.blocks))
      waiting.batches result

  here : (result : Result Candidate PublishFault) → Built result → Here result
  here result built =
      subst (λ (p : Option Parent). Builds first_half governed waiting.signing ledger.states p processors accepts (ids_in (head_branch ledger.blocks)) waiting.batches result) is
      (subst (λ (s : States). Builds first_half governed waiting.signing s parent processors accepts (ids_in (head_branch ledger.blocks)) waiting.batches result) same built)

  -- what comes of the batches, by how they are run
  abbrev made_by : Runs → Publication
  made_by runs = publication_in (rules_with first_half accepts runs) waiting ledger

  abbrev content_by : Runs → List ℕ
  content_by runs = content_of first_half waiting.signing (parent_at ledger.blocks) (made_by runs).draft

  abbrev fault_by : Runs → Option Placed
  fault_by runs = block_fault governed waiting.signing.key (map_before ledger.states (parent_at ledger.blocks)) (made_by runs).draft

  -- the refusal, by whether a batch is applied
  refused_as : (runs : Runs) (nothing : Bool) → is_nothing (made_by runs).draft ≡ nothing
      → (made_by runs).refusal ≡ (if nothing then None else fault_by runs)
  refused_as runs nothing none = ap (λ (none : Bool). if none then None else fault_by runs) none

  -- and so whether there is a block
  blocked_as : (runs : Runs) (nothing : Bool) (refusal : Option Placed) → is_nothing (made_by runs).draft ≡ nothing → (made_by runs).refusal ≡ refusal
      → has_no_block (made_by runs) ≡ (nothing || is_some refusal)
  blocked_as runs nothing refusal none refused = ap₂ (λ (none : Bool) (refusal : Option Placed). none || is_some refusal) none refused

  if_some : (runs : Runs) (none : Bool) → has_no_block (made_by runs) ≡ none
      → (if none then None else Some (content_by runs)) ≡ (if has_no_block (made_by runs) then None else Some (content_by runs))
  if_some runs none is = ap (λ (none : Bool). if none then None else Some (content_by runs)) (sym is)

  -- where a batch is applied and the policy finds nothing there is a block
  unrefused : (runs : Runs) → 0 < length (made_by runs).draft.applied → fault_by runs ≡ None → (made_by runs).refusal ≡ None
  unrefused runs some fine = refused_as runs false (not_zero (length (made_by runs).draft.applied) some) ∙ fine

  has_block : (runs : Runs) → 0 < length (made_by runs).draft.applied → fault_by runs ≡ None → has_no_block (made_by runs) ≡ false
  has_block runs some fine = blocked_as runs false None (not_zero (length (made_by runs).draft.applied) some) (unrefused runs some fine)

  pub makes_block : (made : Candidate) → Built (Ok made)
      → Makes processors accepts waiting ledger (Ok (record { block = Some made.block; refusal = None; dropped = made.dropped }))
  makes_block made built =
      let b = here (Ok made) built in
      let at = b.2 in
      (b.0, b.1, (ap Some at.2 ∙ if_some b.0 false (has_block b.0 at.0 at.1), sym (unrefused b.0 at.0 at.1), at.3))

  pub makes_none : (dropped : List Loss) → Built (Err (faults.NothingValid dropped))
      → Makes processors accepts waiting ledger (Ok (record { block = None; refusal = None; dropped = dropped }))
  makes_none dropped built =
      let b = here (Err (faults.NothingValid dropped)) built in
      let at = b.2 in
      let nothing : is_nothing (made_by b.0).draft ≡ true = ap (λ (l : List Batch). length l == 0) at.0 in
      let refusal = refused_as b.0 true nothing in
      (b.0, b.1, (if_some b.0 true (blocked_as b.0 true None nothing refusal), sym refusal, at.1))

  pub makes_refusal : (k : ℕ) (fault : PolicyFault) (dropped : List Loss) → Built (Err (faults.Policy k fault dropped))
      → Makes processors accepts waiting ledger (Ok (record { block = None; refusal = Some (record { k = k; fault = fault }); dropped = dropped }))
  makes_refusal k fault dropped built =
      let b = here (Err (faults.Policy k fault dropped)) built in
      let at = b.2 in
      let some = not_zero (length (made_by b.0).draft.applied) at.0 in
      let refusal = refused_as b.0 false some ∙ at.1 in
      (b.0, b.1, (if_some b.0 true (blocked_as b.0 false (Some (record { k = k; fault = fault })) some refusal), sym refusal, at.2))

  pub meets_clash : (kept given : Node) → Built (Err (faults.Collision kept given))
      → Makes processors accepts waiting ledger (Err (Collision kept given))
  meets_clash kept given built =
      let b = here (Err (faults.Collision kept given)) built in
      let at = b.2 in
      (b.0, b.1, (has_block b.0 at.0 at.1, at.2))
