-- A judged block that joins, and what is said of it.
use Rattle.std.proofs.Common.{◌≡◌, ℕ, Bool, true, false, List, [], ◌∷◌, ◌++◌, length, None, sym, ap, subst, ◌∙◌}
use Rattle.std.specs.Prelude.{Err, Ok}
use Rattle.saw_address.specs.Maps.{StateMap}
use Rattle.saw_context.specs.Outcome.{Processors, map_after}
use Rattle.saw_merkle.specs.Clashes.{IsPreparedFor}
use Rattle.saw_merkle.specs.States.{knows, map_at}
use Rattle.saw_node.specs.Trees.{root_of_map}
use Rattle.saw_plan.specs.BatchShapes.{txs_of}
use Rattle.saw_rules.specs.Policies.{Policy}
use Rattle.saw_receipts.specs.declared.block.BlockRecord.{BlockRecord}
use Rattle.saw_receipts.specs.declared.verdict.Verdict.{Verdict}
use Rattle.saw_receipts.specs.declared.verdict.Verdict.TheVariants.{Committed, Stored, Refused}
use Rattle.saw_journal.specs.BlockFaults.{first_in, parent_of, place_tests}
use Rattle.saw_journal.specs.Clashing.{ClashesAs, TellsNoNodes}
use Rattle.saw_receipts.specs.Heads.{head_of, is_new_head}
use Rattle.saw_journal.specs.Judgement.{Kept, Rules}
use Rattle.saw_journal.specs.Ledger.{IsAccepted, IsFull, Ledger, Says, judged_in, map_under}
use Rattle.saw_journal.specs.Parted.{IsNew, Joins, JoinsAs, JudgedAs, MayJoin}
use Rattle.saw_journal.specs.declared.fault.JournalFault.{JournalFault}
use Rattle.saw_journal.specs.declared.fault.JournalFault.TheVariants as faults
use Rattle.saw_journal.specs.declared.judge.New.{New}
use Rattle.saw_journal.specs.declared.stop.Stop.TheVariants.{Failed}
use Rattle.saw_journal.proofs.FromBytes.{IsFine, is_fine}
use Rattle.saw_journal.proofs.Judging.{fault_in, stands}
use Rattle.saw_journal.proofs.SameParts.{neither}

module _ (rules : Rules) (old : Ledger) (content : List ℕ) (kept : Kept) (fine : judged_in rules old content ≡ Ok kept) (new : New)
    (is : IsNew rules.hash old.states kept new) where
  made_of : IsFine rules content (map_under old.states) old.blocks kept
  made_of = is_fine rules content (map_under old.states) old.blocks kept fine

  placed : None ≡ first_in (place_tests old.blocks made_of.parts.id made_of.parts.header)
  placed =
      let parts = made_of.parts in
      let before = map_under old.states (parent_of old.blocks parts.header) in
      sym (neither (first_in (place_tests old.blocks parts.id parts.header)) _
      (sym (fault_in rules.hash rules.policy old.blocks before (rules.runs before (txs_of parts.batches)) parts) ∙ made_of.faultless)).0

  -- a block without fault may join
  pub may_join : MayJoin rules.hash old new
  may_join =
      let record_is = is.block ∙ ap (λ (kept : Kept). kept.block) (sym made_of.made) in
      record {
        behind = stands old.blocks made_of.parts.id made_of.parts.header placed made_of.form new.block
            (ap (λ (block : BlockRecord). block.id) record_is) (ap (λ (block : BlockRecord). block.previous) record_is)
            (ap (λ (block : BlockRecord). block.number) record_is);
        known = is.known;
        rising = is.rising;
        root = ap (λ (block : BlockRecord). block.root) record_is ∙ ap (λ (kept : Kept). root_of_map rules.hash kept.left) made_of.made
            ∙ ap (root_of_map rules.hash) is.left;
        prepared = subst (λ (m : StateMap). IsPreparedFor rules.hash old.states m new.prepared) is.left is.prepared;
      }

  joined_as : (is_head : Bool) (after : Ledger) → Joins rules.hash old new is_head after → IsAccepted rules old content is_head after
  joined_as is_head after joins = record {
    kept = kept;
    fine = fine;
    room = joins.room;
    head = ap (is_new_head (head_of old.blocks)) (sym is.block) ∙ joins.head;
    grown_by = joins.is
        ∙ ap (λ (block : BlockRecord). record {
          blocks = old.blocks ++ block ∷ [];
          states =
              knows rules.hash old.states (map_after (map_at old.states new.before) new.changes);
          limit = old.limit;
        }) is.block
        ∙ ap (λ (left : StateMap). record { blocks = old.blocks ++ kept.block ∷ []; states = knows rules.hash old.states left; limit = old.limit })
        (sym is.left);
  }

  -- what is said where it joins
  pub says_good : (verdict : Verdict) (after : Ledger) → JoinsAs rules.hash old new verdict after → Says rules old content verdict after
  says_good Committed after joins = joined_as true after joins
  says_good Stored after joins = joined_as false after joins
  says_good (Refused fault) after joins = absurd joins

  pub says_full : length old.blocks ≡ old.limit → IsFull rules old content
  says_full full = record { kept = kept; fine = fine; full = full }

-- ---- hash collisions

module _ (processors : Processors) (hash : List ℕ → List ℕ) (accepts : List ℕ → List ℕ → List ℕ → Bool) (policy : Policy) (old : Ledger)
    (content : List ℕ) where
  abbrev AsClashes : JournalFault → Type 0
  AsClashes = ClashesAs processors hash accepts policy old content

  -- the hash collision that ended the judgement
  pub clashes_judged : (fault : JournalFault) → JudgedAs processors hash accepts policy old.blocks old.states content (Err (Failed fault)) → AsClashes fault
  clashes_judged (faults.Collision kept given) met = met
  clashes_judged faults.Full met = tt
  clashes_judged faults.PeerFailed met = tt
  clashes_judged faults.OutOfMemory met = tt

  -- a fault that tells no nodes
  pub no_clash : (fault : JournalFault) → TellsNoNodes fault → AsClashes fault
  no_clash (faults.Collision kept given) never = absurd never
  no_clash faults.Full other = tt
  no_clash faults.PeerFailed other = tt
  no_clash faults.OutOfMemory other = tt
