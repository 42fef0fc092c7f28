-- Who may be taken, by cursors, flags and lowest invalid members.
use Rattle.std.proofs.Common.{◌≡◌, ◌<◌, ◌≤◌, ℕ, Bool, false, List, length, get_or, set, sym, ◌∙◌, arith, ◌⊎◌, inl, inr, true≢false, get_or-set_other, length-set}
use Rattle.std.proofs.lemmas.Bool.{cases_eq, cases_lt}
use Rattle.saw_ready.specs.Cursors.{IsDue}
use Rattle.saw_ready.specs.Edges.{finish}
use Rattle.saw_ready.specs.Kept.{IsPlaced, IsQueue, waits_of}
use Rattle.saw_ready.specs.Marks.{NoneInvalid}
use Rattle.saw_ready.specs.Queues.{MayTake}
use Rattle.saw_ready.specs.Sets.{NoneIn}
use Rattle.saw_ready.specs.declared.layout.Layout.{Layout}
use Rattle.saw_ready.specs.declared.slot_state.SlotState.{SlotState}
use Rattle.saw_ready.proofs.Batches.{mate-of, member-low}

module _ (layout : Layout) (marks : List SlotState) (first : ℕ) (cursors lowest : List ℕ)
    (placed : IsPlaced layout marks first cursors lowest) where
  -- no earlier member is invalid exactly where the lowest one is no earlier member
  pub clean-lowest : (k : ℕ) → first ≤ k → k < length marks → k ≤ get_or lowest (get_or layout.starts.items k 0) 0
      → NoneInvalid marks (get_or layout.starts.items k 0) k
  clean-lowest k u inside le j low high =
      let l = placed.is_layout in
      let l_is = placed.lowest_are k u inside in
      l_is.none j (omega (arith, high, inside))
      (mate-of layout.starts.items j k l.starts_are (rw l.all_start inside) low (omega (arith, high))) (omega (arith, high, le))

  pub lowest-clean : (k : ℕ) → first ≤ k → k < length marks → NoneInvalid marks (get_or layout.starts.items k 0) k
      → k ≤ get_or lowest (get_or layout.starts.items k 0) 0
  lowest-clean k u inside clean = elim (cases_lt (get_or lowest (get_or layout.starts.items k 0) 0) k) [
    | inr le ↦ le
    | inl lt ↦
        let l = placed.is_layout in
        let here = (placed.lowest_are k u inside).here (omega (arith, lt, inside)) in
        let low =
        member-low layout.starts.items (get_or lowest (get_or layout.starts.items k 0) 0) k l.starts_are
        (rw l.all_start (omega (arith, lt, inside))) here.0 in
        absurd (true≢false (sym here.1 ∙ clean (get_or lowest (get_or layout.starts.items k 0) 0) low lt))
  ]

  pub due-may : (k : ℕ) → first ≤ k → k < length marks → IsDue layout.preds marks cursors k
      → k ≤ get_or lowest (get_or layout.starts.items k 0) 0 → MayTake (waits_of layout marks first) k
  due-may k u inside due le = record {
    unsettled = u;
    inside = inside;
    waiting = due.0;
    met = λ p at. (placed.cursors_are k u inside).met p at.0 (rw due.1 at.1);
    mates = clean-lowest k u inside le;
  }

  pub may-due : (k : ℕ) → MayTake (waits_of layout marks first) k → IsDue layout.preds marks cursors k
  may-due k may = (may.waiting, go (cases_lt (get_or cursors k 0) (finish layout.preds k)))
    where
      go : (get_or cursors k 0 < finish layout.preds k) ⊎ (finish layout.preds k ≤ get_or cursors k 0)
          → get_or cursors k 0 ≡ finish layout.preds k
      go (inr l) = let h = (placed.cursors_are k may.unsettled may.inside).high in omega (arith, l, h)
      go (inl r) =
          let c = placed.cursors_are k may.unsettled may.inside in
          absurd (true≢false (sym (may.met (get_or cursors k 0) (c.low, r)) ∙ c.stop r))

-- ---- flags

module _ (layout : Layout) (marks : List SlotState) (first : ℕ) (cursors lowest : List ℕ) (flags : List Bool)
    (q : IsQueue layout marks first cursors lowest flags) where
  pub may-later : (to : ℕ) → NoneIn flags first to → (j : ℕ) → MayTake (waits_of layout marks first) j → to ≤ j
  may-later to none j may = elim (cases_lt j to) [
    | inr le ↦ le
    | inl lt ↦
        let due = may-due layout marks first cursors lowest q.placed j may in
        absurd (true≢false (sym (q.flagged j may.unsettled may.inside due may.mates) ∙ none j may.unsettled lt))
  ]

  pub none-may : NoneIn flags first (length flags) → (j : ℕ) → MayTake (waits_of layout marks first) j → ⊥
  none-may none j may =
      let le = may-later (length flags) none j may in let l = may.inside in let f = q.all_flagged in omega (arith, le, l, f)

  pub queue-pass : (k : ℕ) → (MayTake (waits_of layout marks first) k → ⊥) → IsQueue layout marks first cursors lowest (set flags k false)
  queue-pass k not = record {
    placed = q.placed;
    all_flagged = length-set flags k false ∙ q.all_flagged;
    flagged = λ i l r due clean. elim (cases_eq i k) [
      | inl e ↦
          absurd (not
          (rw e at
          (due-may layout marks first cursors lowest q.placed i l r due
          (lowest-clean layout marks first cursors lowest q.placed i l r clean))))
      | inr diff ↦ get_or-set_other flags k i false false diff ∙ q.flagged i l r due clean
    ];
  }
