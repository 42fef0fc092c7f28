-- What a queue keeps at each change of a mark.
use Rattle.std.proofs.Common.{◌≡◌, ◌≢◌, ◌<◌, ◌≤◌, ℕ, Bool, true, false, ◌||◌, nat_lt, List, length, get_or, set, replicate, refl, sym, ap, ◌∙◌, arith, ◌⊎◌, inl, inr, true≢false, get_or-set_same, get_or-set_other, length-set}
use Rattle.std.proofs.lemmas.Bool.{cases_eq, cases_lt}
use Rattle.std.proofs.lemmas.List.{get_or-replicate, get_or_past, length-replicate}
use Rattle.saw_ready.specs.Cursors.{AreCursors, AreFlagged, IsCursor, IsDue}
use Rattle.saw_ready.specs.Edges.{begin, target}
use Rattle.saw_ready.specs.Fronts.{AreSeen}
use Rattle.saw_ready.specs.Hits.{IsIn}
use Rattle.saw_ready.specs.Kept.{IsCoherent, IsPlaced, IsQueue}
use Rattle.saw_ready.specs.Layouts.{IsLayout}
use Rattle.saw_ready.specs.Lowest.{AreLowest}
use Rattle.saw_ready.specs.Marks.{is_invalid, is_met, is_valid, is_waiting}
use Rattle.saw_ready.specs.declared.layout.Layout.{Layout}
use Rattle.saw_ready.specs.declared.slot_state.SlotState.{SlotState}
use Rattle.saw_ready.specs.declared.slot_state.SlotState.TheVariants.{Valid, Waiting}
use Rattle.saw_ready.proofs.Lowering.{lowest-same}
use Rattle.saw_ready.proofs.MarkFacts.{met-same, none-back}

module _ (layout : Layout) (marks : List SlotState) (first k : ℕ) (m : SlotState) (inside : k < length marks) where
  cursors-set : (cursors : List ℕ) → is_valid m ≡ is_valid (get_or marks k Waiting) → AreCursors layout.preds marks first cursors
      → AreCursors layout.preds (set marks k m) first cursors
  cursors-set cursors v are i l r =
      let c = are i l (rw (length-set marks k m) at r) in
      record {
        low = c.low;
        high = c.high;
        met = λ p a b. met-same marks k m inside first (target layout.preds p) v ∙ c.met p a b;
        stop = λ lt. met-same marks k m inside first (target layout.preds (get_or cursors i 0)) v ∙ c.stop lt;
      }

  pub never-due : (cursors : List ℕ) → is_waiting m ≡ false → IsDue layout.preds (set marks k m) cursors k → ⊥
  never-due cursors not due = true≢false (sym (rw (get_or-set_same marks k m Waiting inside) at due.0) ∙ not)

  pub flagged-set : (cursors : List ℕ) (flags flags' : List Bool) → is_invalid (get_or marks k Waiting) ≡ false
      → (IsDue layout.preds (set marks k m) cursors k → IsIn flags' k)
      → ((i : ℕ) → i ≢ k → IsIn flags i → IsIn flags' i)
      → AreFlagged layout.preds layout.starts.items marks first cursors flags
      → AreFlagged layout.preds layout.starts.items (set marks k m) first cursors flags'
  flagged-set cursors flags flags' v at others are i l r due none = elim (cases_eq i k) [
    | inl e ↦ rw e (at (rw e at due))
    | inr diff ↦
        others i diff (are i l (rw (length-set marks k m) at r) (rw (get_or-set_other marks k i m Waiting diff) at due.0, due.1)
        (none-back marks k m inside (get_or layout.starts.items i 0) i v none))
  ]

  pub seen-set : (seen : ℕ) → is_valid (get_or marks k Waiting) ≡ false → AreSeen marks first seen → AreSeen (set marks k m) first seen
  seen-set seen v are = record {
    onward = are.onward;
    valid =
        λ j low lt. ap is_valid (get_or-set_other marks k j m Waiting (λ e. true≢false (sym (are.valid j low lt) ∙ rw e v)))
        ∙ are.valid j low lt;
  }

-- another mark than a valid one at k, which held none
pub kept-mark : (layout : Layout) (marks : List SlotState) (first k : ℕ) (m : SlotState) (cursors lowest lowest' : List ℕ) (flags flags' : List Bool)
    (seen : ℕ)
    → k < length marks → is_valid (get_or marks k Waiting) ≡ false → is_invalid (get_or marks k Waiting) ≡ false → is_valid m ≡ false
    → length lowest' ≡ length lowest → AreLowest layout.starts.items (set marks k m) first lowest'
    → length flags' ≡ length flags → (IsDue layout.preds (set marks k m) cursors k → IsIn flags' k)
    → ((i : ℕ) → i ≢ k → IsIn flags i → IsIn flags' i)
    → IsQueue layout marks first cursors lowest flags → AreSeen marks first seen
    → IsCoherent layout (set marks k m) first cursors lowest' flags' seen
kept-mark layout marks first k m cursors lowest lowest' flags flags' seen inside v w is low_long lows flag_long at others q s =
    record {
      queue = record {
        placed = record {
          is_layout = rw (length-set marks k m) q.placed.is_layout;
          within = rw (length-set marks k m) q.placed.within;
          all_point = rw (length-set marks k m) q.placed.all_point;
          all_low = rw (length-set marks k m) (low_long ∙ q.placed.all_low);
          cursors_are = cursors-set layout marks first k m inside cursors (is ∙ sym v) q.placed.cursors_are;
          lowest_are = lows;
        };
        all_flagged = rw (length-set marks k m) (flag_long ∙ q.all_flagged);
        flagged = flagged-set layout marks first k m inside cursors flags flags' w at others q.flagged;
      };
      seen_are = seen-set layout marks first k m inside seen v s;
    }

-- a valid mark at k, which held none
pub kept-valid : (layout : Layout) (marks : List SlotState) (first k : ℕ) (cursors cursors' lowest : List ℕ) (flags flags' : List Bool)
    (seen : ℕ)
    → k < length marks → is_valid (get_or marks k Waiting) ≡ false → is_invalid (get_or marks k Waiting) ≡ false
    → length cursors' ≡ length marks → AreCursors layout.preds (set marks k Valid) first cursors'
    → length flags' ≡ length marks → AreFlagged layout.preds layout.starts.items (set marks k Valid) first cursors' flags'
    → IsCoherent layout marks first cursors lowest flags seen → IsCoherent layout (set marks k Valid) first cursors' lowest flags' seen
kept-valid layout marks first k cursors cursors' lowest flags flags' seen inside v w point_long points flag_long flagged kept =
    let p = kept.queue.placed in
    record {
      queue = record {
        placed = record {
          is_layout = rw (length-set marks k Valid) p.is_layout;
          within = rw (length-set marks k Valid) p.within;
          all_point = rw (length-set marks k Valid) point_long;
          all_low = rw (length-set marks k Valid) p.all_low;
          cursors_are = points;
          lowest_are = lowest-same layout.starts.items marks first k Valid lowest inside w refl p.lowest_are;
        };
        all_flagged = rw (length-set marks k Valid) flag_long;
        flagged = flagged;
      };
      seen_are = seen-set layout marks first k Valid inside seen v kept.seen_are;
    }

-- ---- another first unsettled number

pub kept-first : (layout : Layout) (marks : List SlotState) (first end : ℕ) (cursors lowest : List ℕ) (flags : List Bool) (seen : ℕ)
    → first ≤ end → end ≤ length marks
    → ((j : ℕ) → first ≤ j → j < end → is_valid (get_or marks j Waiting) ≡ true)
    → IsCoherent layout marks first cursors lowest flags seen → IsCoherent layout marks end cursors lowest flags end
kept-first layout marks first end cursors lowest flags seen le within valid kept = record {
  queue = record {
    placed = record {
      is_layout = p.is_layout;
      within = within;
      all_point = p.all_point;
      all_low = p.all_low;
      cursors_are = λ k l r. cursor k (p.cursors_are k (omega (arith, le, l)) r);
      lowest_are = λ k l r. p.lowest_are k (omega (arith, le, l)) r;
    };
    all_flagged = kept.queue.all_flagged;
    flagged = λ k l r due clean. kept.queue.flagged k (omega (arith, le, l)) r due clean;
  };
  seen_are = record { onward = omega arith; valid = λ j low lt. absurd (omega (arith, low, lt)) };
}
  where
    p : IsPlaced layout marks first cursors lowest
    p = kept.queue.placed

    settled : (t e : ℕ) (v : Bool) → t < e → (nat_lt t e || v) ≡ true
    settled t e v lt = grind arith

    later : (t e : ℕ) (v : Bool) → e ≤ t → (nat_lt t e || v) ≡ v
    later t e v high = grind arith

    same : (t : ℕ) → is_met marks end t ≡ is_met marks first t
    same t = go (cases_lt t first) (cases_lt t end)
      where
        go : (t < first) ⊎ (first ≤ t) → (t < end) ⊎ (end ≤ t) → is_met marks end t ≡ is_met marks first t
        go (inl lt) c =
            settled t end (is_valid (get_or marks t Waiting)) (omega (arith, lt, le))
            ∙ sym (settled t first (is_valid (get_or marks t Waiting)) lt)
        go (inr low) (inl lt) =
            settled t end (is_valid (get_or marks t Waiting)) lt
            ∙ sym (later t first (is_valid (get_or marks t Waiting)) low ∙ valid t low lt)
        go (inr low) (inr high) =
            later t end (is_valid (get_or marks t Waiting)) high ∙ sym (later t first (is_valid (get_or marks t Waiting)) low)

    cursor : (k : ℕ) → IsCursor layout.preds marks first k (get_or cursors k 0) → IsCursor layout.preds marks end k (get_or cursors k 0)
    cursor k c = record {
      low = c.low;
      high = c.high;
      met = λ q a b. same (target layout.preds q) ∙ c.met q a b;
      stop = λ lt. same (target layout.preds (get_or cursors k 0)) ∙ c.stop lt;
    }

-- ---- the beginning

pub all-waiting : (n i : ℕ) → get_or (replicate n Waiting) i Waiting ≡ Waiting
all-waiting n i = elim (cases_lt i n) [
  | inl lt ↦ get_or-replicate n i Waiting Waiting lt
  | inr le ↦ get_or_past (replicate n Waiting) i Waiting (rw (length-replicate n Waiting) le)
]

pub kept-new : (layout : Layout) (marks : List SlotState) (cursors lowest : List ℕ) (flags : List Bool) → IsLayout layout (length marks)
    → ((i : ℕ) → get_or marks i Waiting ≡ Waiting)
    → length cursors ≡ length marks → ((k : ℕ) → k < length marks → get_or cursors k 0 ≡ begin layout.preds k)
    → length lowest ≡ length marks → ((i : ℕ) → i < length marks → get_or lowest i 0 ≡ length marks)
    → length flags ≡ length marks → ((k : ℕ) → k < length marks → IsDue layout.preds marks cursors k → IsIn flags k)
    → IsCoherent layout marks 0 cursors lowest flags 0
kept-new layout marks cursors lowest flags is all point_long begun low_long none flag_long ready = record {
  queue = record {
    placed = record {
      is_layout = is;
      within = omega arith;
      all_point = point_long;
      all_low = low_long;
      cursors_are = λ k l r. rw (begun k r) (record {
        low = omega arith;
        high = is.both.back.rising k r;
        met = λ p a b. absurd (omega (arith, a, b));
        stop = λ lt. rw (all (target layout.preds (begin layout.preds k))) (not-met (target layout.preds (begin layout.preds k)));
      });
      lowest_are = λ k l r. rw (none (get_or layout.starts.items k 0) (start-in k r)) (record {
        none = λ j lt e before. rw (all j) refl;
        here = λ lt. absurd (omega (arith, lt));
      });
    };
    all_flagged = flag_long;
    flagged = λ k l r due clean. ready k r due;
  };
  seen_are = record { onward = omega arith; valid = λ j low lt. absurd (omega (arith, lt)) };
}
  where
    not-met : (t : ℕ) → (nat_lt t 0 || false) ≡ false
    not-met t = grind arith

    start-in : (k : ℕ) → k < length marks → get_or layout.starts.items k 0 < length marks
    start-in k r = let s = is.all_start in let low = is.starts_are.low k (omega (arith, s, r)) in omega (arith, low, r)
