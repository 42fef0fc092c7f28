-- What waited for j goes on.
use Rattle.std.proofs.Common.{◌≡◌, ◌≢◌, ◌<◌, ◌≤◌, ◌+◌, ℕ, Bool, true, false, nat_lt, List, length, get_or, set, refl, sym, ap, ◌∙◌, arith, ◌⊎◌, inl, inr, get_or-set_same, get_or-set_other, length-set}
use Rattle.std.proofs.lemmas.Bool.{cases_eq, or_right}
use Rattle.saw_ready.specs.Cursors.{AreCursors, AreFlagged, AreHalfCursors, IsCursor, IsDue, IsHalfCursor, IsLater, IsRefreshed}
use Rattle.saw_ready.specs.Edges.{AreTurned, begin, finish, target}
use Rattle.saw_ready.specs.Marks.{is_met, is_valid}
use Rattle.saw_ready.specs.declared.edges.Edges.{Edges}
use Rattle.saw_ready.specs.declared.slot_state.SlotState.{SlotState}
use Rattle.saw_ready.specs.declared.slot_state.SlotState.TheVariants.{Valid, Waiting}
use Rattle.saw_ready.proofs.MarkFacts.{met-other}

pub half-start : (preds succs : Edges) (marks : List SlotState) (first : ℕ) (cursors : List ℕ) (j : ℕ) → j < length marks
    → AreTurned preds succs (length marks)
    → AreCursors preds marks first cursors → AreHalfCursors preds succs (set marks j Valid) first j (begin succs j) cursors
half-start preds succs marks first cursors j inside turned are k l r =
    let lt : k < length marks = rw (length-set marks j Valid) at r in
    let c = are k l lt in
    record {
      low = c.low;
      high = c.high;
      met = λ p a b. more (target preds p) (c.met p a b);
      stop = λ s. go s lt (c.stop s) c.low (cases_eq (target preds (get_or cursors k 0)) j);
    }
  where
    by_valid : (i : ℕ) → is_valid (get_or (set marks j Valid) i Waiting) ≡ true → is_met (set marks j Valid) first i ≡ true
    by_valid i e = or_right (nat_lt i first) (is_valid (get_or (set marks j Valid) i Waiting)) e

    more : (i : ℕ) → is_met marks first i ≡ true → is_met (set marks j Valid) first i ≡ true
    more i e = elim (cases_eq i j) [
      | inl q ↦ by_valid i (rw (q, get_or-set_same marks j Valid Waiting inside) refl)
      | inr diff ↦ met-other marks j Valid inside first i diff ∙ e
    ]

    go : get_or cursors k 0 < finish preds k → k < length marks → is_met marks first (target preds (get_or cursors k 0)) ≡ false
        → begin preds k ≤ get_or cursors k 0
        → (target preds (get_or cursors k 0) ≡ j) ⊎ (target preds (get_or cursors k 0) ≢ j)
        → (is_met (set marks j Valid) first (target preds (get_or cursors k 0)) ≡ false)
        ⊎ ((target preds (get_or cursors k 0) ≡ j) × IsLater succs j (begin succs j) k)
    go s lt e low (inl q) =
        let at = turned.listed k (get_or cursors k 0) lt (low, s) in
        inr (q, (at.0, rw q at (at.1).0, rw q at (at.1).1, at.2))
    go s lt e low (inr diff) = inl (met-other marks j Valid inside first (target preds (get_or cursors k 0)) diff ∙ e)

later-next : (succs : Edges) (j q k i : ℕ) → target succs q ≡ k → i ≢ k → IsLater succs j q i → IsLater succs j (q + 1) i
later-next succs j q k i at diff (r, l, lt, e) = elim (cases_eq r q) [
  | inl s ↦ absurd (diff (sym e ∙ (ap (target succs) s ∙ at)))
  | inr m ↦ (r, omega (arith, l, m), lt, e)
]

module _ (preds succs : Edges) (marks : List SlotState) (first j q k : ℕ) (is_k : target succs q ≡ k) where
  half-other : (i c : ℕ) → i ≢ k → IsHalfCursor preds succs marks first j q i c → IsHalfCursor preds succs marks first j (q + 1) i c
  half-other i c diff h = record {
    low = h.low;
    high = h.high;
    met = h.met;
    stop = λ lt. elim (h.stop lt) [ inl e ↦ inl e | inr t ↦ inr (t.0, later-next succs j q k i is_k diff t.1) ];
  }

  pub half-stay : (cursors : List ℕ) → ((first ≤ k) × (get_or cursors k 0 < finish preds k) × (target preds (get_or cursors k 0) ≡ j) → ⊥)
      → AreHalfCursors preds succs marks first j q cursors → AreHalfCursors preds succs marks first j (q + 1) cursors
  half-stay cursors not are i l r = elim (cases_eq i k) [
    | inl e ↦
        let h = are i l r in
        record {
          low = h.low;
          high = h.high;
          met = h.met;
          stop = λ lt. elim (h.stop lt) [ inl f ↦ inl f | inr t ↦ absurd (not (rw e at l, rw e at lt, rw e at t.0)) ];
        }
    | inr diff ↦ half-other i (get_or cursors i 0) diff (are i l r)
  ]

  pub half-go : (cursors : List ℕ) (c : ℕ) → k < length cursors → IsCursor preds marks first k c
      → AreHalfCursors preds succs marks first j q cursors → AreHalfCursors preds succs marks first j (q + 1) (set cursors k c)
  half-go cursors c lt is are i l r = elim (cases_eq i k) [
    | inl e ↦ rw (e, get_or-set_same cursors k c 0 lt) (record { low = is.low; high = is.high; met = is.met; stop = λ s. inl (is.stop s) })
    | inr diff ↦ rw (get_or-set_other cursors k i c 0 diff) (half-other i (get_or cursors i 0) diff (are i l r))
  ]

pub flagged-go : (preds : Edges) (starts : List ℕ) (marks : List SlotState) (first : ℕ) (cursors : List ℕ) (k c : ℕ) (flags flags' : List Bool)
    → IsRefreshed (IsDue preds marks (set cursors k c) k) k flags flags' → AreFlagged preds starts marks first cursors flags
    → AreFlagged preds starts marks first (set cursors k c) flags'
flagged-go preds starts marks first cursors k c flags flags' fresh are i l r due none = elim (cases_eq i k) [
  | inl e ↦ rw e (fresh.at (rw e at due))
  | inr diff ↦ fresh.others i (are i l r (due.0, rw (get_or-set_other cursors k i c 0 diff) at due.1) none)
]

pub half-end : (preds succs : Edges) (marks : List SlotState) (first j q : ℕ) (cursors : List ℕ) → finish succs j ≤ q
    → AreHalfCursors preds succs marks first j q cursors → AreCursors preds marks first cursors
half-end preds succs marks first j q cursors past are k l r =
    let h = are k l r in
    record {
      low = h.low;
      high = h.high;
      met = h.met;
      stop = λ lt. elim (h.stop lt) [ inl f ↦ f | inr t ↦ absurd (never t.1) ];
    }
  where
    never : IsLater succs j q k → ⊥
    never (r, a, b, e) = omega (arith, past, a, b)
