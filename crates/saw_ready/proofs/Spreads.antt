-- How what stands on a batch is found.
use Rattle.std.proofs.Common.{◌≡◌, ◌≢◌, ◌<◌, ◌≤◌, ◌+◌, ℕ, Bool, true, false, List, length, set, Some, refl, sym, ◌∙◌, arith, ◌⊎◌, inl, inr, true≢false, get_or-set_same, get_or-set_other, length-set}
use Rattle.std.proofs.lemmas.Bool.{cases_eq, cases_lt}
use Rattle.saw_ready.specs.Sets.{IsEmpty, IsNext, NoneIn}
use Rattle.saw_ready.specs.Edges.{IsAt, begin, finish, target}
use Rattle.saw_ready.specs.Hits.{AreHits, AreHitsTo, IsIn, IsSource, IsSpread}
use Rattle.saw_ready.specs.Layouts.{AreBoth}
use Rattle.saw_ready.specs.declared.edges.Edges.{Edges}

-- ---- one row

pub spread-none : (succs : Edges) (end m : ℕ) (hits : List Bool) → IsSpread succs end m (begin succs m) hits hits
spread-none succs end m hits = record { long = refl; kept = λ i h. h; new_ones = λ i h. inl h; all = λ q l r e. absurd (omega arith) }

in-set : (hits : List Bool) (k i : ℕ) → k < length hits → IsIn hits i → IsIn (set hits k true) i
in-set hits k i lt h = elim (cases_eq i k) [
  | inl e ↦ rw e (get_or-set_same hits k true false lt)
  | inr n ↦ get_or-set_other hits k i true false n ∙ h
]

pub spread-put : (succs : Edges) (end m q k : ℕ) (old mid : List Bool) → IsAt succs m q → target succs q ≡ k → k < length old → end ≤ k
    → IsSpread succs end m q old mid → IsSpread succs end m (q + 1) old (set mid k true)
spread-put succs end m q k old mid at is lt le s = record {
  long = length-set mid k true ∙ s.long;
  kept = λ i h. in-set mid k i inside (s.kept i h);
  new_ones = λ i h. go i h (cases_eq i k);
  all = λ r l x e. last r l e (cases_eq r q) x;
}
  where
    inside : k < length mid
    inside = rw s.long lt

    go : (i : ℕ) → IsIn (set mid k true) i → (i ≡ k) ⊎ (i ≢ k)
        → IsIn old i ⊎ ((end ≤ i) × (i < length old) × ((q : ℕ) × IsAt succs m q × (target succs q ≡ i)))
    go i h (inl e) = inr (rw e le, rw e lt, (q, at, is ∙ sym e))
    go i h (inr n) = s.new_ones i (sym (get_or-set_other mid k i true false n) ∙ h)

    last : (r : ℕ) → begin succs m ≤ r → end ≤ target succs r → (r ≡ q) ⊎ (r ≢ q) → r < q + 1 → IsIn (set mid k true) (target succs r)
    last r l e (inl x) lt = rw (x, is) (get_or-set_same mid k true false inside)
    last r l e (inr n) lt = in-set mid k (target succs r) inside (s.all r l (omega (arith, lt, n)) e)

pub spread-pass : (succs : Edges) (end m q k : ℕ) (old mid : List Bool) → target succs q ≡ k → k < end → IsSpread succs end m q old mid
    → IsSpread succs end m (q + 1) old mid
spread-pass succs end m q k old mid is lt s = record {
  long = s.long;
  kept = s.kept;
  new_ones = s.new_ones;
  all = λ r l x e. last r l e (cases_eq r q) x;
}
  where
    last : (r : ℕ) → begin succs m ≤ r → end ≤ target succs r → (r ≡ q) ⊎ (r ≢ q) → r < q + 1 → IsIn mid (target succs r)
    last r l e (inl x) y = let f : end ≤ k = rw (x, is) at e in absurd (omega (arith, f, lt))
    last r l e (inr n) y = s.all r l (omega (arith, y, n)) e

-- ---- all rows

pub hits-none : (preds : Edges) (first end : ℕ) (hits : List Bool) → IsEmpty hits → AreHitsTo preds first end first end hits
hits-none preds first end hits empty = record {
  late = λ i h. absurd (true≢false (sym h ∙ empty i));
  cause = λ i h. absurd (true≢false (sym h ∙ empty i));
  all =
      λ i p l r at s. elim s [
        | inl t ↦ (let a = t.0 in let b = t.1 in absurd (omega (arith, a, b)))
        | inr t ↦ absurd (true≢false (sym t.1 ∙ empty (target preds p)))
      ];
}

module _ (preds succs : Edges) (first end : ℕ) (old new : List Bool) (both : AreBoth preds succs (length old)) where
  lifted : ((i : ℕ) → IsIn old i → IsIn new i) → (j : ℕ) → IsSource first end old j → IsSource first end new j
  lifted kept j (inl s) = inl s
  lifted kept j (inr s) = inr (kept j s)

  late-next : (m from k : ℕ) → AreHitsTo preds first end m from old → IsSpread succs end k (finish succs k) old new → (i : ℕ) → IsIn new i
      → (end ≤ i) × (i < length new)
  late-next m from k so s i h = elim (s.new_ones i h) [
    | inl o ↦ (let a = so.late i o in (a.0, rw s.long a.1))
    | inr o ↦ (o.0, rw s.long o.1)
  ]

  cause-next : (m from k : ℕ) → k < length old → AreHitsTo preds first end m from old → IsSpread succs end k (finish succs k) old new
      → IsSource first end new k
      → (i : ℕ) → IsIn new i → (p : ℕ) × IsAt preds i p × IsSource first end new (target preds p)
  cause-next m from k lt so s source i h = elim (s.new_ones i h) [
    | inl o ↦ (let c = so.cause i o in (c.0, c.1, lifted s.kept (target preds c.0) c.2))
    | inr o ↦ by_row o.2
  ]
    where
      by_row : ((q : ℕ) × IsAt succs k q × (target succs q ≡ i)) → (p : ℕ) × IsAt preds i p × IsSource first end new (target preds p)
      by_row (q, at, e) = let b = both.turned.backed k q lt at in (b.0, rw e at b.1, rw b.2 source)

  -- k's row was followed
  row : (k : ℕ) → IsSpread succs end k (finish succs k) old new → (i p : ℕ) → end ≤ i → i < length old → IsAt preds i p
      → target preds p ≡ k → IsIn new i
  row k s i p l r at e =
      let x = both.turned.listed i p r at in
      let low : begin succs k ≤ x.0 = rw e at (x.1).0 in
      let high : x.0 < finish succs k = rw e at (x.1).1 in
      rw x.2 at (s.all x.0 low high (rw x.2 l))

  pub hits-member : (m : ℕ) → first ≤ m → m < end → m < length old → AreHitsTo preds first end m end old
      → IsSpread succs end m (finish succs m) old new → AreHitsTo preds first end (m + 1) end new
  hits-member m low high lt so s = record {
    late = late-next m end m so s;
    cause = cause-next m end m lt so s (inl (low, high));
    all = λ i p l r at source. go i p l (rw (← s.long) r) at source;
  }
    where
      by_member : (i p : ℕ) → end ≤ i → i < length old → IsAt preds i p → first ≤ target preds p → target preds p < m + 1
          → (target preds p ≡ m) ⊎ (target preds p ≢ m) → IsIn new i
      by_member i p l r at a b (inl e) = row m s i p l r at e
      by_member i p l r at a b (inr n) = s.kept i (so.all i p l r at (inl (a, omega (arith, b, n))))

      go : (i p : ℕ) → end ≤ i → i < length old → IsAt preds i p
          → ((first ≤ target preds p) × (target preds p < m + 1)) ⊎ ((target preds p < end) × IsIn new (target preds p)) → IsIn new i
      go i p l r at (inl t) = by_member i p l r at t.0 t.1 (cases_eq (target preds p) m)
      go i p l r at (inr t) = let a = (late-next m end m so s (target preds p) t.1).0 in let b = t.0 in absurd (omega (arith, a, b))

  pub hits-hit : (from k : ℕ) → IsNext old from (length old) (Some k) → AreHitsTo preds first end end from old
      → IsSpread succs end k (finish succs k) old new → AreHitsTo preds first end end (k + 1) new
  hits-hit from k next so s = record {
    late = late-next end from k so s;
    cause = cause-next end from k next.1 so s (inr (s.kept k next.2));
    all = λ i p l r at source. go i p l (rw (← s.long) r) at source;
  }
    where
      -- what was added comes after k
      later : (t : ℕ) → t < k + 1 → IsIn new t → IsIn old t
      later t lt h = elim (s.new_ones t h) [
        | inl o ↦ o
        | inr o ↦ absurd (after o.2)
      ]
        where
          after : ((q : ℕ) × IsAt succs k q × (target succs q ≡ t)) → ⊥
          after (q, at, e) =
              let b = both.turned.backed k q next.1 at in
              let x = both.earlier (target succs q) b.0 (both.turned.forth.below k q next.1 at) b.1 in
              let y : k < t = rw (← e, ← b.2) x in
              omega (arith, y, lt)

      by_hit : (i p : ℕ) → end ≤ i → i < length old → IsAt preds i p → target preds p < k + 1 → IsIn old (target preds p)
          → (target preds p < from) ⊎ (from ≤ target preds p) → (target preds p ≡ k) ⊎ (target preds p ≢ k) → IsIn new i
      by_hit i p l r at lt h (inl b) e = s.kept i (so.all i p l r at (inr (b, h)))
      by_hit i p l r at lt h (inr a) (inl e) = row k s i p l r at e
      by_hit i p l r at lt h (inr a) (inr n) = absurd (true≢false (sym h ∙ next.3 (target preds p) a (omega (arith, lt, n))))

      go : (i p : ℕ) → end ≤ i → i < length old → IsAt preds i p
          → ((first ≤ target preds p) × (target preds p < end)) ⊎ ((target preds p < k + 1) × IsIn new (target preds p)) → IsIn new i
      go i p l r at (inl t) = s.kept i (so.all i p l r at (inl t))
      go i p l r at (inr t) =
          by_hit i p l r at t.0 (later (target preds p) t.0 t.1) (cases_lt (target preds p) from) (cases_eq (target preds p) k)

pub hits-end : (preds : Edges) (first end from : ℕ) (hits : List Bool) → NoneIn hits from (length hits)
    → AreHitsTo preds first end end from hits → AreHits preds first end hits
hits-end preds first end from hits none so = record {
  late = so.late;
  cause = so.cause;
  all =
      λ i p l r at s. so.all i p l r at
      (elim s [ inl t ↦ inl t | inr t ↦ inr (past (target preds p) t (cases_lt (target preds p) from), t) ]);
}
  where
    past : (t : ℕ) → IsIn hits t → (t < from) ⊎ (from ≤ t) → t < from
    past t h (inl b) = b
    past t h (inr a) = absurd (true≢false (sym h ∙ none t a (so.late t h).1))
