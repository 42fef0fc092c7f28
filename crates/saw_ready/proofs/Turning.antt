-- Edges while they are turned.
use Rattle.std.proofs.Common.{◌≡◌, ◌≢◌, ◌<◌, ◌≤◌, ◌+◌, ℕ, List, length, get_or, set, sym, ◌∙◌, arith, ◌⊎◌, inl, inr, get_or-set_same, get_or-set_other, length-set}
use Rattle.std.proofs.lemmas.Bool.{cases_eq, cases_lt}
use Rattle.std.proofs.lemmas.List.{get_or_read}
use Rattle.saw_ready.specs.Edges.{AreEdges, AreTurned, IsAt, begin, finish, target}
use Rattle.saw_ready.specs.Successors.{AreFilled, left, start_of}
use Rattle.saw_ready.specs.declared.edges.Edges.{Edges}
use Rattle.saw_ready.proofs.Counts.{begin_mono, left-hit, left-miss, left-none, start_of-next, start_of_mono}

-- ---- nothing is filled

pub filled-none : (preds : Edges) (n : ℕ) (next to : List ℕ) → length next ≡ n → length to ≡ start_of preds n n
    → ((j : ℕ) → j < n → get_or next j 0 ≡ start_of preds n j) → AreFilled preds n 0 (begin preds 0) next to
filled-none preds n next to long wide are = record {
  long = long;
  wide = rw wide (omega arith);
  low = λ j lt. rw (are j lt) (omega arith);
  rest = λ j lt. rw (are j lt) (sym (start_of-next preds n j));
  backed = λ j q lt a b. absurd (let e = are j lt in omega (arith, a, b, e));
  listed = λ i r lt at before. absurd (never i r at before);
}
  where
    never : (i r : ℕ) → IsAt preds i r → (i < 0) ⊎ ((i ≡ 0) × (r < begin preds 0)) → ⊥
    never i r at (inl lt) = omega (arith, lt)
    never i r at (inr b) = let low : begin preds 0 ≤ r = rw b.0 at at.0 in let lt = b.1 in omega (arith, low, lt)

-- ---- one place more

module _ (preds : Edges) (n k place j q : ℕ) (next to : List ℕ) (edges : AreEdges preds n) (inside : k < n) (at : IsAt preds k place)
    (j_is : j ≡ target preds place) (q_is : q ≡ get_or next j q) (so : AreFilled preds n k place next to) where
  in_all : place < begin preds n
  in_all = let h = begin_mono preds n (k + 1) n edges (omega arith) (omega arith) in let lt = at.1 in omega (arith, h, lt)

  is_j : target preds place ≡ j
  is_j = sym j_is

  low_target : j < n
  low_target = rw is_j at (edges.below k place inside at)

  is_q : get_or next j 0 ≡ q
  is_q = sym (get_or_read next j q (rw so.long low_target) q_is 0)

  fits : q < start_of preds n (j + 1)
  fits = let r = so.rest j low_target in let h = left-hit preds n j place in_all is_j in omega (arith, r, h, is_q)

  pub room : q < length to
  room =
      let low = low_target in
      let h = start_of_mono preds n (j + 1) n (omega (arith, low)) in
      let f = fits in
      let w = so.wide in
      omega (arith, h, f, w)

  -- places of others are others
  apart : (i p : ℕ) → i < n → start_of preds n i ≤ p → p < get_or next i 0 → i ≢ j → p ≢ q
  apart i p lt low high not e = elim (cases_lt i j) [
    | inl before ↦
        let a = so.rest i lt in
        let b = start_of_mono preds n (i + 1) j (omega (arith, before)) in
        let c = so.low j low_target in
        absurd (omega (arith, a, b, c, high, e, is_q))
    | inr later ↦
        let a = start_of_mono preds n (j + 1) i (omega (arith, later, not)) in
        let f = fits in
        absurd (omega (arith, a, f, low, e))
  ]

  -- what stood behind a number still does
  stands : (i p : ℕ) → i < n → start_of preds n i ≤ p → p < get_or next i 0
      → p < get_or (set next j (q + 1)) i 0 × (get_or (set to q k) p 0 ≡ get_or to p 0)
  stands i p lt low high = elim (cases_eq i j) [
    | inl e ↦
        let before : p < q = rw (e, is_q) at high in (
          rw (e, get_or-set_same next j (q + 1) 0 (rw so.long low_target)) (omega (arith, before)),
          get_or-set_other to q p k 0 (λ s. omega (arith, before, s)),
        )
    | inr diff ↦ (rw (get_or-set_other next j i (q + 1) 0 diff) high, get_or-set_other to q p k 0 (apart i p lt low high diff))
  ]

  put-low : (i : ℕ) → i < n → start_of preds n i ≤ get_or (set next j (q + 1)) i 0
  put-low i lt = elim (cases_eq i j) [
    | inl e ↦ (let l = so.low j low_target in rw (e, get_or-set_same next j (q + 1) 0 (rw so.long low_target)) (omega (arith, l, is_q)))
    | inr diff ↦ rw (get_or-set_other next j i (q + 1) 0 diff) (so.low i lt)
  ]

  put-rest : (i : ℕ) → i < n → get_or (set next j (q + 1)) i 0 + left preds n i (place + 1) ≡ start_of preds n (i + 1)
  put-rest i lt = elim (cases_eq i j) [
    | inl e ↦
        let r = so.rest j low_target in
        let h = left-hit preds n j place in_all is_j in
        rw (e, get_or-set_same next j (q + 1) 0 (rw so.long low_target)) (omega (arith, r, h, is_q))
    | inr diff ↦ rw (get_or-set_other next j i (q + 1) 0 diff, ← left-miss preds n i place in_all (λ e. diff (sym e ∙ is_j))) (so.rest i lt)
  ]

  put-backed : (i p : ℕ) → i < n → start_of preds n i ≤ p → p < get_or (set next j (q + 1)) i 0
      → (get_or (set to q k) p 0 < n) × ((r : ℕ) × IsAt preds (get_or (set to q k) p 0) r × (target preds r ≡ i))
  put-backed i p lt low high = go (cases_eq p q) (cases_eq i j)
    where
      old : p ≢ q → p < get_or next i 0
          → (get_or (set to q k) p 0 < n) × ((r : ℕ) × IsAt preds (get_or (set to q k) p 0) r × (target preds r ≡ i))
      old not before = rw (get_or-set_other to q p k 0 not) (so.backed i p lt low before)

      go : (p ≡ q) ⊎ (p ≢ q) → (i ≡ j) ⊎ (i ≢ j)
          → (get_or (set to q k) p 0 < n) × ((r : ℕ) × IsAt preds (get_or (set to q k) p 0) r × (target preds r ≡ i))
      go (inl e) (inl s) = rw (e, get_or-set_same to q k 0 room) (inside, (place, at, is_j ∙ sym s))
      go (inl e) (inr diff) =
          let h : p < get_or next i 0 = rw (get_or-set_other next j i (q + 1) 0 diff) at high in absurd (apart i p lt low h diff e)
      go (inr not) (inl s) =
          let h : p < q + 1 = rw (s, get_or-set_same next j (q + 1) 0 (rw so.long low_target)) at high in
          old not (rw (s, is_q) (omega (arith, h, not)))
      go (inr not) (inr diff) = old not (rw (get_or-set_other next j i (q + 1) 0 diff) at high)

  put-listed : (i r : ℕ) → i < n → IsAt preds i r → (i < k) ⊎ ((i ≡ k) × (r < place + 1))
      → (p : ℕ) × (start_of preds n (target preds r) ≤ p) × (p < get_or (set next j (q + 1)) (target preds r) 0)
      × (get_or (set to q k) p 0 ≡ i)
  put-listed i r lt is before = go before
    where
      old : (i < k) ⊎ ((i ≡ k) × (r < place))
          → (p : ℕ) × (start_of preds n (target preds r) ≤ p) × (p < get_or (set next j (q + 1)) (target preds r) 0)
          × (get_or (set to q k) p 0 ≡ i)
      old b =
          let h = so.listed i r lt is b in
          let s = stands (target preds r) h.0 (edges.below i r lt is) h.1 h.2 in
          (h.0, h.1, s.0, s.1 ∙ h.3)

      here : i ≡ k → r ≡ place
          → (p : ℕ) × (start_of preds n (target preds r) ≤ p) × (p < get_or (set next j (q + 1)) (target preds r) 0)
          × (get_or (set to q k) p 0 ≡ i)
      here e s =
          let l = so.low j low_target in
          rw (s, is_j) (
            q,
            omega (arith, l, is_q),
            rw (get_or-set_same next j (q + 1) 0 (rw so.long low_target)) (omega arith),
            get_or-set_same to q k 0 room ∙ sym e,
          )

      go : (i < k) ⊎ ((i ≡ k) × (r < place + 1))
          → (p : ℕ) × (start_of preds n (target preds r) ≤ p) × (p < get_or (set next j (q + 1)) (target preds r) 0)
          × (get_or (set to q k) p 0 ≡ i)
      go (inl b) = old (inl b)
      go (inr b) = elim (cases_eq r place) [
        | inl s ↦ here b.0 s
        | inr diff ↦ (let c = b.1 in old (inr (b.0, omega (arith, c, diff))))
      ]

  pub filled-put : AreFilled preds n k (place + 1) (set next j (q + 1)) (set to q k)
  filled-put = record {
    long = length-set next j (q + 1) ∙ so.long;
    wide = rw (length-set to q k) so.wide;
    low = put-low;
    rest = put-rest;
    backed = put-backed;
    listed = put-listed;
  }

-- ---- the next number

pub filled-row : (preds : Edges) (n k : ℕ) (next to : List ℕ) → AreFilled preds n k (finish preds k) next to
    → AreFilled preds n (k + 1) (begin preds (k + 1)) next to
filled-row preds n k next to so = record {
  long = so.long;
  wide = so.wide;
  low = so.low;
  rest = so.rest;
  backed = so.backed;
  listed = λ i r lt at before. so.listed i r lt at (go i r at before);
}
  where
    go : (i r : ℕ) → IsAt preds i r → (i < k + 1) ⊎ ((i ≡ k + 1) × (r < begin preds (k + 1))) → (i < k) ⊎ ((i ≡ k) × (r < finish preds k))
    go i r at (inl lt) = elim (cases_eq i k) [ inl e ↦ inr (e, rw e at at.1) | inr diff ↦ inl (omega (arith, lt, diff)) ]
    go i r at (inr b) = let low : begin preds (k + 1) ≤ r = rw b.0 at at.0 in let lt = b.1 in absurd (omega (arith, low, lt))

-- ---- the end

module _ (preds succs : Edges) (n : ℕ) (next : List ℕ) (edges : AreEdges preds n) (long : length succs.from.items ≡ n + 1)
    (from : (j : ℕ) → j ≤ n → begin succs j ≡ start_of preds n j) (so : AreFilled preds n n (begin preds n) next succs.to.items) where
  all-there : (j : ℕ) → j < n → get_or next j 0 ≡ finish succs j
  all-there j lt =
      let r =
      so.rest j lt in let z =
      left-none preds n j (begin preds n) (omega arith) in let f = from (j + 1) (omega (arith, lt)) in omega (arith, r, z, f)

  back : (j q : ℕ) → j < n → IsAt succs j q → (target succs q < n) × ((r : ℕ) × IsAt preds (target succs q) r × (target preds r ≡ j))
  back j q lt at = so.backed j q lt (rw (from j (omega (arith, lt))) at at.0) (rw (all-there j lt) at.1)

  pub turned-end : AreTurned preds succs n
  turned-end = record {
    forth = record {
      long = long;
      rising = λ j lt. (let l = so.low j lt in let e = all-there j lt in let f = from j (omega (arith, lt)) in omega (arith, l, e, f));
      within =
          λ j lt. (let f = from (j + 1) (omega (arith, lt)) in let m = start_of_mono preds n (j + 1) n
          (omega (arith, lt)) in let w = so.wide in omega (arith, f, m, w));
      below = λ j q lt at. (back j q lt at).0;
    };
    backed = λ j q lt at. (back j q lt at).1;
    listed = λ k p lt at. go k p lt at;
  }
    where
      go : (k p : ℕ) → k < n → IsAt preds k p → (q : ℕ) × IsAt succs (target preds p) q × (target succs q ≡ k)
      go k p lt at =
          let h = so.listed k p lt at (inl lt) in
          let low = edges.below k p lt at in
          let a = h.1 in
          let f = from (target preds p) (omega (arith, low)) in
          let e = all-there (target preds p) low in
          let b = h.2 in
          (h.0, (omega (arith, a, f), omega (arith, b, e)), h.3)
