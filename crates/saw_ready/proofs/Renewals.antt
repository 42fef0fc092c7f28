-- Setting back what stands on a failed batch.
use Rattle.std.proofs.Common.{◌≡◌, ◌≢◌, ◌<◌, ◌≤◌, ◌+◌, ℕ, Bool, true, false, not, ◌&&◌, ◌||◌, nat_lt, List, length, get_or, refl, sym, ap, ◌∙◌, arith, ◌⊎◌, inl, inr, true≢false}
use Rattle.std.proofs.lemmas.Bool.{cases_Bool, cases_eq, cases_lt}
use Rattle.saw_ready.specs.Cursors.{AreCursors, AreFlagged, IsCursor, IsDue}
use Rattle.saw_ready.specs.Edges.{AreEarlier, IsAt, target}
use Rattle.saw_ready.specs.Hits.{AreHits, IsIn, IsSource}
use Rattle.saw_ready.specs.Layouts.{AreStarts}
use Rattle.saw_ready.specs.Lowest.{AreLowest}
use Rattle.saw_ready.specs.Marks.{NoneInvalid, is_invalid, is_met, is_valid, is_waiting}
use Rattle.saw_ready.specs.Resets.{AreClosed, AreRenewed, IsOut, IsPast, IsReset, past}
use Rattle.saw_ready.specs.Sets.{NoneIn}
use Rattle.saw_ready.specs.declared.edges.Edges.{Edges}
use Rattle.saw_ready.specs.declared.slot_state.SlotState.{SlotState}
use Rattle.saw_ready.specs.declared.slot_state.SlotState.TheVariants.{Waiting}
use Rattle.saw_ready.proofs.Batches.{mate-of}
use Rattle.saw_ready.proofs.Blocks.{in-before}

-- ---- at the start

module _ (preds : Edges) (starts : List ℕ) (marks closed : List SlotState) (first end : ℕ) (cursors : List ℕ) (flags hits : List Bool)
    (are : AreHits preds first end hits) (same : length hits ≡ length marks) (is_closed : AreClosed first end marks closed)
    (within : first ≤ end) where
  start-past : (i p : ℕ) → end ≤ i → i < length marks → IsOut hits i → IsAt preds i p
      → past hits closed end (target preds p) ≡ is_met marks first (target preds p)
  start-past i p l r out at =
      go (target preds p) (λ s. true≢false (sym (are.all i p l (rw same r) at s) ∙ out)) (cases_lt (target preds p) first)
      (cases_lt (target preds p) end) (cases_Bool (get_or hits (target preds p) false))
    where
      below : (t e : ℕ) (v : Bool) → t < e → (nat_lt t e || v) ≡ true
      below t e v lt = grind arith

      above : (t e : ℕ) (v : Bool) → e ≤ t → (nat_lt t e || v) ≡ v
      above t e v le = grind arith

      go : (t : ℕ) → (IsSource first end hits t → ⊥) → (t < first) ⊎ (first ≤ t) → (t < end) ⊎ (end ≤ t)
          → (get_or hits t false ≡ true) ⊎ (get_or hits t false ≡ false) → past hits closed end t ≡ is_met marks first t
      go t never f e (inl h) = absurd (never (inr h))
      go t never (inl f) e (inr h) =
          below t end (not (get_or hits t false) && is_valid (get_or closed t Waiting)) (omega (arith, f, within))
          ∙ sym (below t first (is_valid (get_or marks t Waiting)) f)
      go t never (inr f) (inl e) (inr h) = absurd (never (inl (f, e)))
      go t never (inr f) (inr e) (inr h) =
          above t end (not (get_or hits t false) && is_valid (get_or closed t Waiting)) e
          ∙ (ap (λ (b : Bool). not b && is_valid (get_or closed t Waiting)) h
          ∙ (ap is_valid (is_closed.outside t (inr e)) ∙ sym (above t first (is_valid (get_or marks t Waiting)) f)))

  pub renew-start : (lowest : List ℕ) → AreCursors preds marks first cursors → AreFlagged preds starts marks first cursors flags
      → AreLowest starts closed end lowest
      → length cursors ≡ length marks → length lowest ≡ length marks → length flags ≡ length marks
      → ((i : ℕ) → end ≤ i → i < length marks → end ≤ get_or starts i 0) → AreRenewed preds starts hits closed end end cursors lowest flags
  renew-start lowest points flagged lows pl ll fl bounds = record {
    points = pl ∙ sym is_closed.long;
    all_low = ll ∙ sym is_closed.long;
    long = fl ∙ sym is_closed.long;
    wait = λ i h lt. let a = (are.late i h).0 in absurd (omega (arith, a, lt));
    cursors_are = λ i l r o. elim o [
      | inl lt ↦ absurd (omega (arith, l, lt))
      | inr out ↦ cursor i l (rw is_closed.long at r) out (points i (omega (arith, within, l)) (rw is_closed.long at r))
    ];
    lowest_are = lows;
    flagged = λ i l r o due none. elim o [
      | inl lt ↦ absurd (omega (arith, l, lt))
      | inr out ↦
          flagged i (omega (arith, within, l)) (rw is_closed.long at r) (sym (ap is_waiting (is_closed.outside i (inr l))) ∙ due.0, due.1)
          (λ j a b. sym (ap is_invalid (is_closed.outside j (inr (before i j l (rw is_closed.long at r) a)))) ∙ none j a b)
    ];
  }
    where
      before : (i j : ℕ) → end ≤ i → i < length marks → get_or starts i 0 ≤ j → end ≤ j
      before i j l r a = let b = bounds i l r in omega (arith, a, b)

      cursor : (i : ℕ) → end ≤ i → i < length marks → IsOut hits i → IsCursor preds marks first i (get_or cursors i 0)
          → IsPast preds hits closed end i (get_or cursors i 0)
      cursor i l r out c = record {
        low = c.low;
        high = c.high;
        met = λ p a b. let h = c.high in start-past i p l r out (a, omega (arith, b, h)) ∙ c.met p a b;
        stop = λ lt. start-past i (get_or cursors i 0) l r out (c.low, lt) ∙ c.stop lt;
      }

-- ---- one more

module _ (preds : Edges) (starts : List ℕ) (hits : List Bool) (old new : List SlotState) (end from k : ℕ) (before after lows lows' : List ℕ)
    (flags flags' : List Bool)
    (earlier : AreEarlier preds (length old)) (starts_are : AreStarts starts) (all_start : length starts ≡ length old) (hit : IsIn hits k)
    (low : from ≤ k) (inside : k < length old) (none : NoneIn hits from k)
    (reset : IsReset preds starts old new end before after lows lows' flags flags' k)
    (so : AreRenewed preds starts hits old end from before lows flags) where
  was : (i : ℕ) → i ≢ k → (i < k + 1) ⊎ IsOut hits i → (i < from) ⊎ IsOut hits i
  was i diff (inr o) = inr o
  was i diff (inl lt) = elim (cases_lt i from) [ inl b ↦ inl b | inr a ↦ inr (none i a (omega (arith, lt, diff))) ]

  -- k itself counts for nothing, before and after
  past-same : (t : ℕ) → past hits new end t ≡ past hits old end t
  past-same t = elim (cases_eq t k) [
    | inl e ↦ rw (e, hit) refl
    | inr diff ↦ ap (λ (m : SlotState). nat_lt t end || (not (get_or hits t false) && is_valid m)) (reset.others t diff)
  ]

  own-past : (p : ℕ) → IsAt preds k p → past hits new end (target preds p) ≡ is_met new end (target preds p)
  own-past p at = go (target preds p) (earlier k p inside at) (cases_Bool (get_or hits (target preds p) false))
    where
      go : (t : ℕ) → t < k → (get_or hits t false ≡ true) ⊎ (get_or hits t false ≡ false) → past hits new end t ≡ is_met new end t
      go t lt (inl h) =
          let v : is_valid (get_or new t Waiting) ≡ false =
          ap is_valid (reset.others t (λ e. omega (arith, lt, e))) ∙ so.wait t h (in-before hits from k t none h lt) in
          rw (h, v) refl
      go t lt (inr h) = rw h refl

  pub renew-next : AreRenewed preds starts hits new end (k + 1) after lows' flags'
  renew-next = record {
    points = reset.points ∙ (so.points ∙ sym reset.long);
    all_low = reset.all_low ∙ (so.all_low ∙ sym reset.long);
    long = reset.all_flagged ∙ (so.long ∙ sym reset.long);
    wait = λ i h lt. elim (cases_eq i k) [
      | inl e ↦ rw (e, reset.at) refl
      | inr diff ↦ ap is_valid (reset.others i diff) ∙ so.wait i h (in-before hits from k i none h (omega (arith, lt, diff)))
    ];
    cursors_are = λ i l r o. cursor i l (rw reset.long at r) o (cases_eq i k);
    lowest_are = reset.lowest_are;
    flagged = λ i l r o due none. flag i l (rw reset.long at r) o due none (cases_eq i k);
  }
    where
      cursor : (i : ℕ) → end ≤ i → i < length old → (i < k + 1) ⊎ IsOut hits i → (i ≡ k) ⊎ (i ≢ k)
          → IsPast preds hits new end i (get_or after i 0)
      cursor i l r o (inl e) =
          let c = reset.cursor in
          let h = c.high in
          rw e (record {
            low = c.low;
            high = c.high;
            met = λ p a b. own-past p (a, omega (arith, b, h)) ∙ c.met p a b;
            stop = λ lt. own-past (get_or after k 0) (c.low, lt) ∙ c.stop lt;
          })
      cursor i l r o (inr diff) =
          let c = so.cursors_are i l r (was i diff o) in
          rw (reset.other_cursors i diff) (record {
            low = c.low;
            high = c.high;
            met = λ p a b. past-same (target preds p) ∙ c.met p a b;
            stop = λ lt. past-same (target preds (get_or before i 0)) ∙ c.stop lt;
          })

      flag : (i : ℕ) → end ≤ i → i < length old → (i < k + 1) ⊎ IsOut hits i → IsDue preds new after i
          → NoneInvalid new (get_or starts i 0) i → (i ≡ k) ⊎ (i ≢ k) → IsIn flags' i
      flag i l r o due clean (inl e) = rw e (reset.flag (rw e at due.1))
      flag i l r o due clean (inr diff) =
          other (cases_Bool (is_invalid (get_or old k Waiting))) (cases_lt k (get_or starts i 0)) (cases_lt k i)
        where
          older : ((get_or starts i 0 ≤ k) → (k < i) → is_invalid (get_or old k Waiting) ≡ false) → IsIn flags' i
          older fine =
              reset.kept i
              (so.flagged i l r (was i diff o)
              (sym (ap is_waiting (reset.others i diff)) ∙ due.0, sym (reset.other_cursors i diff) ∙ due.1)
              (λ j a b. elim (cases_eq j k) [
                | inl e ↦ rw e (fine (rw e at a) (rw e at b))
                | inr apart ↦ sym (ap is_invalid (reset.others j apart)) ∙ clean j a b
              ]))

          other : (is_invalid (get_or old k Waiting) ≡ true) ⊎ (is_invalid (get_or old k Waiting) ≡ false)
              → (k < get_or starts i 0) ⊎ (get_or starts i 0 ≤ k) → (k < i) ⊎ (i ≤ k) → IsIn flags' i
          other (inr v) s t = older (λ a b. v)
          other (inl v) (inl s) t = older (λ a b. absurd (omega (arith, s, a)))
          other (inl v) (inr s) (inr t) = older (λ a b. absurd (omega (arith, t, b)))
          other (inl v) (inr s) (inl t) =
              reset.mates v i t r (sym (mate-of starts k i starts_are (rw all_start r) s (omega (arith, t)))) due clean

-- ---- at the end

module _ (preds : Edges) (starts : List ℕ) (hits : List Bool) (marks : List SlotState) (end from : ℕ) (cursors lowest : List ℕ)
    (flags : List Bool)
    (none : NoneIn hits from (length hits)) (in_range : (i : ℕ) → IsIn hits i → i < length hits)
    (so : AreRenewed preds starts hits marks end from cursors lowest flags) where
  all-done : (i : ℕ) → (i < from) ⊎ IsOut hits i
  all-done i = elim (cases_Bool (get_or hits i false)) [
    | inl h ↦ inl (in-before hits from (length hits) i none h (in_range i h))
    | inr o ↦ inr o
  ]

  end-past : (t : ℕ) → is_met marks end t ≡ past hits marks end t
  end-past t = elim (cases_Bool (get_or hits t false)) [
    | inr o ↦ rw o refl
    | inl h ↦ rw (h, so.wait t h (in-before hits from (length hits) t none h (in_range t h))) refl
  ]

  pub renew-cursors : AreCursors preds marks end cursors
  renew-cursors i l r =
      let c = so.cursors_are i l r (all-done i) in
      record {
        low = c.low;
        high = c.high;
        met = λ p a b. end-past (target preds p) ∙ c.met p a b;
        stop = λ lt. end-past (target preds (get_or cursors i 0)) ∙ c.stop lt;
      }

  pub renew-flags : AreFlagged preds starts marks end cursors flags
  renew-flags i l r due clean = so.flagged i l r (all-done i) due clean

-- ---- marks

pub waits-next : (hits : List Bool) (old new : List SlotState) (from k : ℕ) → NoneIn hits from k → get_or new k Waiting ≡ Waiting
    → ((i : ℕ) → i ≢ k → get_or new i Waiting ≡ get_or old i Waiting)
    → ((i : ℕ) → IsIn hits i → i < from → get_or old i Waiting ≡ Waiting) → (i : ℕ) → IsIn hits i → i < k + 1
    → get_or new i Waiting ≡ Waiting
waits-next hits old new from k none at others so i h lt = elim (cases_eq i k) [
  | inl e ↦ rw e at
  | inr diff ↦ others i diff ∙ so i h (in-before hits from k i none h (omega (arith, lt, diff)))
]

pub others-next : (hits : List Bool) (first old new : List SlotState) (k : ℕ) → IsIn hits k
    → ((i : ℕ) → i ≢ k → get_or new i Waiting ≡ get_or old i Waiting)
    → ((i : ℕ) → IsOut hits i → get_or old i Waiting ≡ get_or first i Waiting) → (i : ℕ) → IsOut hits i
    → get_or new i Waiting ≡ get_or first i Waiting
others-next hits first old new k hit others so i o = elim (cases_eq i k) [
  | inl e ↦ absurd (true≢false (sym hit ∙ (rw e at o)))
  | inr diff ↦ others i diff ∙ so i o
]
