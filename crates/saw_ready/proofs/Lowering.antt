-- The lowest invalid member of each batch, at each change of marks.
use Rattle.std.proofs.Common.{◌≡◌, ◌≢◌, ◌<◌, ◌≤◌, ℕ, true, false, min, List, length, get_or, set, refl, sym, ap, ◌∙◌, arith, ◌⊎◌, inl, inr, true≢false, get_or-set_same, get_or-set_other, length-set}
use Rattle.std.proofs.lemmas.Bool.{cases_eq, cases_lt}
use Rattle.saw_ready.specs.Layouts.{AreStarts}
use Rattle.saw_ready.specs.Lowest.{AreLowest, IsLowest, IsNextInvalid}
use Rattle.saw_ready.specs.Marks.{is_invalid}
use Rattle.saw_ready.specs.Resets.{AreClosed}
use Rattle.saw_ready.specs.declared.slot_state.SlotState.{SlotState}
use Rattle.saw_ready.specs.declared.slot_state.SlotState.TheVariants.{Invalid, Waiting}
use Rattle.saw_ready.proofs.Batches.{start-after}

-- the marks of other numbers are the same
module _ (starts : List ℕ) (old new : List SlotState) (k : ℕ) (long : length new ≡ length old)
    (others : (i : ℕ) → i ≢ k → get_or new i Waiting ≡ get_or old i Waiting) where
  pub lowest-other : (s l : ℕ) → s ≢ get_or starts k 0 → IsLowest starts old s l → IsLowest starts new s l
  lowest-other s l apart is = record {
    none =
        λ j lt e before. ap is_invalid (others j (λ same. apart (sym e ∙ ap (λ (i : ℕ). get_or starts i 0) same)))
        ∙ is.none j (rw long at lt) e before;
    here =
        λ lt. (let h = is.here (rw long at lt) in
        (h.0, ap is_invalid (others l (λ same. apart (sym h.0 ∙ ap (λ (i : ℕ). get_or starts i 0) same))) ∙ h.1));
  }

  -- k is not invalid now, and was not the lowest
  pub lowest-stays : (s l : ℕ) → is_invalid (get_or new k Waiting) ≡ false → l ≢ k → IsLowest starts old s l → IsLowest starts new s l
  lowest-stays s l fine apart is = record {
    none =
        λ j lt e before. elim (cases_eq j k)
        [ inl same ↦ rw same fine | inr diff ↦ ap is_invalid (others j diff) ∙ is.none j (rw long at lt) e before ];
    here = λ lt. (let h = is.here (rw long at lt) in (h.0, ap is_invalid (others l apart) ∙ h.1));
  }

  -- k is not invalid now, and was the lowest
  pub lowest-next : (l : ℕ) → is_invalid (get_or new k Waiting) ≡ false → IsNextInvalid starts new k l
      → IsLowest starts old (get_or starts k 0) k → IsLowest starts new (get_or starts k 0) l
  lowest-next l fine next is = record {
    none = λ j lt e before. elim (cases_eq j k) [
      | inl same ↦ rw same fine
      | inr diff ↦ elim (cases_lt j k) [
        | inl less ↦ ap is_invalid (others j diff) ∙ is.none j (rw long at lt) e less
        | inr more ↦ next.none j (omega (arith, diff, more)) lt e before
      ]
    ];
    here = next.here;
  }

  -- k is invalid now
  pub lowest-more : (l : ℕ) → k < length old → is_invalid (get_or new k Waiting) ≡ true → IsLowest starts old (get_or starts k 0) l
      → IsLowest starts new (get_or starts k 0) (min l k)
  lowest-more l inside is_now is = record {
    none =
        λ j lt e before. ap is_invalid (others j (λ same. omega (arith, before, same)))
        ∙ is.none j (rw long at lt) e (omega (arith, before));
    here = λ lt. go lt (cases_lt l k);
  }
    where
      go : min l k < length new → (l < k) ⊎ (k ≤ l)
          → (get_or starts (min l k) 0 ≡ get_or starts k 0) × (is_invalid (get_or new (min l k) Waiting) ≡ true)
      go lt (inl less) =
          let same : min l k ≡ l = omega (arith, less) in
          let h = is.here (omega (arith, less, inside)) in
          rw same (h.0, ap is_invalid (others l (λ e. omega (arith, less, e))) ∙ h.1)
      go lt (inr more) = let same : min l k ≡ k = omega (arith, more) in rw same (refl, is_now)

-- a mark that is no more and no less invalid
pub lowest-same : (starts : List ℕ) (marks : List SlotState) (first k : ℕ) (m : SlotState) (lowest : List ℕ) → k < length marks
    → is_invalid (get_or marks k Waiting) ≡ false → is_invalid m ≡ false
    → AreLowest starts marks first lowest → AreLowest starts (set marks k m) first lowest
lowest-same starts marks first k m lowest inside was is are i l r =
    let old = are i l (rw (length-set marks k m) at r) in
    lowest-stays starts marks (set marks k m) k (length-set marks k m) (λ j diff. get_or-set_other marks k j m Waiting diff)
    (get_or starts i 0) (get_or lowest (get_or starts i 0) 0)
    (rw (get_or-set_same marks k m Waiting inside) is) (λ e. true≢false (sym (old.here (rw e inside)).1 ∙ rw e was)) old

-- an invalid mark
pub lowest-set : (starts : List ℕ) (marks : List SlotState) (first k : ℕ) (lowest : List ℕ) → k < length marks
    → get_or starts k 0 < length lowest
    → AreLowest starts marks first lowest
    → AreLowest starts (set marks k Invalid) first (set lowest (get_or starts k 0) (min (get_or lowest (get_or starts k 0) 0) k))
lowest-set starts marks first k lowest inside low are i l r =
    go (are i l (rw (length-set marks k Invalid) at r)) (cases_eq (get_or starts i 0) (get_or starts k 0))
  where
    go : IsLowest starts marks (get_or starts i 0) (get_or lowest (get_or starts i 0) 0)
        → (get_or starts i 0 ≡ get_or starts k 0) ⊎ (get_or starts i 0 ≢ get_or starts k 0)
        → IsLowest starts (set marks k Invalid) (get_or starts i 0)
        (get_or (set lowest (get_or starts k 0) (min (get_or lowest (get_or starts k 0) 0) k)) (get_or starts i 0) 0)
    go old (inl e) =
        rw (e, get_or-set_same lowest (get_or starts k 0) (min (get_or lowest (get_or starts k 0) 0) k) 0 low)
        (lowest-more starts marks (set marks k Invalid) k (length-set marks k Invalid)
        (λ j diff. get_or-set_other marks k j Invalid Waiting diff) (get_or lowest (get_or starts k 0) 0) inside
        (rw (get_or-set_same marks k Invalid Waiting inside) refl) (rw e at old))
    go old (inr diff) =
        rw (get_or-set_other lowest (get_or starts k 0) (get_or starts i 0) (min (get_or lowest (get_or starts k 0) 0) k) 0 diff)
        (lowest-other starts marks (set marks k Invalid) k (length-set marks k Invalid)
        (λ j apart. get_or-set_other marks k j Invalid Waiting apart) (get_or starts i 0) (get_or lowest (get_or starts i 0) 0) diff old)

-- members are closed
pub lowest-closed : (starts : List ℕ) (old new : List SlotState) (first end : ℕ) (lowest : List ℕ) → AreStarts starts
    → length starts ≡ length old → first ≤ end → (end < length old → end ≤ get_or starts end 0)
    → AreClosed first end old new → AreLowest starts old first lowest → AreLowest starts new end lowest
lowest-closed starts old new first end lowest are long within ends closed lows k l r =
    let lt : k < length old = rw closed.long at r in
    go lt (get_or lowest (get_or starts k 0) 0) (lows k (omega (arith, within, l)) lt)
  where
    later : k < length old → (j : ℕ) → j < length old → get_or starts j 0 ≡ get_or starts k 0 → end ≤ j
    later lt j inside e =
        let a = start-after starts end k are (rw long ends) l (rw long lt) in
        let b = are.low j (rw long inside) in
        omega (arith, a, b, e)

    go : k < length old → (low : ℕ) → IsLowest starts old (get_or starts k 0) low → IsLowest starts new (get_or starts k 0) low
    go lt low is = record {
      none =
          λ j inside e before. ap is_invalid (closed.outside j (inr (later lt j (rw closed.long at inside) e)))
          ∙ is.none j (rw closed.long at inside) e before;
      here =
          λ inside. (let h = is.here (rw closed.long at inside) in
          (h.0, ap is_invalid (closed.outside low (inr (later lt low (rw closed.long at inside) h.0))) ∙ h.1));
    }
