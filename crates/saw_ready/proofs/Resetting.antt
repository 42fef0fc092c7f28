-- One that stands on a failed batch waits again.
use Rattle.std.proofs.Common.{◌≡◌, ◌≢◌, ◌<◌, ◌≤◌, ℕ, Bool, true, false, List, length, get_or, set, refl, sym, ap, ◌∙◌, arith, ◌⊎◌, inl, inr, true≢false, get_or-set_same, get_or-set_other, length-set}
use Rattle.std.proofs.lemmas.Bool.{cases_eq, cases_lt}
use Rattle.saw_ready.specs.Cursors.{IsCursor, IsDue, IsRefreshed}
use Rattle.saw_ready.specs.Hits.{IsIn}
use Rattle.saw_ready.specs.Layouts.{AreStarts}
use Rattle.saw_ready.specs.Lowest.{AreLowest, IsLowest}
use Rattle.saw_ready.specs.Marks.{NoneInvalid, is_invalid}
use Rattle.saw_ready.specs.Resets.{IsReopened, IsReset}
use Rattle.saw_ready.specs.declared.edges.Edges.{Edges}
use Rattle.saw_ready.specs.declared.slot_state.SlotState.{SlotState}
use Rattle.saw_ready.specs.declared.slot_state.SlotState.TheVariants.{Waiting}
use Rattle.saw_ready.proofs.Batches.{member-low}
use Rattle.saw_ready.proofs.Lowering.{lowest-next, lowest-other, lowest-stays}
use Rattle.saw_ready.proofs.MarkFacts.{waiting-invalid}

module _ (preds : Edges) (starts : List ℕ) (old new : List SlotState) (end k : ℕ) (after lows lows' : List ℕ) (flags flags' : List Bool)
    (starts_are : AreStarts starts) (all_start : length starts ≡ length old) (late : end ≤ k) (inside : k < length old)
    (long : length new ≡ length old) (others : (i : ℕ) → i ≢ k → get_or new i Waiting ≡ get_or old i Waiting)
    (at : get_or new k Waiting ≡ Waiting)
    (lows_are : AreLowest starts old end lows) (reopened : IsReopened preds starts new after k lows lows' flags flags') where
  fine : is_invalid (get_or new k Waiting) ≡ false
  fine = rw at refl

  pub reset-lowest : AreLowest starts new end lows'
  reset-lowest i l r =
      go (lows_are i l (rw long at r)) (cases_eq (get_or starts i 0) (get_or starts k 0)) (cases_eq (get_or lows (get_or starts k 0) 0) k)
    where
      go : IsLowest starts old (get_or starts i 0) (get_or lows (get_or starts i 0) 0)
          → (get_or starts i 0 ≡ get_or starts k 0) ⊎ (get_or starts i 0 ≢ get_or starts k 0)
          → (get_or lows (get_or starts k 0) 0 ≡ k) ⊎ (get_or lows (get_or starts k 0) 0 ≢ k)
          → IsLowest starts new (get_or starts i 0) (get_or lows' (get_or starts i 0) 0)
      go was (inr diff) c =
          rw (reopened.other_lows (get_or starts i 0) diff)
          (lowest-other starts old new k long others (get_or starts i 0) (get_or lows (get_or starts i 0) 0) diff was)
      go was (inl e) (inl is_k) =
          rw e (lowest-next starts old new k long others (get_or lows' (get_or starts k 0) 0) fine (reopened.next is_k)
          (rw is_k at (lows_are k late inside)))
      go was (inl e) (inr not) =
          rw (e, reopened.stays not)
          (lowest-stays starts old new k long others (get_or starts k 0) (get_or lows (get_or starts k 0) 0) fine not
          (lows_are k late inside))

  pub reset-mates : is_invalid (get_or old k Waiting) ≡ true → (i : ℕ) → k < i → i < length old → get_or starts i 0 ≡ get_or starts k 0
      → IsDue preds new after i → NoneInvalid new (get_or starts i 0) i → IsIn flags' i
  reset-mates v i behind r e due clean = go (cases_eq (get_or lows (get_or starts k 0) 0) k)
    where
      -- an invalid member before i is too much
      never : (l : ℕ) → l < i → get_or starts l 0 ≡ get_or starts k 0 → is_invalid (get_or new l Waiting) ≡ true → ⊥
      never l lt same bad =
          true≢false (sym bad ∙ clean l (rw e (member-low starts l k starts_are (rw all_start (omega (arith, lt, r))) same)) lt)

      next : get_or lows (get_or starts k 0) 0 ≡ k → (i < get_or lows' (get_or starts k 0) 0) ⊎ (get_or lows' (get_or starts k 0) 0 ≤ i)
          → IsIn flags' i
      next is_k (inl lt) = reopened.mates is_k i behind lt (rw long r) e due
      next is_k (inr le) =
          let h = (reopened.next is_k).here (rw long (omega (arith, le, r))) in
          elim (cases_eq (get_or lows' (get_or starts k 0) 0) i) [
            | inl same ↦ absurd (true≢false (sym (rw same at h.1) ∙ waiting-invalid (get_or new i Waiting) due.0))
            | inr diff ↦ absurd (never (get_or lows' (get_or starts k 0) 0) (omega (arith, le, diff)) h.0 h.1)
          ]

      other : get_or lows (get_or starts k 0) 0 ≢ k → (get_or lows (get_or starts k 0) 0 < k) ⊎ (k ≤ get_or lows (get_or starts k 0) 0)
          → IsIn flags' i
      other not (inl lt) =
          let h = (lows_are k late inside).here (omega (arith, lt, inside)) in
          absurd (never (get_or lows (get_or starts k 0) 0) (omega (arith, lt, behind)) h.0
          (ap is_invalid (others (get_or lows (get_or starts k 0) 0) not) ∙ h.1))
      other not (inr le) = absurd (true≢false (sym v ∙ (lows_are k late inside).none k inside refl (omega (arith, le, not))))

      go : (get_or lows (get_or starts k 0) 0 ≡ k) ⊎ (get_or lows (get_or starts k 0) 0 ≢ k) → IsIn flags' i
      go (inl is_k) = next is_k (cases_lt i (get_or lows' (get_or starts k 0) 0))
      go (inr not) = other not (cases_lt (get_or lows (get_or starts k 0) 0) k)

pub reset-is : (preds : Edges) (starts : List ℕ) (old : List SlotState) (end k c : ℕ) (before lows lows' : List ℕ) (flags mid flags' : List Bool)
    → AreStarts starts → length starts ≡ length old → end ≤ k → k < length old → length before ≡ length old → AreLowest starts old end lows
    → IsCursor preds (set old k Waiting) end k c → IsRefreshed (IsDue preds (set old k Waiting) (set before k c) k) k flags mid
    → IsReopened preds starts (set old k Waiting) (set before k c) k lows lows' mid flags'
    → IsReset preds starts old (set old k Waiting) end before (set before k c) lows lows' flags flags' k
reset-is preds starts old end k c before lows lows' flags mid flags' starts_are all_start late inside points lows_are cursor fresh re =
    record {
      long = length-set old k Waiting;
      at = get_or-set_same old k Waiting Waiting inside;
      others = λ i diff. get_or-set_other old k i Waiting Waiting diff;
      points = length-set before k c;
      cursor = rw (get_or-set_same before k c 0 (rw points inside)) cursor;
      other_cursors = λ i diff. get_or-set_other before k i c 0 diff;
      all_low = re.all_low;
      lowest_are =
          reset-lowest preds starts old (set old k Waiting) end k (set before k c) lows lows' mid flags' starts_are all_start late inside
          (length-set old k Waiting)
          (λ i diff. get_or-set_other old k i Waiting Waiting diff) (get_or-set_same old k Waiting Waiting inside) lows_are re;
      all_flagged = re.long ∙ fresh.long;
      kept = λ i h. re.kept i (fresh.others i h);
      flag = λ e. re.kept k (fresh.at (rw (get_or-set_same old k Waiting Waiting inside) refl, e));
      mates =
          reset-mates preds starts old (set old k Waiting) end k (set before k c) lows lows' mid flags' starts_are all_start late inside
          (length-set old k Waiting)
          (λ i diff. get_or-set_other old k i Waiting Waiting diff) (get_or-set_same old k Waiting Waiting inside) lows_are re;
    }
