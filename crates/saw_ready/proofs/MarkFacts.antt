-- What one mark isn't, and what another mark of one number leaves as it is.
use Rattle.std.proofs.Common.{◌≡◌, ◌≢◌, ◌<◌, ℕ, Bool, true, false, ◌||◌, nat_lt, List, length, get_or, set, refl, sym, ap, ◌∙◌, ◌⊎◌, inl, inr, true≢false, get_or-set_same, get_or-set_other}
use Rattle.std.proofs.lemmas.Bool.{cases_eq}
use Rattle.saw_ready.specs.Marks.{NoneInvalid, is_invalid, is_met, is_valid, is_waiting}
use Rattle.saw_ready.specs.declared.slot_state.SlotState.{SlotState}
use Rattle.saw_ready.specs.declared.slot_state.SlotState.TheVariants.{Closed, Invalid, Running, Valid, Waiting}

pub waiting-valid : (m : SlotState) → is_waiting m ≡ true → is_valid m ≡ false
waiting-valid Waiting e = refl
waiting-valid Running e = absurd (true≢false (sym e))
waiting-valid Valid e = absurd (true≢false (sym e))
waiting-valid Invalid e = absurd (true≢false (sym e))
waiting-valid Closed e = absurd (true≢false (sym e))

pub waiting-invalid : (m : SlotState) → is_waiting m ≡ true → is_invalid m ≡ false
waiting-invalid Waiting e = refl
waiting-invalid Running e = absurd (true≢false (sym e))
waiting-invalid Valid e = absurd (true≢false (sym e))
waiting-invalid Invalid e = absurd (true≢false (sym e))
waiting-invalid Closed e = absurd (true≢false (sym e))

-- ---- another mark at j

module _ (marks : List SlotState) (j : ℕ) (m : SlotState) (inside : j < length marks) where
  pub met-same : (first i : ℕ) → is_valid m ≡ is_valid (get_or marks j Waiting) → is_met (set marks j m) first i ≡ is_met marks first i
  met-same first i v = ap (λ (b : Bool). nat_lt i first || b) (go (cases_eq i j))
    where
      go : (i ≡ j) ⊎ (i ≢ j) → is_valid (get_or (set marks j m) i Waiting) ≡ is_valid (get_or marks i Waiting)
      go (inl e) = rw (e, get_or-set_same marks j m Waiting inside) v
      go (inr diff) = rw (get_or-set_other marks j i m Waiting diff) refl

  pub met-other : (first i : ℕ) → i ≢ j → is_met (set marks j m) first i ≡ is_met marks first i
  met-other first i diff = rw (get_or-set_other marks j i m Waiting diff) refl

  pub none-back : (s k : ℕ) → is_invalid (get_or marks j Waiting) ≡ false → NoneInvalid (set marks j m) s k → NoneInvalid marks s k
  none-back s k v none i l r = elim (cases_eq i j) [
    | inl e ↦ rw e v
    | inr diff ↦ sym (ap is_invalid (get_or-set_other marks j i m Waiting diff)) ∙ none i l r
  ]
