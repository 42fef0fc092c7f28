-- What loses a valid result by a failure.
use Rattle.std.proofs.Common.{◌≡◌, ◌<◌, ◌≤◌, ℕ, Bool, true, false, List, length, get_or, ap, sym, ◌∙◌, ◌⊎◌, inl, inr}
use Rattle.std.proofs.lemmas.Bool.{cases_Bool, cases_lt}
use Rattle.saw_ready.specs.Hits.{AreHits, IsIn}
use Rattle.saw_ready.specs.Marks.{is_valid}
use Rattle.saw_ready.specs.Resets.{AreClosed, IsOut}
use Rattle.saw_ready.specs.Undone.{AreHitsNoted, AreMembersNoted, AreNoted, IsIdle}
use Rattle.saw_ready.specs.declared.edges.Edges.{Edges}
use Rattle.saw_ready.specs.declared.slot_state.SlotState.{SlotState}
use Rattle.saw_ready.specs.declared.slot_state.SlotState.TheVariants.{Waiting}

-- members and then hits were noted; members were closed in between, and hits wait again
module _ (preds : Edges) (first end : ℕ) (old closed new : List SlotState) (hits undone mid undone' : List Bool) (are : AreHits preds first end hits)
    (is_closed : AreClosed first end old closed)
    (waits : (i : ℕ) → IsIn hits i → get_or new i Waiting ≡ Waiting)
    (others : (i : ℕ) → IsOut hits i → get_or new i Waiting ≡ get_or closed i Waiting)
    (members : AreMembersNoted old first end undone mid) (behind : AreHitsNoted closed hits (length hits) mid undone') where
  stays : (i : ℕ) → IsOut hits i → (i < first) ⊎ (end ≤ i) → is_valid (get_or old i Waiting) ≡ true → is_valid (get_or new i Waiting) ≡ true
  stays i out apart v = ap is_valid (others i out ∙ is_closed.outside i apart) ∙ v

  pub are-noted : AreNoted old new undone undone'
  are-noted = record {
    long = behind.long ∙ members.long;
    kept = λ i h. behind.kept i (members.kept i h);
    noted = λ i v. elim (cases_Bool (get_or hits i false)) [
      | inl hit ↦
          let l = are.late i hit in
          inr (behind.noted i hit l.1 (ap is_valid (is_closed.outside i (inr l.0)) ∙ v))
      | inr out ↦ missed i out v (cases_lt i first) (cases_lt i end)
    ];
    only = λ i h. elim (behind.only i h) [
      | inl was ↦ member i (members.only i was) (cases_Bool (get_or hits i false))
      | inr hit ↦ let l = are.late i hit.0 in inr (sym (ap is_valid (is_closed.outside i (inr l.0))) ∙ hit.1, inl (waits i hit.0))
    ];
  }
    where
      missed : (i : ℕ) → IsOut hits i → is_valid (get_or old i Waiting) ≡ true → (i < first) ⊎ (first ≤ i) → (i < end) ⊎ (end ≤ i)
          → (is_valid (get_or new i Waiting) ≡ true) ⊎ IsIn undone' i
      missed i out v (inl low) e = inl (stays i out (inl low) v)
      missed i out v (inr f) (inl e) = inr (behind.kept i (members.noted i f e v))
      missed i out v (inr f) (inr high) = inl (stays i out (inr high) v)

      member : (i : ℕ) → IsIn undone i ⊎ ((first ≤ i) × (i < end) × (is_valid (get_or old i Waiting) ≡ true)) → (IsIn hits i) ⊎ (IsOut hits i)
          → IsIn undone i ⊎ ((is_valid (get_or old i Waiting) ≡ true) × IsIdle (get_or new i Waiting))
      member i (inl was) h = inl was
      member i (inr m) (inl hit) = inr (m.2, inl (waits i hit))
      member i (inr m) (inr out) = inr (m.2, inr (others i out ∙ is_closed.inside i m.0 m.1))
