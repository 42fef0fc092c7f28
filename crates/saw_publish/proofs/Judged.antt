-- Batches that a policy judges one after another.
use Rattle.std.proofs.Common.{◌≡◌, ◌<◌, ◌⊎◌, ℕ, suc, ◌+◌, List, [], ◌∷◌, ◌++◌, length, get_or, drop, Option, Some, None, refl, sym, ap, ◌∙◌, inl, inr, arith}
use Rattle.std.specs.Prelude.{option_map}
use Rattle.std.proofs.lemmas.List.{append-nil, append_assoc, drop_more}
use Rattle.saw_address.specs.Maps.{StateMap}
use Rattle.saw_checks.specs.declared.policy.PolicyFault.{PolicyFault}
use Rattle.saw_messages.specs.TxShapes.{BatchShape}
use Rattle.saw_receipts.specs.declared.loss.LossCause.TheVariants as losses
use Rattle.saw_rules.specs.Policies.{BatchTest}
use Rattle.saw_publish.specs.Fates.{Fates, still_in}
use Rattle.saw_publish.specs.Judging.{passed_with, policy_fates}

-- ---- one batch more

module _ (fault : BatchTest) (m : StateMap) (signer : List ℕ) (passed batches : List BatchShape) (i : ℕ) (batch : BatchShape) (below : i < length batches)
    (here : batch ≡ get_or batches i batch) where
  cut : drop i batches ≡ batch ∷ drop (i + 1) batches
  cut = drop_more batches i batch below ∙ ap (λ one. one ∷ drop (i + 1) batches) (sym here)

  pub fates_more : (found : Option PolicyFault) (fates new whole : Fates) → found ≡ fault m signer passed batch
      → new ≡ fates ++ option_map losses.Policy found ∷ [] → fates ++ policy_fates fault m signer passed (drop i batches) ≡ whole
      → new ++ policy_fates fault m signer (passed_with found passed batch) (drop (i + 1) batches) ≡ whole
  fates_more found fates new whole is pushed so_far =
      ap (λ (new : Fates). new ++ policy_fates fault m signer (passed_with found passed batch) (drop (i + 1) batches)) pushed
      ∙ append_assoc fates (option_map losses.Policy found ∷ []) (policy_fates fault m signer (passed_with found passed batch) (drop (i + 1) batches))
      ∙ ap (λ found. fates ++ option_map losses.Policy found ∷ policy_fates fault m signer (passed_with found passed batch) (drop (i + 1) batches)) is
      ∙ ap (λ rest. fates ++ policy_fates fault m signer passed rest) (sym cut) ∙ so_far

pub length-policy_fates : (fault : BatchTest) (m : StateMap) (signer : List ℕ) (passed batches : List BatchShape)
    → length (policy_fates fault m signer passed batches) ≡ length batches
length-policy_fates fault m signer passed [] = refl
length-policy_fates fault m signer passed (batch ∷ batches) =
    ap suc (length-policy_fates fault m signer (passed_with (fault m signer passed batch) passed batch) batches)

-- where a judgement stands behind it
pub stands_next : (Stands : List BatchShape → Type 0) (passed : List BatchShape) (batch : BatchShape) (found : Option PolicyFault)
    → (found ≡ None → Stands (passed ++ batch ∷ [])) → ((fault : PolicyFault) → found ≡ Some fault → Stands passed)
    → Stands (passed_with found passed batch)
stands_next Stands passed batch None fine bad = fine refl
stands_next Stands passed batch (Some fault) fine bad = bad fault refl

-- ---- what stays

none_stay : {A : Type 0} (fates : Fates) (others : List A) → (length fates ≡ 0) ⊎ (length others ≡ 0) → still_in fates others ≡ []
none_stay [] others none = refl
none_stay (fate ∷ fates) [] none = refl
none_stay (fate ∷ fates) (one ∷ others) none = elim none [ inl e ↦ absurd (omega (arith, e)) | inr e ↦ absurd (omega (arith, e)) ]

pub stay_ended : {A : Type 0} (kept whole : List A) (fates : Fates) (others : List A) → (length fates ≡ 0) ⊎ (length others ≡ 0)
    → kept ++ still_in fates others ≡ whole → kept ≡ whole
stay_ended kept whole fates others none so_far = sym (append-nil kept) ∙ ap (λ rest. kept ++ rest) (sym (none_stay fates others none)) ∙ so_far
