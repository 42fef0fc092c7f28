-- What is asked of one of transactions that are alike is answered for all.
use Rattle.std.proofs.Common.{◌≡◌, ℕ, ◌+◌, Bool, true, false, not, ◌&&◌, List, [], ◌∷◌, length, map, suc, Some, None, position, slice_get, refl, sym, ap, ◌∙◌}
use Rattle.std.specs.List.{list_all, position_from}
use Rattle.std.proofs.lemmas.Bool.{and_parts}
use Rattle.std.proofs.lemmas.Iterator.Adapters.{position_from-zero}
use Rattle.std.proofs.lemmas.List.{length-map}
use Rattle.std.proofs.lemmas.Slice.Eq.{bytes_eq-Decides}
use Rattle.saw_messages.specs.TxShapes.{TxShape}
use Rattle.saw_rules.specs.OnChainRules.{how_many, is_allowed, is_of}
use Rattle.saw_rules.specs.Courses.{are_alike, is_like}
use Rattle.saw_rules.specs.declared.families.Family.{Family}

module _ (first : TxShape) where
  same_name : (tx : TxShape) → is_like first tx ≡ true → tx.header.family_name ≡ first.header.family_name
  same_name tx like = (bytes_eq-Decides tx.header.family_name first.header.family_name).0 (and_parts _ _ like).0

  same_version : (tx : TxShape) → is_like first tx ≡ true → tx.header.family_version ≡ first.header.family_version
  same_version tx like = (bytes_eq-Decides tx.header.family_version first.header.family_version).0 (and_parts _ _ like).1

  -- ---- how many

  counts_all : (family : List ℕ) (txs : List TxShape) → list_all (is_like first) txs ≡ true → is_of family first ≡ true → how_many family txs ≡ length txs
  counts_all family [] alike is = refl
  counts_all family (tx ∷ txs) alike is =
      let both = and_parts _ _ alike in
      rw (same_name tx both.0, is) (ap suc (counts_all family txs both.1 is))

  counts_none : (family : List ℕ) (txs : List TxShape) → list_all (is_like first) txs ≡ true → is_of family first ≡ false → how_many family txs ≡ 0
  counts_none family [] alike is = refl
  counts_none family (tx ∷ txs) alike is =
      let both = and_parts _ _ alike in
      rw (same_name tx both.0, is) (counts_none family txs both.1 is)

  -- ---- the first of another family than the allowed ones

  none_other : (families : List Family) (i : ℕ) (txs : List TxShape) → list_all (is_like first) txs ≡ true → is_allowed families first ≡ true
      → position_from (λ tx. not (is_allowed families tx)) i txs ≡ None
  none_other families i [] alike is = refl
  none_other families i (tx ∷ txs) alike is =
      let both = and_parts _ _ alike in
      rw (same_name tx both.0, same_version tx both.0, is) (none_other families (i + 1) txs both.1 is)

-- ---- transactions as they are seen

module _ {X : Type 0} (seen : X → TxShape) where
  all_seen : (p : TxShape → Bool) (txs : List X) → list_all (λ tx. p (seen tx)) txs ≡ list_all p (map seen txs)
  all_seen p [] = refl
  all_seen p (tx ∷ txs) = ap (λ others. p (seen tx) && others) (all_seen p txs)

  pub alike_is : (first : X) (txs : List X) → Some first ≡ slice_get txs 0 → list_all (λ tx. is_like (seen first) (seen tx)) txs ≡ are_alike (map seen txs)
  alike_is first [] is = refl
  alike_is first (tx ∷ txs) is =
      let same : first ≡ tx = cc in
      ap (λ (one : X). list_all (λ tx. is_like (seen one) (seen tx)) (tx ∷ txs)) same ∙ all_seen (is_like (seen tx)) (tx ∷ txs)

  pub all_are : (family : List ℕ) (first : X) (txs : List X) → Some first ≡ slice_get txs 0 → are_alike (map seen txs) ≡ true
      → is_of family (seen first) ≡ true → length txs ≡ how_many family (map seen txs)
  all_are family first [] is alike of = refl
  all_are family first (tx ∷ txs) is alike of =
      let same : first ≡ tx = cc in
      sym (counts_all (seen tx) family (map seen (tx ∷ txs)) alike (ap (λ (one : X). is_of family (seen one)) (sym same) ∙ of) ∙ length-map (tx ∷ txs) seen)

  pub none_are : (family : List ℕ) (first : X) (txs : List X) → Some first ≡ slice_get txs 0 → are_alike (map seen txs) ≡ true
      → is_of family (seen first) ≡ false → 0 ≡ how_many family (map seen txs)
  none_are family first [] is alike of = refl
  none_are family first (tx ∷ txs) is alike of =
      let same : first ≡ tx = cc in
      sym (counts_none (seen tx) family (map seen (tx ∷ txs)) alike (ap (λ (one : X). is_of family (seen one)) (sym same) ∙ of))

  pub none_is_other : (families : List Family) (first : X) (txs : List X) → Some first ≡ slice_get txs 0 → are_alike (map seen txs) ≡ true
      → is_allowed families (seen first) ≡ true → None ≡ position (λ tx. not (is_allowed families tx)) (map seen txs)
  none_is_other families first [] is alike allowed = refl
  none_is_other families first (tx ∷ txs) is alike allowed =
      let same : first ≡ tx = cc in
      sym (position_from-zero (λ (tx : TxShape). not (is_allowed families tx)) (map seen (tx ∷ txs))
      ∙ none_other (seen tx) families 0 (map seen (tx ∷ txs)) alike (ap (λ (one : X). is_allowed families (seen one)) (sym same) ∙ allowed))

  pub first_is_other : (families : List Family) (first : X) (txs : List X) → Some first ≡ slice_get txs 0
      → is_allowed families (seen first) ≡ false → Some 0 ≡ position (λ tx. not (is_allowed families tx)) (map seen txs)
  first_is_other families first [] is allowed = absurd cc
  first_is_other families first (tx ∷ txs) is allowed =
      let same : first ≡ tx = cc in
      let other : is_allowed families (seen tx) ≡ false = ap (λ (one : X). is_allowed families (seen one)) (sym same) ∙ allowed in
      sym (position_from-zero (λ (tx : TxShape). not (is_allowed families tx)) (map seen (tx ∷ txs)) ∙ rw other refl)
