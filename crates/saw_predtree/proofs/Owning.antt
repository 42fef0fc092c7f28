-- The widest of prefixes.
use Rattle.std.proofs.Common.{◌≡◌, ℕ, ◌+◌, ◌<◌, true, ◌⊎◌, inl, inr, List, [], ◌∷◌, ◌++◌, length, get_or, take, drop, Some, refl, sym, ap, ◌∙◌, subst, bytes_eq}
use Rattle.std.specs.List.{slice_get}
use Rattle.std.specs.List.Sorted.{IsPermutation}
use Rattle.std.proofs.lemmas.Bool.{true≢false}
use Rattle.std.proofs.lemmas.List.{take-append-drop, take_more}
use Rattle.std.proofs.lemmas.List.Folds.{list_any_at}
use Rattle.std.proofs.lemmas.List.Sorted.{list_any-IsPermutation}
use Rattle.std.proofs.lemmas.Map.Keys.{any_passes_from_place}
use Rattle.saw_predtree.specs.Searches.{AreWidest, IsCovered}
use Rattle.saw_predtree.specs.Trees.{is_one_of}
use Rattle.saw_predtree.proofs.Coverings.{covers-itself, covers-trans}
use Rattle.saw_predtree.proofs.Members.{any-left, any-parts, any-right, bytes-same, one-same}

-- what stands at a place is one of the keys
pub one-at : (keys : List (List ℕ)) (i : ℕ) (key : List ℕ) → slice_get keys i ≡ Some key → is_one_of keys key ≡ true
one-at keys i key is = any_passes_from_place (λ (other : List ℕ). bytes_eq other key) keys i key is (bytes-same key key refl)

pub one-there : (keys : List (List ℕ)) (i : ℕ) (key : List ℕ) → i < length keys → key ≡ get_or keys i key → is_one_of keys key ≡ true
one-there keys i key inside is = list_any_at (λ (other : List ℕ). bytes_eq other key) keys i key inside (bytes-same (get_or keys i key) key (sym is))

-- what is one of the first ones is one of all
pub one-of-first : (n : ℕ) (keys : List (List ℕ)) (key : List ℕ) → is_one_of (take n keys) key ≡ true → is_one_of keys key ≡ true
one-of-first n keys key h =
    sym (ap (λ (all : List (List ℕ)). is_one_of all key) (take-append-drop n keys)) ∙ any-left (λ (other : List ℕ). bytes_eq other key) (take n keys) (drop n keys) h

pub covered-of-first : (n : ℕ) (keys : List (List ℕ)) (key : List ℕ) → IsCovered (take n keys) key → IsCovered keys key
covered-of-first n keys key is = record { key = is.key; one = one-of-first n keys is.key is.one; above = is.above }

-- the widest in another order
pub widest-in-order : (prefixes others keys sorted : List (List ℕ)) → IsPermutation keys sorted → AreWidest prefixes others keys → AreWidest prefixes others sorted
widest-in-order prefixes others keys sorted order are = record {
  among = λ key h. are.among key (same key ∙ h);
  covering = λ prefix h. elim (are.covering prefix h) [
    | inl under ↦ inl (record { key = under.key; one = sym (same under.key) ∙ under.one; above = under.above })
    | inr under ↦ inr under
  ];
}
  where
    same : (key : List ℕ) → is_one_of keys key ≡ is_one_of sorted key
    same key = list_any-IsPermutation (λ (other : List ℕ). bytes_eq other key) keys sorted order

-- the widest of the widest
pub widest-of-widest : (prefixes all others keys : List (List ℕ)) → AreWidest prefixes others all → AreWidest all others keys → AreWidest prefixes others keys
widest-of-widest prefixes all others keys are inner = record {
  among = λ key h. are.among key (inner.among key h);
  covering = λ prefix h. elim (are.covering prefix h) [
    | inl under ↦ elim (inner.covering under.key under.one) [
      | inl more ↦ inl (record { key = more.key; one = more.one; above = covers-trans more.key under.key prefix more.above under.above })
      | inr more ↦ inr (record { key = more.key; one = more.one; above = covers-trans more.key under.key prefix more.above under.above })
    ]
    | inr under ↦ inr under
  ];
}

-- ---- the walk

pub widest-of-none : (others : List (List ℕ)) → AreWidest [] others []
widest-of-none others = record {
  among = λ key h. h;
  covering = λ prefix h. absurd (true≢false (sym h));
}

module _ (all others kept : List (List ℕ)) (i : ℕ) (key : List ℕ) (inside : i < length all) (is : key ≡ get_or all i key) (are : AreWidest (take i all) others kept) where
  next-is : take (i + 1) all ≡ take i all ++ key ∷ []
  next-is = take_more all i key inside ∙ ap (λ (k : List ℕ). take i all ++ k ∷ []) (sym is)

  on : (keys : List (List ℕ)) → AreWidest (take i all ++ key ∷ []) others keys → AreWidest (take (i + 1) all) others keys
  on keys more = subst (λ (ks : List (List ℕ)). AreWidest ks others keys) (sym next-is) more

  -- one that is covered is left out
  pub widest-without : (IsCovered kept key) ⊎ (IsCovered others key) → AreWidest (take (i + 1) all) others kept
  widest-without under = on kept (record {
    among = λ k h. any-left (λ (other : List ℕ). bytes_eq other k) (take i all) (key ∷ []) (are.among k h);
    covering = λ prefix h. elim (any-parts (λ (other : List ℕ). bytes_eq other prefix) (take i all) (key ∷ []) h) [
      | inl before ↦ are.covering prefix before
      | inr here ↦ subst (λ (p : List ℕ). (IsCovered kept p) ⊎ (IsCovered others p)) (one-same key prefix here) under
    ];
  })

  -- another one is kept
  pub widest-with : AreWidest (take (i + 1) all) others (kept ++ key ∷ [])
  widest-with = on (kept ++ key ∷ []) (record {
    among = λ k h. elim (any-parts (λ (other : List ℕ). bytes_eq other k) kept (key ∷ []) h) [
      | inl before ↦ any-left (λ (other : List ℕ). bytes_eq other k) (take i all) (key ∷ []) (are.among k before)
      | inr here ↦ any-right (λ (other : List ℕ). bytes_eq other k) (take i all) (key ∷ []) here
    ];
    covering = λ prefix h. elim (any-parts (λ (other : List ℕ). bytes_eq other prefix) (take i all) (key ∷ []) h) [
      | inl before ↦ elim (are.covering prefix before) [
        | inl under ↦ inl (record { key = under.key; one = any-left (λ (other : List ℕ). bytes_eq other under.key) kept (key ∷ []) under.one; above = under.above })
        | inr under ↦ inr under
      ]
      | inr here ↦ inl (record { key = prefix; one = any-right (λ (other : List ℕ). bytes_eq other prefix) kept (key ∷ []) here; above = covers-itself prefix })
    ];
  })
