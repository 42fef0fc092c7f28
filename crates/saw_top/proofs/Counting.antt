-- How often external processors have failed, before and after.
use Rattle.std.proofs.Common.{◌≡◌, ◌⊎◌, inl, inr, ℕ, zero, suc, ◌<◌, ◌≤◌, List, [], ◌∷◌, ◌++◌, length, map, reverse, sym, subst, arith}
use Rattle.std.specs.Prelude.{slice_index_or}
use Rattle.std.proofs.lemmas.List.{length-reverse, reverse-append}
use Rattle.saw_faults.specs.Counts.{Rose}
use Rattle.saw_top.specs.Outside.{AreLater, SomeRose}

-- ---- counts

pub later_same : (counts : List ℕ) → AreLater counts counts
later_same [] = tt
later_same (count ∷ counts) = (omega arith, later_same counts)

pub later_on : (olds mids news : List ℕ) → AreLater olds mids → AreLater mids news → AreLater olds news
later_on [] [] [] first second = tt
later_on [] [] (new ∷ news) first second = absurd second
later_on [] (mid ∷ mids) news first second = absurd first
later_on (old ∷ olds) [] news first second = absurd first
later_on (old ∷ olds) (mid ∷ mids) [] first second = absurd second
later_on (old ∷ olds) (mid ∷ mids) (new ∷ news) first second =
    (omega (arith, first.0, second.0), later_on olds mids news first.1 second.1)

-- one that rose since rose since an earlier time
pub rose_since_later : (olds mids news : List ℕ) → AreLater olds mids → SomeRose mids news → SomeRose olds news
rose_since_later [] [] news later rose = absurd rose
rose_since_later [] (mid ∷ mids) news later rose = absurd later
rose_since_later (old ∷ olds) [] news later rose = absurd later
rose_since_later (old ∷ olds) (mid ∷ mids) [] later rose = absurd rose
rose_since_later (old ∷ olds) (mid ∷ mids) (new ∷ news) later (inl rose) = inl (omega (arith, later.0, rose))
rose_since_later (old ∷ olds) (mid ∷ mids) (new ∷ news) later (inr rose) = inr (rose_since_later olds mids news later.1 rose)

pub later_count : (olds news : List ℕ) → AreLater olds news → length news ≡ length olds
later_count [] [] later = omega arith
later_count [] (new ∷ news) later = absurd later
later_count (old ∷ olds) [] later = absurd later
later_count (old ∷ olds) (new ∷ news) later = omega (arith, later_count olds news later.1)

-- none rises where none is counted
pub never_rose : {R : Type 0} (olds news : List R) → SomeRose (map (λ one. 0) olds) (map (λ one. 0) news) → ⊥
never_rose [] news rose = rose
never_rose (old ∷ olds) [] rose = rose
never_rose (old ∷ olds) (new ∷ news) (inl rose) = omega (arith, rose)
never_rose (old ∷ olds) (new ∷ news) (inr rose) = never_rose olds news rose

-- ---- several lists of them

pub later_both : (olds news more_olds more_news : List ℕ) → AreLater olds news → AreLater more_olds more_news
    → AreLater (olds ++ more_olds) (news ++ more_news)
later_both [] [] more_olds more_news first second = second
later_both [] (new ∷ news) more_olds more_news first second = absurd first
later_both (old ∷ olds) [] more_olds more_news first second = absurd first
later_both (old ∷ olds) (new ∷ news) more_olds more_news first second = (first.0, later_both olds news more_olds more_news first.1 second)

pub rose_first : (olds news more_olds more_news : List ℕ) → SomeRose olds news → SomeRose (olds ++ more_olds) (news ++ more_news)
rose_first [] news more_olds more_news rose = absurd rose
rose_first (old ∷ olds) [] more_olds more_news rose = absurd rose
rose_first (old ∷ olds) (new ∷ news) more_olds more_news (inl rose) = inl rose
rose_first (old ∷ olds) (new ∷ news) more_olds more_news (inr rose) = inr (rose_first olds news more_olds more_news rose)

pub rose_last : (olds news more_olds more_news : List ℕ) → length news ≡ length olds → SomeRose more_olds more_news
    → SomeRose (olds ++ more_olds) (news ++ more_news)
rose_last [] [] more_olds more_news count rose = rose
rose_last [] (new ∷ news) more_olds more_news count rose = let no : ⊥ = omega (arith, count) in absurd no
rose_last (old ∷ olds) [] more_olds more_news count rose = let no : ⊥ = omega (arith, count) in absurd no
rose_last (old ∷ olds) (new ∷ news) more_olds more_news count rose = inr (rose_last olds news more_olds more_news (omega (arith, count)) rose)

-- ---- in reverse

pub first_last : {X : Type 0} (x : X) (xs : List X) → reverse (x ∷ xs) ≡ reverse xs ++ x ∷ []
first_last x xs = reverse-append (x ∷ []) xs

pub later_back : (olds news : List ℕ) → AreLater olds news → AreLater (reverse olds) (reverse news)
later_back [] [] later = tt
later_back [] (new ∷ news) later = absurd later
later_back (old ∷ olds) [] later = absurd later
later_back (old ∷ olds) (new ∷ news) later =
    subst (λ (l : List ℕ). AreLater l (reverse (new ∷ news))) (sym (first_last old olds))
    (subst (AreLater (reverse olds ++ old ∷ [])) (sym (first_last new news))
    (later_both (reverse olds) (reverse news) (old ∷ []) (new ∷ []) (later_back olds news later.1) (later.0, tt)))

pub rose_back : (olds news : List ℕ) → length news ≡ length olds → SomeRose olds news → SomeRose (reverse olds) (reverse news)
rose_back [] news count rose = absurd rose
rose_back (old ∷ olds) [] count rose = absurd rose
rose_back (old ∷ olds) (new ∷ news) count rose =
    subst (λ (l : List ℕ). SomeRose l (reverse (new ∷ news))) (sym (first_last old olds))
    (subst (SomeRose (reverse olds ++ old ∷ [])) (sym (first_last new news)) (by_one (rose_back olds news (omega (arith, count))) rose))
  where
    by_one : (SomeRose olds news → SomeRose (reverse olds) (reverse news)) → Rose old new ⊎ SomeRose olds news
        → SomeRose (reverse olds ++ old ∷ []) (reverse news ++ new ∷ [])
    by_one back (inl here) =
        rose_last (reverse olds) (reverse news) (old ∷ []) (new ∷ [])
        (omega (arith, count, length-reverse olds, length-reverse news)) (inl here)
    by_one back (inr others) = rose_first (reverse olds) (reverse news) (old ∷ []) (new ∷ []) (back others)

-- ---- by their places

module _ {R : Type 0} (faults : R → ℕ) where
  pub later_at : (olds news : List R) → length news ≡ length olds
      → ((k : ℕ) (d : R) → k < length olds → faults (slice_index_or olds k d) ≤ faults (slice_index_or news k d))
      → AreLater (map faults olds) (map faults news)
  later_at [] [] count at = tt
  later_at [] (new ∷ news) count at = let no : ⊥ = omega (arith, count) in absurd no
  later_at (old ∷ olds) [] count at = let no : ⊥ = omega (arith, count) in absurd no
  later_at (old ∷ olds) (new ∷ news) count at =
      (at 0 old (omega arith), later_at olds news (omega (arith, count)) (λ k d low. at (suc k) d (omega (arith, low))))

  pub rose_at : (olds news : List R) (k : ℕ) → length news ≡ length olds → k < length olds
      → ((d : R) → Rose (faults (slice_index_or olds k d)) (faults (slice_index_or news k d))) → SomeRose (map faults olds) (map faults news)
  rose_at [] news k count low at = let no : ⊥ = omega (arith, low) in absurd no
  rose_at (old ∷ olds) [] k count low at = let no : ⊥ = omega (arith, count) in absurd no
  rose_at (old ∷ olds) (new ∷ news) zero count low at = inl (at old)
  rose_at (old ∷ olds) (new ∷ news) (suc k) count low at = inr (rose_at olds news k (omega (arith, count)) (omega (arith, low)) (λ d. at d))
