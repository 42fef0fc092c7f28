-- What stays in of batches, by fates one after another.
use Rattle.std.proofs.Common.{◌≡◌, ℕ, suc, List, [], ◌∷◌, ◌++◌, length, map, Option, Some, None, refl, ap, arith}
use Rattle.saw_receipts.specs.declared.loss.LossCause.{LossCause}
use Rattle.saw_publish.specs.Fates.{Fates, further, still_in}

-- how many stay in
abbrev pub staying : Fates → ℕ
staying [] = 0
staying (None ∷ fates) = suc (staying fates)
staying (Some cause ∷ fates) = staying fates

suc_same : {m n : ℕ} → suc m ≡ suc n → m ≡ n
suc_same e = omega (arith, e)

-- ---- one batch more

pub further_push_out : (fates : Fates) (cause : LossCause) (more : Fates) → further (fates ++ Some cause ∷ []) more ≡ further fates more ++ Some cause ∷ []
further_push_out [] cause more = refl
further_push_out (Some other ∷ fates) cause more = ap (λ rest. Some other ∷ rest) (further_push_out fates cause more)
further_push_out (None ∷ fates) cause [] = ap (λ (rest : Fates). None ∷ rest) (further_push_out fates cause [])
further_push_out (None ∷ fates) cause (fate ∷ more) = ap (λ rest. fate ∷ rest) (further_push_out fates cause more)

pub further_push_in : (fates more : Fates) (fate : Option LossCause) → length more ≡ staying fates
    → further (fates ++ None ∷ []) (more ++ fate ∷ []) ≡ further fates more ++ fate ∷ []
further_push_in [] [] fate e = refl
further_push_in [] (other ∷ more) fate e = absurd (omega (arith, e))
further_push_in (Some cause ∷ fates) more fate e = ap (λ rest. Some cause ∷ rest) (further_push_in fates more fate e)
further_push_in (None ∷ fates) [] fate e = absurd (omega (arith, e))
further_push_in (None ∷ fates) (other ∷ more) fate e = ap (λ rest. other ∷ rest) (further_push_in fates more fate (suc_same e))

module _ {A : Type 0} where
  pub still_in_push_out : (fates : Fates) (cause : LossCause) (xs : List A) (x : A) → length fates ≡ length xs
      → still_in (fates ++ Some cause ∷ []) (xs ++ x ∷ []) ≡ still_in fates xs
  still_in_push_out [] cause [] x e = refl
  still_in_push_out [] cause (y ∷ ys) x e = absurd (omega (arith, e))
  still_in_push_out (fate ∷ fates) cause [] x e = absurd (omega (arith, e))
  still_in_push_out (None ∷ fates) cause (y ∷ ys) x e = ap (λ rest. y ∷ rest) (still_in_push_out fates cause ys x (suc_same e))
  still_in_push_out (Some other ∷ fates) cause (y ∷ ys) x e = still_in_push_out fates cause ys x (suc_same e)

  pub still_in_push_in : (fates : Fates) (xs : List A) (x : A) → length fates ≡ length xs
      → still_in (fates ++ None ∷ []) (xs ++ x ∷ []) ≡ still_in fates xs ++ x ∷ []
  still_in_push_in [] [] x e = refl
  still_in_push_in [] (y ∷ ys) x e = absurd (omega (arith, e))
  still_in_push_in (fate ∷ fates) [] x e = absurd (omega (arith, e))
  still_in_push_in (None ∷ fates) (y ∷ ys) x e = ap (λ rest. y ∷ rest) (still_in_push_in fates ys x (suc_same e))
  still_in_push_in (Some other ∷ fates) (y ∷ ys) x e = still_in_push_in fates ys x (suc_same e)

  pub length-still_in : (fates : Fates) (xs : List A) → length fates ≡ length xs → length (still_in fates xs) ≡ staying fates
  length-still_in [] xs e = refl
  length-still_in (fate ∷ fates) [] e = absurd (omega (arith, e))
  length-still_in (None ∷ fates) (x ∷ xs) e = ap suc (length-still_in fates xs (suc_same e))
  length-still_in (Some cause ∷ fates) (x ∷ xs) e = length-still_in fates xs (suc_same e)

pub still_in_map : {A B : Type 0} (f : A → B) (fates : Fates) (xs : List A) → still_in fates (map f xs) ≡ map f (still_in fates xs)
still_in_map f [] xs = refl
still_in_map f (fate ∷ fates) [] = refl
still_in_map f (None ∷ fates) (x ∷ xs) = ap (λ rest. f x ∷ rest) (still_in_map f fates xs)
still_in_map f (Some cause ∷ fates) (x ∷ xs) = still_in_map f fates xs

-- ---- further fates

pub length-further : (fates more : Fates) → length (further fates more) ≡ length fates
length-further [] more = refl
length-further (Some cause ∷ fates) more = ap suc (length-further fates more)
length-further (None ∷ fates) [] = ap suc (length-further fates [])
length-further (None ∷ fates) (fate ∷ more) = ap suc (length-further fates more)

pub still_in_further : {A : Type 0} (fates more : Fates) (xs : List A) → length fates ≡ length xs → length more ≡ staying fates
    → still_in (further fates more) xs ≡ still_in more (still_in fates xs)
still_in_further [] [] xs e f = refl
still_in_further [] (fate ∷ more) xs e f = absurd (omega (arith, f))
still_in_further (fate ∷ fates) more [] e f = absurd (omega (arith, e))
still_in_further (Some cause ∷ fates) more (x ∷ xs) e f = still_in_further fates more xs (suc_same e) f
still_in_further (None ∷ fates) [] (x ∷ xs) e f = absurd (omega (arith, f))
still_in_further (None ∷ fates) (None ∷ more) (x ∷ xs) e f = ap (λ rest. x ∷ rest) (still_in_further fates more xs (suc_same e) (suc_same f))
still_in_further (None ∷ fates) (Some cause ∷ more) (x ∷ xs) e f = still_in_further fates more xs (suc_same e) (suc_same f)

pub further_again : (fates more others : Fates) → length more ≡ staying fates
    → further (further fates more) others ≡ further fates (further more others)
further_again [] more others f = refl
further_again (Some cause ∷ fates) more others f = ap (λ rest. Some cause ∷ rest) (further_again fates more others f)
further_again (None ∷ fates) [] others f = absurd (omega (arith, f))
further_again (None ∷ fates) (Some cause ∷ more) others f = ap (λ rest. Some cause ∷ rest) (further_again fates more others (suc_same f))
further_again (None ∷ fates) (None ∷ more) [] f = ap (λ (rest : Fates). None ∷ rest) (further_again fates more [] (suc_same f))
further_again (None ∷ fates) (None ∷ more) (fate ∷ others) f = ap (λ rest. fate ∷ rest) (further_again fates more others (suc_same f))
