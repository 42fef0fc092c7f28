-- Changes of an address: which of them pass a test, and where they stand.
use Rattle.std.proofs.Common.{◌≡◌, ◌<◌, ◌≤◌, ◌+◌, ℕ, zero, suc, Bool, true, false, cond, List, [], ◌∷◌, ◌++◌, filter, length, take, drop, get_or, Option, Some, None, slice_get, refl, sym, ap, subst, ◌∙◌, arith, ◌⊎◌, inl, inr, true≢false, bytes_eq, if◌then◌else◌}
use Rattle.std.specs.List.{AllByRecursion}
use Rattle.std.specs.Option.{option_or}
use Rattle.std.proofs.lemmas.Option.{slice_get_cases}
use Rattle.saw_messages.specs.declared.outcome.Change.{Change}
use Rattle.saw_schedule.specs.Lasts.{changes_at, changes_if, changes_in, lefts_in, lefts_of}
use Rattle.saw_schedule.specs.Layering.{IsHeldEnd, lefts_to}
use Rattle.saw_schedule.specs.Shown.{last_held}
use Rattle.saw_schedule.specs.declared.lasts.Left.{Left}
use Rattle.saw_schedule.specs.declared.step.Step.{Step}
use Rattle.saw_schedule.proofs.Showings.{last-at, or-none}

-- ---- lists

pub all-append : {A : Type 0} (P : A → Type 0) (xs ys : List A) → AllByRecursion P xs → AllByRecursion P ys → AllByRecursion P (xs ++ ys)
all-append P [] ys first second = second
all-append P (x ∷ xs) ys first second = (first.0, all-append P xs ys first.1 second)

pub all-weaker : {A : Type 0} (P Q : A → Type 0) (xs : List A) → ((x : A) → P x → Q x) → AllByRecursion P xs → AllByRecursion Q xs
all-weaker P Q [] weaker all = tt
all-weaker P Q (x ∷ xs) weaker all = (weaker x all.0, all-weaker P Q xs weaker all.1)

pub all-take : {A : Type 0} (P : A → Type 0) (n : ℕ) (xs : List A) → AllByRecursion P xs → AllByRecursion P (take n xs)
all-take P zero xs all = tt
all-take P (suc n) [] all = tt
all-take P (suc n) (x ∷ xs) all = (all.0, all-take P n xs all.1)

take-get : {A : Type 0} (n k : ℕ) (xs : List A) (x : A) → slice_get (take n xs) k ≡ Some x → slice_get xs k ≡ Some x
take-get zero k xs x e = absurd (grind arith)
take-get (suc n) k [] x e = absurd (grind arith)
take-get (suc n) zero (y ∷ xs) x e = e
take-get (suc n) (suc k) (y ∷ xs) x e = take-get n k xs x e

pub get-taken : {A : Type 0} (n k : ℕ) (xs : List A) (d : A) → k < n → get_or (take n xs) k d ≡ get_or xs k d
get-taken zero k xs d less = absurd (omega arith)
get-taken (suc n) k [] d less = refl
get-taken (suc n) zero (x ∷ xs) d less = refl
get-taken (suc n) (suc k) (x ∷ xs) d less = get-taken n k xs d (omega (arith, less))

pub filter-append : (test : Left → Bool) (xs ys : List Left) → filter test (xs ++ ys) ≡ filter test xs ++ filter test ys
filter-append test [] ys = refl
filter-append test (x ∷ xs) ys = rw (filter-append test xs ys) (go (test x))
  where
    go : (b : Bool) → cond b (x ∷ filter test xs ++ filter test ys) (filter test xs ++ filter test ys) ≡ cond b (x ∷ filter test xs) (filter test xs) ++ filter test ys
    go true = refl
    go false = refl

take-drop : {A : Type 0} (n : ℕ) (xs : List A) → take n xs ++ drop n xs ≡ xs
take-drop zero xs = refl
take-drop (suc n) [] = refl
take-drop (suc n) (x ∷ xs) = ap (λ (rest : List _). x ∷ rest) (take-drop n xs)

-- ---- what passes a test

-- what passes g is among what passes f, where whatever passes g passes f
pub filter-within : (f g : Left → Bool) (xs : List Left) → AllByRecursion (λ left. g left ≡ true → f left ≡ true) xs → filter g xs ≡ filter g (filter f xs)
filter-within f g [] all = refl
filter-within f g (x ∷ xs) all = go (filter-within f g xs all.1) (f x) refl (g x) refl
  where
    go : filter g xs ≡ filter g (filter f xs) → (a : Bool) → f x ≡ a → (b : Bool) → g x ≡ b
        → cond (g x) (x ∷ filter g xs) (filter g xs) ≡ filter g (cond (f x) (x ∷ filter f xs) (filter f xs))
    go more true p b q = rw p (ap (λ (rest : List Left). cond (g x) (x ∷ rest) rest) more)
    go more false p true q = absurd (true≢false (sym (all.0 q) ∙ p))
    go more false p false q = rw (p, q) more

-- lists with the same that passes f have the same that passes g
pub same-within : (f g : Left → Bool) (xs ys : List Left) → AllByRecursion (λ left. g left ≡ true → f left ≡ true) xs
    → AllByRecursion (λ left. g left ≡ true → f left ≡ true) ys → filter f xs ≡ filter f ys → filter g xs ≡ filter g ys
same-within f g xs ys all_xs all_ys same = filter-within f g xs all_xs ∙ (ap (filter g) same ∙ sym (filter-within f g ys all_ys))

-- the last that passes is the last of those that pass
last-filter : (test : Left → Bool) (xs : List Left) → last_held test xs ≡ last_held test (filter test xs)
last-filter test [] = refl
last-filter test (x ∷ xs) = go (last-filter test xs) (test x) refl
  where
    go : last_held test xs ≡ last_held test (filter test xs) → (b : Bool) → test x ≡ b
        → option_or (last_held test xs) (if test x then Some x else None) ≡ last_held test (cond (test x) (x ∷ filter test xs) (filter test xs))
    go more true e = rw (e, e) (ap (λ (found : Option Left). option_or found (Some x)) more)
    go more false e = rw e (or-none (last_held test xs) ∙ more)

pub same-last : (test : Left → Bool) (xs ys : List Left) → filter test xs ≡ filter test ys → last_held test xs ≡ last_held test ys
same-last test xs ys same = last-filter test xs ∙ (ap (last_held test) same ∙ sym (last-filter test ys))

pub last-append : (test : Left → Bool) (xs : List Left) (x : Left) → test x ≡ true → last_held test (xs ++ x ∷ []) ≡ Some x
last-append test [] x e = rw e refl
last-append test (y ∷ xs) x e = rw (last-append test xs x e) refl

pub last-passed : (test : Left → Bool) (xs : List Left) (x : Left) → test x ≡ false → last_held test (xs ++ x ∷ []) ≡ last_held test xs
last-passed test [] x e = rw e refl
last-passed test (y ∷ xs) x e = rw (last-passed test xs x e) refl

-- what holds of all holds of the last
pub of-last : (P : Left → Type 0) (test : Left → Bool) (xs : List Left) (left : Left) → AllByRecursion P xs → last_held test xs ≡ Some left → P left
of-last P test [] left all e = absurd (grind arith)
of-last P test (x ∷ xs) left all e = go (λ found. of-last P test xs left all.1 found) (last_held test xs) refl (test x) e
  where
    some-same : (a b : Left) → Some a ≡ Some b → a ≡ b
    some-same a b same = cc

    go : (last_held test xs ≡ Some left → P left) → (found : Option Left) → last_held test xs ≡ found → (b : Bool) → option_or found (if b then Some x else None) ≡ Some left → P left
    go more (Some other) is b same = more (is ∙ same)
    go more None is true same = subst P (some-same x left same) all.0
    go more None is false same = absurd (grind arith)

-- two tests find the same last one, or there is one of which they say different things
pub same-or-found : (P Q : Left → Type 0) (f g : Left → Bool) (xs : List Left) → AllByRecursion P xs → ((left : Left) → P left → (g left ≡ f left) ⊎ Q left)
    → (last_held g xs ≡ last_held f xs) ⊎ ((left : Left) × P left × Q left)
same-or-found P Q f g [] all each = inl refl
same-or-found P Q f g (x ∷ xs) all each = go (each x all.0) (same-or-found P Q f g xs all.1 each)
  where
    go : (g x ≡ f x) ⊎ Q x → (last_held g xs ≡ last_held f xs) ⊎ ((left : Left) × P left × Q left) → (last_held g (x ∷ xs) ≡ last_held f (x ∷ xs)) ⊎ ((left : Left) × P left × Q left)
    go (inr q) others = inr (x, all.0, q)
    go (inl same) (inr found) = inr found
    go (inl same) (inl more) = inl (rw (same, more) refl)

-- ---- the end of a list

pub none-passes : (test : Left → Bool) (xs : List Left) → filter test xs ≡ [] → last_held test xs ≡ None
none-passes test xs none = last-filter test xs ∙ ap (last_held test) none

-- none is left where all were passed
pub none-to : (test : Left → Bool) (xs : List Left) → filter test (drop 0 xs) ≡ [] → last_held test xs ≡ None
none-to test xs none = none-passes test xs none

module _ (test : Left → Bool) (xs : List Left) (end : ℕ) (is : IsHeldEnd test xs end) where
  -- what stands before the end is what passes
  pub held-before : filter test (take end xs) ≡ filter test xs
  held-before = sym (ap (filter test) (sym (take-drop end xs)) ∙ (filter-append test (take end xs) (drop end xs)
      ∙ (ap (λ (rest : List Left). filter test (take end xs) ++ rest) is.behind ∙ nil (filter test (take end xs)))))
    where
      nil : (ys : List Left) → ys ++ [] ≡ ys
      nil [] = refl
      nil (y ∷ ys) = ap (λ (rest : List Left). y ∷ rest) (nil ys)

  pub no-end : end ≡ 0 → last_held test xs ≡ None
  no-end e = none-passes test xs (subst (λ (n : ℕ). filter test (drop n xs) ≡ []) e is.behind)

  pub at-end : (place : ℕ) (d : Left) → end ≡ suc place → last_held test xs ≡ Some (get_or xs place d)
  at-end place d e =
      last-at test xs place d (let w : end ≤ length xs = is.within in omega (arith, w, e))
      (none-passes test (drop (suc place) xs) (subst (λ (n : ℕ). filter test (drop n xs) ≡ []) e is.behind)) (is.last place d e)

-- one more from the end on does not pass
pub passed-over : (test : Left → Bool) (xs : List Left) (place : ℕ) (d : Left) → place < length xs → filter test (drop (suc place) xs) ≡ [] → test (get_or xs place d) ≡ false
    → filter test (drop place xs) ≡ []
passed-over test [] place d inside none fails = absurd (omega arith)
passed-over test (x ∷ xs) zero d inside none fails = rw fails none
passed-over test (x ∷ xs) (suc place) d inside none fails = passed-over test xs place d (omega (arith, inside)) none fails

-- ---- where changes stand

-- the change stands among those of the result at its place, and is of the address
abbrev pub IsChangeOf : List Step → List ℕ → Left → Type 0
IsChangeOf steps at left = (change : Change) × (slice_get (changes_at steps left.place) left.change ≡ Some change) × (bytes_eq change.address at ≡ true)

module _ (steps : List Step) (at : List ℕ) where
  in-one-step : (place n : ℕ) (changes : List Change) → ((k : ℕ) (change : Change) → slice_get changes k ≡ Some change → slice_get (changes_at steps place) (n + k) ≡ Some change)
      → AllByRecursion (IsChangeOf steps at) (lefts_in place n changes at)
  in-one-step place n [] stands = tt
  in-one-step place n (change ∷ changes) stands = all-append (IsChangeOf steps at) (if bytes_eq change.address at then record { place = place; change = n } ∷ [] else []) (lefts_in place (suc n) changes at)
      (go (bytes_eq change.address at) refl)
      (in-one-step place (suc n) changes (λ k other e. let more : n + suc k ≡ suc n + k = omega arith in ap (λ m. slice_get (changes_at steps place) m) (sym more) ∙ stands (suc k) other e))
    where
      here : slice_get (changes_at steps place) n ≡ Some change
      here = let same : n ≡ n + 0 = omega arith in ap (λ m. slice_get (changes_at steps place) m) same ∙ stands 0 change refl

      go : (b : Bool) → bytes_eq change.address at ≡ b → AllByRecursion (IsChangeOf steps at) (if b then record { place = place; change = n } ∷ [] else [])
      go true e = ((change, here, e), tt)
      go false e = tt

  in-steps : (place : ℕ) (rest : List Step) → ((k : ℕ) (step : Step) → slice_get rest k ≡ Some step → slice_get steps (place + k) ≡ Some step)
      → AllByRecursion (IsChangeOf steps at) (lefts_of place rest at)
  in-steps place [] stands = tt
  in-steps place (step ∷ rest) stands =
      all-append (IsChangeOf steps at) (lefts_in place 0 (changes_in step) at) (lefts_of (suc place) rest at)
      (in-one-step place 0 (changes_in step) (λ k change e. let same : 0 + k ≡ k = omega arith in ap (λ n. slice_get (changes_at steps place) n) same ∙ (ap (λ (all : List Change). slice_get all k) (ap changes_if here) ∙ e)))
      (in-steps (suc place) rest (λ k other e. let more : place + suc k ≡ suc place + k = omega arith in ap (λ m. slice_get steps m) (sym more) ∙ stands (suc k) other e))
    where
      here : slice_get steps place ≡ Some step
      here = let same : place ≡ place + 0 = omega arith in ap (λ m. slice_get steps m) same ∙ stands 0 step refl

  -- each change that was gone through stands where it says
  pub all-stand : (place change : ℕ) → AllByRecursion (IsChangeOf steps at) (lefts_to steps place change at)
  all-stand place change = all-append (IsChangeOf steps at) (lefts_of 0 (take place steps) at) (lefts_in place 0 (take change (changes_at steps place)) at)
      (in-steps 0 (take place steps) (λ k step e. let same : 0 + k ≡ k = omega arith in ap (λ n. slice_get steps n) same ∙ take-get place k steps step e))
      (in-one-step place 0 (take change (changes_at steps place)) (λ k one e. let same : 0 + k ≡ k = omega arith in ap (λ n. slice_get (changes_at steps place) n) same ∙ take-get change k (changes_at steps place) one e))

-- a place at which there is a change is one of the steps
pub place-there : (steps : List Step) (place n : ℕ) (change : Change) → slice_get (changes_at steps place) n ≡ Some change → place < length steps
place-there steps place n change e = elim (slice_get_cases steps place).1 [
  | inl found ↦ found.1
  | inr past ↦ absurd (none≢some (sym (ap (λ (step : Option Step). slice_get (changes_if step) n) past.1) ∙ e))
]
  where
    none≢some : slice_get (changes_if None) n ≡ Some change → ⊥
    none≢some same = grind arith

-- past the steps there is none
pub none-past : (steps : List Step) (place : ℕ) → length steps ≤ place → changes_at steps place ≡ []
none-past steps place past = elim (slice_get_cases steps place).1 [
  | inl found ↦ let less : place < length steps = found.1 in absurd (omega (arith, past, less))
  | inr out ↦ ap changes_if out.1
]
