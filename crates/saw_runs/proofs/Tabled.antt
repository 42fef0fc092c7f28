-- Tables over the bytes, and lists by rising bytes.
use Rattle.std.proofs.Common.{◌≡◌, ◌≢◌, ℕ, zero, suc, ◌+◌, ◌<◌, ◌≤◌, Bool, true, false, cond, List, [], ◌∷◌, map, refl, sym, ap, ◌∙◌, subst, arith, nat_eq, nat_lt, Option, Some, None, inl, inr}
use Rattle.std.specs.Prelude.{is_some}
use Rattle.std.specs.Option.{option_map}
use Rattle.std.specs.List.{filter, range_with_len, AllByRecursion}
use Rattle.std.proofs.lemmas.Bool.{cases_Bool, cases_eq, eq-eqb, ne_eqb, lt-ltb, ltb-true}
use Rattle.saw_runs.specs.Tables.{at_byte, in_front, table, replaced, with_at}

-- a number is not below a lesser one
pub not_below : (a b : ℕ) → b ≤ a → nat_lt a b ≡ false
not_below a b le = elim (cases_Bool (nat_lt a b)) [
  | inl h ↦ let lt : a < b = ltb-true a b h in absurd (omega (arith, le, lt))
  | inr h ↦ h
]

module _ {A : Type 0} where
  pub table-same : (g k : ℕ → Option A) (a n : ℕ) → ((c : ℕ) → a ≤ c → c < a + n → g c ≡ k c) → table g a n ≡ table k a n
  table-same g k a zero same = refl
  table-same g k a (suc n) same =
      let here : g a ≡ k a = same a (omega arith) (omega arith) in
      let rest : table g (a + 1) n ≡ table k (a + 1) n = table-same g k (a + 1) n (λ c low high. same c (omega (arith, low)) (omega (arith, high))) in
      λ i. in_front a (here i) (rest i)

  lookup_front : (b a : ℕ) (o : Option A) (xs : List (ℕ × A)) → a ≢ b → at_byte b (in_front a o xs) ≡ at_byte b xs
  lookup_front b a None xs apart = refl
  lookup_front b a (Some x) xs apart = ap (λ u. cond u (Some x) (at_byte b xs)) (ne_eqb a b apart)

  lookup_above : (g : ℕ → Option A) (b a n : ℕ) → b < a → at_byte b (table g a n) ≡ None
  lookup_above g b a zero lt = refl
  lookup_above g b a (suc n) lt = lookup_front b a (g a) (table g (a + 1) n) (λ e. omega (arith, e, lt)) ∙ lookup_above g b (a + 1) n (omega arith)

  lookup_here : (b : ℕ) (o : Option A) (xs : List (ℕ × A)) → at_byte b xs ≡ None → at_byte b (in_front b o xs) ≡ o
  lookup_here b None xs none = none
  lookup_here b (Some x) xs none = ap (λ u. cond u (Some x) (at_byte b xs)) (eq-eqb b b refl)

  -- what stands at a byte of a table
  pub at_byte-table : (g : ℕ → Option A) (b a n : ℕ) → a ≤ b → b < a + n → at_byte b (table g a n) ≡ g b
  at_byte-table g b a zero low high = absurd (omega (arith, low, high))
  at_byte-table g b a (suc n) low high = elim (cases_eq a b) [
    | inl same ↦ ap (λ c. at_byte b (in_front c (g c) (table g (c + 1) n))) same
        ∙ lookup_here b (g b) (table g (b + 1) n) (lookup_above g b (b + 1) n (omega arith))
    | inr apart ↦ lookup_front b a (g a) (table g (a + 1) n) apart ∙ at_byte-table g b (a + 1) n (omega (arith, low, apart)) (omega (arith, high))
  ]

  replaced_above : (b : ℕ) (o : Option A) (g : ℕ → Option A) (a n : ℕ) → b < a → replaced b o (table g a n) ≡ in_front b o (table g a n)
  replaced_above b o g a zero lt = refl
  replaced_above b o g a (suc n) lt =
      elim (g a) as (λ v. replaced b o (in_front a v (table g (a + 1) n)) ≡ in_front b o (in_front a v (table g (a + 1) n))) [
        | None ↦ replaced_above b o g (a + 1) n (omega arith)
        | Some h ↦ (λ i. cond (not_below a b (omega (arith, lt)) i) ((a, h) ∷ replaced b o (table g (a + 1) n))
            (in_front b o (cond (ne_eqb a b (λ e. omega (arith, e, lt)) i) (table g (a + 1) n) ((a, h) ∷ table g (a + 1) n))))
      ]

  replaced_here : (b : ℕ) (o v : Option A) (g : ℕ → Option A) (n : ℕ)
      → replaced b o (in_front b v (table g (b + 1) n)) ≡ in_front b o (table g (b + 1) n)
  replaced_here b o None g n = replaced_above b o g (b + 1) n (omega arith)
  replaced_here b o (Some h) g n = λ i. cond (not_below b b (omega arith) i) ((b, h) ∷ replaced b o (table g (b + 1) n))
      (in_front b o (cond (eq-eqb b b refl i) (table g (b + 1) n) ((b, h) ∷ table g (b + 1) n)))

  replaced_later : (b a : ℕ) (o v : Option A) (xs : List (ℕ × A)) → a < b
      → replaced b o (in_front a v xs) ≡ in_front a v (replaced b o xs)
  replaced_later b a o None xs lt = refl
  replaced_later b a o (Some h) xs lt = ap (λ u. cond u ((a, h) ∷ replaced b o xs) (in_front b o (cond (nat_eq a b) xs ((a, h) ∷ xs))))
      (lt-ltb a b lt)

  -- a table with something else at a byte
  pub replaced-table : (b : ℕ) (o : Option A) (g : ℕ → Option A) (a n : ℕ) → a ≤ b → b < a + n
      → replaced b o (table g a n) ≡ table (with_at g b o) a n
  replaced-table b o g a zero low high = absurd (omega (arith, low, high))
  replaced-table b o g a (suc n) low high = elim (cases_eq a b) [
    | inl same ↦
        ap (λ c. replaced b o (in_front c (g c) (table g (c + 1) n))) same ∙ replaced_here b o (g b) g n
        ∙ ap (λ v. in_front b v (table g (b + 1) n)) (sym (ap (λ u. cond u o (g b)) (eq-eqb b b refl)))
        ∙ ap (in_front b (with_at g b o b))
        (table-same g (with_at g b o) (b + 1) n (λ c l h. sym (ap (λ u. cond u o (g c)) (ne_eqb c b (λ e. omega (arith, e, l))))))
        ∙ ap (λ c. in_front c (with_at g b o c) (table (with_at g b o) (c + 1) n)) (sym same)
    | inr apart ↦
        replaced_later b a o (g a) (table g (a + 1) n) (omega (arith, low, apart))
        ∙ ap (in_front a (g a)) (replaced-table b o g (a + 1) n (omega (arith, low, apart)) (omega (arith, high)))
        ∙ ap (λ v. in_front a v (table (with_at g b o) (a + 1) n)) (sym (ap (λ u. cond u o (g a)) (ne_eqb a b apart)))
  ]

  -- a table that has nothing
  pub table_none : (g : ℕ → Option A) (a n : ℕ) → ((c : ℕ) → a ≤ c → c < a + n → g c ≡ None) → table g a n ≡ []
  table_none g a zero none = refl
  table_none g a (suc n) none =
      let here = none a (omega arith) (omega arith) in
      let rest = table_none g (a + 1) n (λ c low high. none c (omega (arith, low)) (omega (arith, high))) in
      λ i. in_front a (here i) (rest i)

  -- one thing alone
  pub table_one : (b : ℕ) (x : A) → b < 256 → (b, x) ∷ [] ≡ table (with_at (λ c. None) b (Some x)) 0 256
  table_one b x lt = ap (replaced b (Some x)) (sym (table_none (λ c. None) 0 256 (λ c low high. refl))) ∙ replaced-table b (Some x) (λ c. None) 0 256 (omega arith) (omega (arith, lt))

  -- a list given by a test and a function
  pub table-filter : (t : ℕ → Bool) (f : ℕ → A) (a n : ℕ)
      → map (λ b. (b, f b)) (filter t (range_with_len a n)) ≡ table (λ b. cond (t b) (Some (f b)) None) a n
  table-filter t f a zero = refl
  table-filter t f a (suc n) =
      let rest = table-filter t f (a + 1) n in
      elim (t a) as (λ v. map (λ b. (b, f b)) (cond v (a ∷ filter t (range_with_len (a + 1) n)) (filter t (range_with_len (a + 1) n))) ≡ in_front a
      (cond v (Some (f a)) None) (table (λ b. cond (t b) (Some (f b)) None) (a + 1) n)) [
        | true ↦ ap (λ cs. (a, f a) ∷ cs) rest
        | false ↦ rest
      ]

  -- each thing in a list that is a table stands there
  table_from : (g : ℕ → Option A) (a : ℕ) (xs : List (ℕ × A)) → a < 256 → AllByRecursion (λ (e : ℕ × A). (e.0 < 256) × (g e.0 ≡ Some e.1)) xs
      → (o : Option A) → g a ≡ o → AllByRecursion (λ (e : ℕ × A). (e.0 < 256) × (g e.0 ≡ Some e.1)) (in_front a o xs)
  table_from g a xs small rest None is = rest
  table_from g a xs small rest (Some x) is = ((small, is), rest)

  pub table_is : (g : ℕ → Option A) (a n : ℕ) → a + n ≤ 256 → AllByRecursion (λ (e : ℕ × A). (e.0 < 256) × (g e.0 ≡ Some e.1)) (table g a n)
  table_is g a zero low = tt
  table_is g a (suc n) low =
      table_from g a (table g (a + 1) n) (omega (arith, low)) (table_is g (a + 1) n (omega (arith, low))) (g a) refl

  -- what holds of all in a table holds of each
  pub all_in_table : (P : A → Type 0) (g : ℕ → Option A) (a n : ℕ) → AllByRecursion (λ (e : ℕ × A). P e.1) (table g a n) → (b : ℕ) (x : A) → a ≤ b → b < a + n
      → g b ≡ Some x → P x
  all_in_table P g a zero all b x low high is = absurd (omega (arith, low, high))
  all_in_table P g a (suc n) all b x low high is = elim (cases_eq a b) [
    | inl same ↦ first (g a) (ap g same ∙ is) all
    | inr apart ↦ all_in_table P g (a + 1) n (rest (g a) all) b x (omega (arith, low, apart)) (omega (arith, high)) is
  ]
    where
      first : (o : Option A) → o ≡ Some x → AllByRecursion (λ (e : ℕ × A). P e.1) (in_front a o (table g (a + 1) n)) → P x
      first None e all = absurd cc
      first (Some y) e all = let same : y ≡ x = cc in subst P same all.0

      rest : (o : Option A) → AllByRecursion (λ (e : ℕ × A). P e.1) (in_front a o (table g (a + 1) n)) → AllByRecursion (λ (e : ℕ × A). P e.1) (table g (a + 1) n)
      rest None all = all
      rest (Some y) all = all.1

front_bytes : {A : Type 0} (a : ℕ) (xs : List (ℕ × A)) (ys : List ℕ) → map (λ (e : ℕ × A). e.0) xs ≡ ys → (o : Option A) (v : Bool) → is_some o ≡ v
    → map (λ (e : ℕ × A). e.0) (in_front a o xs) ≡ cond v (a ∷ ys) ys
front_bytes a xs ys rest None v e = rest ∙ ap (λ u. cond u (a ∷ ys) ys) e
front_bytes a xs ys rest (Some x) v e = ap (λ zs. a ∷ zs) rest ∙ ap (λ u. cond u (a ∷ ys) ys) e

-- the bytes of a table, by a test
pub bytes-table : {A : Type 0} (g : ℕ → Option A) (t : ℕ → Bool) (a n : ℕ) → ((c : ℕ) → a ≤ c → c < a + n → is_some (g c) ≡ t c)
    → map (λ (e : ℕ × A). e.0) (table g a n) ≡ filter t (range_with_len a n)
bytes-table g t a zero same = refl
bytes-table g t a (suc n) same =
    front_bytes a (table g (a + 1) n) (filter t (range_with_len (a + 1) n))
    (bytes-table g t (a + 1) n (λ c low high. same c (omega (arith, low)) (omega (arith, high)))) (g a) (t a) (same a (omega arith) (omega arith))

-- what a table becomes by a function of what stands in it
pub map-table : {A B : Type 0} (f : A → B) (g : ℕ → Option A) (a n : ℕ) → map (λ (e : ℕ × A). (e.0, f e.1)) (table g a n) ≡ table (λ c. option_map f (g c)) a n
map-table f g a zero = refl
map-table f g a (suc n) =
    let rest = map-table f g (a + 1) n in
    elim (g a) as (λ o. map (λ e. (e.0, f e.1)) (in_front a o (table g (a + 1) n)) ≡ in_front a (option_map f o) (table (λ c. option_map f (g c)) (a + 1) n)) [
      | None ↦ rest
      | Some x ↦ ap (λ xs. (a, f x) ∷ xs) rest
    ]
