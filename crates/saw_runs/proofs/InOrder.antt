-- Lists by rising bytes stay so where something else is put at a byte.
use Rattle.std.proofs.Common.{◌≡◌, ℕ, ◌<◌, Bool, true, false, cond, List, [], ◌∷◌, map, refl, sym, ap, ◌∙◌, subst, arith, nat_eq, nat_lt, Option, Some, None, inl, inr}
use Rattle.std.specs.List.{AllByRecursion}
use Rattle.std.specs.List.Sorted.{IsStrictlySortedBy}
use Rattle.std.specs.Ordering.{nat_cmp}
use Rattle.std.specs.Cmp.{nat_cmp_is}
use Rattle.std.specs.declared.cmp.Ordering.TheVariants.{Less, Equal, Greater}
use Rattle.std.proofs.lemmas.Bool.{cases_eq, cases_lt, both_ways, eq-eqb, eqb-true, lt-ltb, ltb-true}
use Rattle.saw_runs.specs.Tables.{in_front, replaced}
use Rattle.saw_runs.specs.Lowers.{kid_pair}
use Rattle.saw_runs.specs.declared.lowers.Lower.{Lower}
use Rattle.saw_runs.specs.declared.lowers.Kid.{Kid}

pub less_is : (x y : ℕ) → nat_cmp x y ≡ Less → x < y
less_is x y e = elim (cases_lt x y) [
  | inl lt ↦ lt
  | inr ge ↦ elim (cases_eq x y) [
    | inl same ↦ absurd (not_equal (nat_cmp_is x y Equal same ∙ e))
    | inr apart ↦ absurd (not_greater (nat_cmp_is x y Greater (omega (arith, ge, apart)) ∙ e))
  ]
]
  where
    not_equal : Equal ≡ Less → ⊥
    not_equal e = cc

    not_greater : Greater ≡ Less → ⊥
    not_greater e = cc

pub weaker : (x y : ℕ) (bs : List ℕ) → x < y → AllByRecursion (λ z. nat_cmp y z ≡ Less) bs → AllByRecursion (λ z. nat_cmp x z ≡ Less) bs
weaker x y [] lt all = tt
weaker x y (z ∷ bs) lt all = let l : y < z = less_is y z all.0 in (sym (nat_cmp_is x z Less (omega (arith, lt, l))), weaker x y bs lt all.1)

abbrev pub bytes_in : List (ℕ × Lower) → List ℕ
bytes_in xs = map (λ (e : ℕ × Lower). e.0) xs

greater : (x b : ℕ) → nat_lt x b ≡ false → nat_eq x b ≡ false → b < x
greater x b ge ne = elim (cases_lt x b) [
  | inl lt ↦ absurd (both_ways _ ge (lt-ltb x b lt))
  | inr le ↦ elim (cases_eq x b) [
    | inl same ↦ absurd (both_ways _ ne (eq-eqb x b same))
    | inr apart ↦ omega (arith, le, apart)
  ]
]

above_front : (x b : ℕ) (o : Option Lower) (xs : List (ℕ × Lower)) → x < b → AllByRecursion (λ y. nat_cmp x y ≡ Less) (bytes_in xs)
    → AllByRecursion (λ y. nat_cmp x y ≡ Less) (bytes_in (in_front b o xs))
above_front x b None xs lt all = all
above_front x b (Some h) xs lt all = (sym (nat_cmp_is x b Less lt), all)

above_rest : (x : ℕ) (v : Bool) (c : ℕ × Lower) (xs : List (ℕ × Lower)) → AllByRecursion (λ y. nat_cmp x y ≡ Less) (bytes_in (c ∷ xs))
    → AllByRecursion (λ y. nat_cmp x y ≡ Less) (bytes_in (cond v xs (c ∷ xs)))
above_rest x true c xs all = all.1
above_rest x false c xs all = all

above_replaced : (x b : ℕ) (o : Option Lower) (xs : List (ℕ × Lower)) → x < b → AllByRecursion (λ y. nat_cmp x y ≡ Less) (bytes_in xs)
    → AllByRecursion (λ y. nat_cmp x y ≡ Less) (bytes_in (replaced b o xs))
above_replaced x b o [] lt all = above_front x b o [] lt tt
above_replaced x b o (c ∷ xs) lt all =
    elim (nat_lt c.0 b) as
    (λ v. AllByRecursion (λ y. nat_cmp x y ≡ Less)
    (bytes_in (cond v (c ∷ replaced b o xs) (in_front b o (cond (nat_eq c.0 b) xs (c ∷ xs)))))) [
      | true ↦ (all.0, above_replaced x b o xs lt all.1)
      | false ↦ above_front x b o _ lt (above_rest x (nat_eq c.0 b) c xs all)
    ]

rising_front : (b : ℕ) (o : Option Lower) (xs : List (ℕ × Lower)) → AllByRecursion (λ y. nat_cmp b y ≡ Less) (bytes_in xs)
    → IsStrictlySortedBy nat_cmp (bytes_in xs) → IsStrictlySortedBy nat_cmp (bytes_in (in_front b o xs))
unfolding IsStrictlySortedBy
rising_front b None xs all rising = rising
rising_front b (Some h) xs all rising = (all, rising)

rising-replaced : (b : ℕ) (o : Option Lower) (xs : List (ℕ × Lower)) → IsStrictlySortedBy nat_cmp (bytes_in xs)
    → IsStrictlySortedBy nat_cmp (bytes_in (replaced b o xs))
unfolding IsStrictlySortedBy
rising-replaced b o [] rising = rising_front b o [] tt tt
rising-replaced b o (c ∷ xs) rising =
    let step : (v w : Bool) → nat_lt c.0 b ≡ v → nat_eq c.0 b ≡ w
    → IsStrictlySortedBy nat_cmp (bytes_in (cond v (c ∷ replaced b o xs) (in_front b o (cond w xs (c ∷ xs))))) =
    elim [
      | true ↦ λ w lt eq. (above_replaced c.0 b o xs (ltb-true c.0 b lt) rising.0, rising-replaced b o xs rising.1)
      | false ↦ elim [
        | true ↦ λ ge eq. rising_front b o xs (subst (λ x. AllByRecursion (λ y. nat_cmp x y ≡ Less) (bytes_in xs)) (eqb-true c.0 b eq) rising.0)
            rising.1
        | false ↦ λ ge ne.
            let lt : b < c.0 = greater c.0 b ge ne in
            rising_front b o (c ∷ xs) (sym (nat_cmp_is b c.0 Less lt), weaker b c.0 (bytes_in xs) lt rising.0) rising
      ]
    ] in
    step (nat_lt c.0 b) (nat_eq c.0 b) refl refl

bytes_are : (kids : List Kid) → map (λ kid. kid.byte) kids ≡ bytes_in (map kid_pair kids)
bytes_are [] = refl
bytes_are (kid ∷ kids) = ap (λ bs. kid.byte ∷ bs) (bytes_are kids)

-- kids rise also where another one is put
pub kids_rise : (b : ℕ) (o : Option Lower) (kids after : List Kid) → map kid_pair after ≡ replaced b o (map kid_pair kids)
    → IsStrictlySortedBy nat_cmp (map (λ kid. kid.byte) kids) → IsStrictlySortedBy nat_cmp (map (λ kid. kid.byte) after)
kids_rise b o kids after is rising =
    subst (IsStrictlySortedBy nat_cmp) (sym (bytes_are after ∙ ap bytes_in is))
    (rising-replaced b o (map kid_pair kids) (subst (IsStrictlySortedBy nat_cmp) (bytes_are kids) rising))

pub one_rises : (b : ℕ) → IsStrictlySortedBy nat_cmp (b ∷ [])
unfolding IsStrictlySortedBy
one_rises b = (tt, tt)

pub none_rise : IsStrictlySortedBy nat_cmp []
unfolding IsStrictlySortedBy
none_rise = tt
