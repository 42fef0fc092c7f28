-- Changes between two lists of entries, part by part.
use Rattle.std.proofs.Common.{◌≡◌, ◌≢◌, ℕ, Bool, true, false, cond, List, [], ◌∷◌, ◌++◌, map, bytes_eq, refl, sym, ap, ◌∙◌, subst, Option, Some, None, inl, inr}
use Rattle.std.specs.Prelude.{is_some, unwrap_or}
use Rattle.std.specs.List.{AllByRecursion}
use Rattle.std.specs.List.Sorted.{IsStrictlySortedBy}
use Rattle.std.specs.FinMap as finite
use Rattle.std.specs.Ordering.{nat_cmp, eq_by_cmp}
use Rattle.std.specs.Cmp.Lexicographic.{slice_cmp, nat_list_cmp_total}
use Rattle.std.specs.declared.cmp.Ordering.TheVariants.{Less}
use Rattle.std.proofs.lemmas.Bool.{true≢false, cases_Bool, both_ways, false_from_ne_true}
use Rattle.std.proofs.lemmas.Cmp.{tied_itself}
use Rattle.std.proofs.lemmas.Map.Lookups.{exact_bytes}
use Rattle.std.proofs.lemmas.Slice.Eq.{bytes_eq-Decides}
use Rattle.saw_address.specs.Maps.{Entries, StateMap, value_at}
use Rattle.saw_address.proofs.Finite.{same_values}
use Rattle.saw_context.specs.Changed.{AreRising}
use Rattle.saw_context.specs.Outcome.{map_after}
use Rattle.saw_context.proofs.Each.{all_append, all_weaker}
use Rattle.saw_context.proofs.Keys.{same_key}
use Rattle.saw_context.proofs.OnTop.{value_after, value_after_apart, value_at-map_after}
use Rattle.saw_messages.specs.declared.outcome.Change.{Change}
use Rattle.saw_node.specs.Trees.{found_at}
use Rattle.saw_node.proofs.Found.{tie}
use Rattle.saw_runs.specs.Differing.{Differ, IsBelow, IsDifference, changes_at, is_same_value, set_at, set_for}
use Rattle.saw_runs.specs.Listing.{entry_at}
use Rattle.saw_runs.proofs.Local.{covers-itself}
use Rattle.saw_runs.proofs.Nexts.{none_of}
use Rattle.saw_runs.proofs.Skipping.{less_apart, not_less}

-- ---- one list behind another

abbrev first_of : {A : Type 0} → Option A → Option A → Option A
first_of (Some x) other = Some x
first_of None other = other

first_alone : {A : Type 0} (o : Option A) → first_of o None ≡ o
first_alone (Some x) = refl
first_alone None = refl

found_at-append : (q : List ℕ) (es fs : Entries) → found_at q (es ++ fs) ≡ first_of (found_at q es) (found_at q fs)
found_at-append q [] fs = refl
found_at-append q (e ∷ es) fs =
    elim (eq_by_cmp (slice_cmp nat_cmp) q e.0) as
    (λ t. cond t (Some e.1) (found_at q (es ++ fs)) ≡ first_of (cond t (Some e.1) (found_at q es)) (found_at q fs)) [
      | true ↦ refl
      | false ↦ found_at-append q es fs
    ]

set_at-append : (q : List ℕ) (xs ys : List Change) → set_at q (xs ++ ys) ≡ first_of (set_at q xs) (set_at q ys)
set_at-append q [] ys = refl
set_at-append q (x ∷ xs) ys =
    elim (bytes_eq x.address q) as
    (λ t. cond t (Some x.value) (set_at q (xs ++ ys)) ≡ first_of (cond t (Some x.value) (set_at q xs)) (set_at q ys)) [
      | true ↦ refl
      | false ↦ set_at-append q xs ys
    ]

-- what is found is one of them
found_is : (Is : List ℕ → Type 0) (q : List ℕ) (es : Entries) → AllByRecursion (λ e. Is e.0) es → is_some (found_at q es) ≡ true → Is q
found_is Is q [] all some = absurd (true≢false (sym some))
found_is Is q (e ∷ es) all some = elim (cases_Bool (eq_by_cmp (slice_cmp nat_cmp) q e.0)) [
  | inl tied ↦ subst Is (sym (exact_bytes q e.0 (tie _ tied))) all.0
  | inr apart ↦ found_is Is q es all.1 (sym (ap (λ t. is_some (cond t (Some e.1) (found_at q es))) apart) ∙ some)
]

module _ (P Q : List ℕ → Type 0) (order : (x y : List ℕ) → P x → Q y → slice_cmp nat_cmp x y ≡ Less) where
  above_all : (x : List ℕ) (xs ys : List Change) → P x → AllByRecursion (λ y. slice_cmp nat_cmp x y ≡ Less) (map (λ change. change.address) xs)
      → AllByRecursion (λ change. Q change.address) ys
      → AllByRecursion (λ y. slice_cmp nat_cmp x y ≡ Less) (map (λ change. change.address) (xs ++ ys))
  above_all x [] [] is above high = tt
  above_all x [] (y ∷ ys) is above high = (order x y.address is high.0, above_all x [] ys is tt high.1)
  above_all x (z ∷ xs) ys is above high = (above.0, above_all x xs ys is above.1 high)

  rising-append : (xs ys : List Change) → AllByRecursion (λ change. P change.address) xs → AllByRecursion (λ change. Q change.address) ys
      → AreRising xs → AreRising ys → AreRising (xs ++ ys)
  unfolding IsStrictlySortedBy
  rising-append [] ys low high one two = two
  rising-append (x ∷ xs) ys low high one two = (above_all x.address xs ys low.0 one.0 high, rising-append xs ys low.1 high one.1 two)

  not_both : (q : List ℕ) → P q → Q q → ⊥
  not_both q low high = not_less (sym (tied_itself nat_list_cmp_total q) ∙ order q q low high)

  module _ (A B : Entries) (c : List Change) (es fs : Entries) (d : List Change) (one : Differ P A B c) (two : Differ Q es fs d) where
    missing : (q : List ℕ) (gs : Entries) → AllByRecursion (λ e. Q e.0) gs → P q → found_at q gs ≡ None
    missing q gs all low = none_of _ (false_from_ne_true _ (λ some. not_both q low (found_is Q q gs all some)))

    abbrev goal : List ℕ → Type 0
    goal q = set_at q (c ++ d) ≡ set_for (found_at q (A ++ es)) (found_at q (B ++ fs))

    by_first : (q : List ℕ) → P q → goal q
    by_first q low =
        let no_e : found_at q es ≡ None = missing q es two.of_first low in
        let no_f : found_at q fs ≡ None = missing q fs two.of_second low in
        let no_d : set_at q d ≡ None = two.each q ∙ (λ k. set_for (no_e k) (no_f k)) in
        let of_a : found_at q (A ++ es) ≡ found_at q A = found_at-append q A es ∙ ap (first_of (found_at q A)) no_e ∙ first_alone (found_at q A) in
        let of_b : found_at q (B ++ fs) ≡ found_at q B = found_at-append q B fs ∙ ap (first_of (found_at q B)) no_f ∙ first_alone (found_at q B) in
        set_at-append q c d ∙ ap (first_of (set_at q c)) no_d ∙ first_alone (set_at q c) ∙ one.each q ∙ (λ k. set_for (sym of_a k) (sym of_b k))

    by_second : (q : List ℕ) → found_at q A ≡ None → found_at q B ≡ None → goal q
    by_second q no_a no_b =
        let no_c : set_at q c ≡ None = one.each q ∙ (λ k. set_for (no_a k) (no_b k)) in
        let of_e : found_at q (A ++ es) ≡ found_at q es = found_at-append q A es ∙ ap (λ o. first_of o (found_at q es)) no_a in
        let of_f : found_at q (B ++ fs) ≡ found_at q fs = found_at-append q B fs ∙ ap (λ o. first_of o (found_at q fs)) no_b in
        set_at-append q c d ∙ ap (λ o. first_of o (set_at q d)) no_c ∙ two.each q ∙ (λ k. set_for (sym of_e k) (sym of_f k))

    by_either : (q : List ℕ) → goal q
    by_either q = elim (cases_Bool (is_some (found_at q A))) [
      | inl some ↦ by_first q (found_is P q A one.of_first some)
      | inr no_a ↦ elim (cases_Bool (is_some (found_at q B))) [
        | inl some ↦ by_first q (found_is P q B one.of_second some)
        | inr no_b ↦ by_second q (none_of _ no_a) (none_of _ no_b)
      ]
    ]

    -- where all of the first come before all of the second
    pub differ-append : (R : List ℕ → Type 0) → ((q : List ℕ) → P q → R q) → ((q : List ℕ) → Q q → R q) → Differ R (A ++ es) (B ++ fs) (c ++ d)
    differ-append R low high = record {
      of_first = all_append (λ e. R e.0) A es (all_weaker (λ e. P e.0) (λ e. R e.0) (λ e is. low e.0 is) A one.of_first)
          (all_weaker (λ e. Q e.0) (λ e. R e.0) (λ e is. high e.0 is) es two.of_first);
      of_second = all_append (λ e. R e.0) B fs (all_weaker (λ e. P e.0) (λ e. R e.0) (λ e is. low e.0 is) B one.of_second)
          (all_weaker (λ e. Q e.0) (λ e. R e.0) (λ e is. high e.0 is) fs two.of_second);
      are = all_append (λ x. R x.address) c d (all_weaker (λ x. P x.address) (λ x. R x.address) (λ x is. low x.address is) c one.are)
          (all_weaker (λ x. Q x.address) (λ x. R x.address) (λ x is. high x.address is) d two.are);
      rising = rising-append c d one.are two.are one.rising two.rising;
      each = by_either;
    }

pub differ_as : (P R : List ℕ → Type 0) → ((q : List ℕ) → P q → R q) → (es fs : Entries) (c : List Change) → Differ P es fs c → Differ R es fs c
differ_as P R into es fs c is = record {
  of_first = all_weaker (λ e. P e.0) (λ e. R e.0) (λ e h. into e.0 h) es is.of_first;
  of_second = all_weaker (λ e. P e.0) (λ e. R e.0) (λ e h. into e.0 h) fs is.of_second;
  are = all_weaker (λ x. P x.address) (λ x. R x.address) (λ x h. into x.address h) c is.are;
  rising = is.rising;
  each = is.each;
}

-- ---- the same entries, and those of one address

same_itself : (o : Option (List ℕ)) → is_same_value o o ≡ true
same_itself None = refl
same_itself (Some value) = (bytes_eq-Decides value value).1 refl

pub differ_none : (Is : List ℕ → Type 0) (es : Entries) → AllByRecursion (λ e. Is e.0) es → Differ Is es es []
unfolding IsStrictlySortedBy
differ_none Is es all = record {
  of_first = all;
  of_second = all;
  are = tt;
  rising = tt;
  each = λ q. sym (ap (λ t. cond t None (Some (found_at q es))) (same_itself (found_at q es)));
}

module _ (q : List ℕ) where
  entry_below : (o : Option (List ℕ)) → AllByRecursion (λ e. IsBelow q e.0) (entry_at q o)
  entry_below None = tt
  entry_below (Some value) = (covers-itself q, tt)

  change_below : (s : Option (Option (List ℕ))) → AllByRecursion (λ x. IsBelow q x.address) (changes_at q s)
  change_below None = tt
  change_below (Some value) = (covers-itself q, tt)

  one_rises : (s : Option (Option (List ℕ))) → AreRising (changes_at q s)
  unfolding IsStrictlySortedBy
  one_rises None = tt
  one_rises (Some value) = (tt, tt)

  found_one : (r : List ℕ) (o : Option (List ℕ)) → found_at r (entry_at q o) ≡ cond (bytes_eq q r) o None
  found_one r None = elim (bytes_eq q r) as (λ t. ◌≡◌ {A = Option (List ℕ)} None (cond t None None)) [
    | true ↦ refl
    | false ↦ refl
  ]
  found_one r (Some value) = ap (λ t. cond t (Some value) None) (sym (same_key q r))

  set_one : (r : List ℕ) (s : Option (Option (List ℕ))) → set_at r (changes_at q s) ≡ cond (bytes_eq q r) s None
  set_one r None = elim (bytes_eq q r) as (λ t. ◌≡◌ {A = Option (Option (List ℕ))} None (cond t None None)) [
    | true ↦ refl
    | false ↦ refl
  ]
  set_one r (Some value) = refl

  pub differ_at : (o p : Option (List ℕ)) → Differ (IsBelow q) (entry_at q o) (entry_at q p) (changes_at q (set_for o p))
  differ_at o p = record {
    of_first = entry_below o;
    of_second = entry_below p;
    are = change_below (set_for o p);
    rising = one_rises (set_for o p);
    each = λ r.
        set_one r (set_for o p)
        ∙ (elim (bytes_eq q r) as (λ t. cond t (set_for o p) None ≡ set_for (cond t o None) (cond t p None)) [
          | true ↦ refl
          | false ↦ refl
        ])
        ∙ (λ k. set_for (sym (found_one r o) k) (sym (found_one r p) k));
  }

-- ---- of two maps

-- rising changes set at an address what the one of that address does
keys_apart : (x : List ℕ) (xs : List Change) → AllByRecursion (λ y. slice_cmp nat_cmp x y ≡ Less) (map (λ change. change.address) xs)
    → AllByRecursion (λ change. bytes_eq change.address x ≡ false) xs
keys_apart x [] above = tt
keys_apart x (y ∷ xs) above = (
  false_from_ne_true _ (λ same. both_ways _ (less_apart x y.address above.0) ((bytes_eq-Decides x y.address).1 (sym ((bytes_eq-Decides y.address x).0 same)))),
  keys_apart x xs above.1,
)

after_is : (q : List ℕ) (o : Option (List ℕ)) (xs : List Change) → AreRising xs → value_after xs q o ≡ unwrap_or (set_at q xs) o
unfolding IsStrictlySortedBy
after_is q o [] rising = refl
after_is q o (x ∷ xs) rising =
    elim (bytes_eq x.address q) as
    (λ t. bytes_eq x.address q ≡ t → value_after xs q (cond t x.value o) ≡ unwrap_or (cond t (Some x.value) (set_at q xs)) o) [
      | true ↦ λ here. value_after_apart xs q x.value
          (subst (λ r. AllByRecursion (λ change. bytes_eq change.address r ≡ false) xs) ((bytes_eq-Decides x.address q).0 here) (keys_apart x.address xs rising.0))
      | false ↦ λ apart. after_is q o xs rising.1
    ] refl

each_set : (xs : List Change) → AreRising xs → AllByRecursion (λ x. set_at x.address xs ≡ Some x.value) xs
unfolding IsStrictlySortedBy
each_set [] rising = tt
each_set (x ∷ xs) rising = (
  ap (λ t. cond t (Some x.value) (set_at x.address xs)) ((bytes_eq-Decides x.address x.address).1 refl),
  behind xs rising.0 (each_set xs rising.1),
)
  where
    behind : (ys : List Change) → AllByRecursion (λ y. slice_cmp nat_cmp x.address y ≡ Less) (map (λ change. change.address) ys)
        → AllByRecursion (λ y. set_at y.address xs ≡ Some y.value) ys → AllByRecursion (λ y. set_at y.address (x ∷ xs) ≡ Some y.value) ys
    behind [] above all = tt
    behind (y ∷ ys) above all = (
      ap (λ t. cond t (Some x.value) (set_at y.address xs)) (less_apart x.address y.address above.0) ∙ all.0,
      behind ys above.1 all.1,
    )

-- where nothing is set both are the same
set_shows : (o p : Option (List ℕ)) → unwrap_or (set_for o p) o ≡ p
set_shows None None = refl
set_shows None (Some value) = refl
set_shows (Some old) None = refl
set_shows (Some old) (Some value) =
    elim (bytes_eq old value) as (λ t. bytes_eq old value ≡ t → unwrap_or (cond t None (Some (Some value))) (Some old) ≡ Some value) [
      | true ↦ λ same. ap Some ((bytes_eq-Decides old value).0 same)
      | false ↦ λ apart. refl
    ] refl

set_differs : (o p v : Option (List ℕ)) → set_for o p ≡ Some v → o ≢ v
set_differs o p v set same =
    let is : p ≡ v = value_of (is_same_value o p) set in
    no_some (sym (ap (λ t. cond t None (Some p)) (ap (is_same_value o) (is ∙ sym same) ∙ same_itself o)) ∙ set)
  where
    no_some : {x : Option (List ℕ)} → None ≡ Some x → ⊥
    no_some e = cc

    value_of : (t : Bool) → cond t None (Some p) ≡ Some v → p ≡ v
    value_of true e = absurd (no_some e)
    value_of false e = cc

pub difference_is : (Is : List ℕ → Type 0) (m n : StateMap) (changes : List Change) → Differ Is (finite.entries m) (finite.entries n) changes
    → IsDifference m n changes
difference_is Is m n changes is = record {
  rising = is.rising;
  leads = same_values (map_after m changes) n (λ q.
      value_at-map_after m changes q ∙ after_is q (value_at m q) changes is.rising
      ∙ (λ k. unwrap_or (shows q k) (value_at m q)) ∙ set_shows (value_at m q) (value_at n q));
  needed = all_weaker (λ x. set_at x.address changes ≡ Some x.value) (λ x. value_at m x.address ≢ x.value)
      (λ x set. set_differs (value_at m x.address) (value_at n x.address) x.value (sym (shows x.address) ∙ set)) changes (each_set changes is.rising);
}
  where
    shows : (q : List ℕ) → set_at q changes ≡ set_for (value_at m q) (value_at n q)
    shows q = is.each q ∙ (λ k. set_for (sym (finite.get-entries m q) k) (sym (finite.get-entries n q) k))
