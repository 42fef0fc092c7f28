-- That the order of options does not show.
use Rattle.std.proofs.Common.{◌≡◌, ℕ, Bool, true, false, List, [], ◌∷◌, ◌++◌, cond, Option, Some, None, refl, sym, ap, ◌∙◌}
use Rattle.std.specs.Prelude.{◌&&◌, ◌||◌, not}
use Rattle.std.specs.Cmp.Lexicographic.{nat_list_eq_equiv}
use Rattle.std.specs.List.{list_all, list_any}
use Rattle.std.specs.Str.{bytes_eq}
use Rattle.std.proofs.lemmas.Bool.{and_parts, false≢true}
use Rattle.std.proofs.lemmas.List.{map-append}
use Rattle.std.proofs.lemmas.Slice.Eq.{bytes_eq-Decides}
use mathlib.Core.Path.{fun_ext}
use Rattle.saw_messages.specs.Distinct.{are_distinct}
use Rattle.saw_words.specs.Given.{Given, are_of, is_known, names_of, value_of}
use Rattle.saw_top.specs.Command.{Values, asked_by, asked_with, of_names}
use Rattle.saw_top.specs.Table.{options_of}
use Rattle.saw_top.specs.declared.table.Kind.{Kind}

-- two tests in either order
or_swapped : (a b c : Bool) → (a || (b || c)) ≡ (b || (a || c))
or_swapped true true c = refl
or_swapped true false c = refl
or_swapped false b c = refl

and_swapped : (a b c : Bool) → (a && (b && c)) ≡ (b && (a && c))
and_swapped true b c = refl
and_swapped false true c = refl
and_swapped false false c = refl

-- two neighbours in either order, for a test of any
any_swapped : {X : Type 0} (p : X → Bool) (before after : List X) (one other : X)
    → list_any p (before ++ one ∷ other ∷ after) ≡ list_any p (before ++ other ∷ one ∷ after)
any_swapped p [] after one other = or_swapped (p one) (p other) (list_any p after)
any_swapped p (first ∷ before) after one other = ap (λ b. p first || b) (any_swapped p before after one other)

-- the same for a test of all
all_swapped : {X : Type 0} (p : X → Bool) (before after : List X) (one other : X)
    → list_all p (before ++ one ∷ other ∷ after) ≡ list_all p (before ++ other ∷ one ∷ after)
all_swapped p [] after one other = and_swapped (p one) (p other) (list_all p after)
all_swapped p (first ∷ before) after one other = ap (λ b. p first && b) (all_swapped p before after one other)

-- the same for names that all differ
distinct_swapped : (before after : List (List ℕ)) (one other : List ℕ)
    → are_distinct (before ++ one ∷ other ∷ after) ≡ are_distinct (before ++ other ∷ one ∷ after)
distinct_swapped [] after one other = rw (nat_list_eq_equiv.symm one other)
    (split (bytes_eq other one) (list_any (λ name. bytes_eq name one) after) (list_any (λ name. bytes_eq name other) after) (are_distinct after))
  where
    split : (same a b c : Bool) → (not (same || a) && (not b && c)) ≡ (not (same || b) && (not a && c))
    split true a b c = refl
    split false a b c = and_swapped (not a) (not b) c
distinct_swapped (first ∷ before) after one other =
    rw (any_swapped (λ name. bytes_eq name first) before after one other, distinct_swapped before after one other) refl

-- the values of distinct names
value_swapped : (before after : List Given) (one other : Given) → are_distinct (names_of (before ++ one ∷ other ∷ after)) ≡ true → (name : List ℕ)
    → value_of name (before ++ one ∷ other ∷ after) ≡ value_of name (before ++ other ∷ one ∷ after)
value_swapped [] after one other distinct name =
    split (bytes_eq one.0 name) (bytes_eq other.0 name) (λ first second.
    let same = (bytes_eq-Decides other.0 one.0).1 ((bytes_eq-Decides other.0 name).0 second ∙ sym ((bytes_eq-Decides one.0 name).0 first)) in
    false≢true (rw same at distinct))
  where
    split : (a b : Bool) → (a ≡ true → b ≡ true → ⊥)
        → cond a (Some one.1) (cond b (Some other.1) (value_of name after)) ≡ cond b (Some other.1) (cond a (Some one.1) (value_of name after))
    split true true apart = absurd (apart refl refl)
    split true false apart = refl
    split false b apart = refl
value_swapped (first ∷ before) after one other distinct name =
    ap (cond (bytes_eq first.0 name) (Some first.1)) (value_swapped before after one other (and_parts _ _ distinct).1 name)

-- what is made of the values of options of these names
made_swapped : {A : Type 0} (names : List (List ℕ)) (made : Values → Option A) (before after : List Given) (one other : Given)
    → of_names names made (before ++ one ∷ other ∷ after) ≡ of_names names made (before ++ other ∷ one ∷ after)
made_swapped {A} names made before after one other =
    let given = before ++ one ∷ other ∷ after in
    let swapped = before ++ other ∷ one ∷ after in
    let same : are_of names given ≡ are_of names swapped =
    rw (all_swapped (is_known names) before after one other)
    (ap (λ b. list_all (is_known names) swapped && b) (rw (map-append, map-append) (distinct_swapped (names_of before) (names_of after) one.0 other.0))) in
    split (are_of names given) (are_of names swapped) same (λ fine.
    ap made (fun_ext (value_swapped before after one other (and_parts (list_all (is_known names) given) (are_distinct (names_of given)) fine).1)))
  where
    split : (a b : Bool) {x y : Option A} → a ≡ b → (a ≡ true → x ≡ y) → cond a x None ≡ cond b y None
    split true b same values = rw (← same) (values refl)
    split false b same values = rw (← same) refl

pub order_of_options_does_not_show : (kind : Kind) (before after : List Given) (one other : Given)
    → asked_with kind (before ++ one ∷ other ∷ after) ≡ asked_with kind (before ++ other ∷ one ∷ after)
order_of_options_does_not_show kind before after one other = made_swapped (options_of kind) (asked_by kind) before after one other
