-- Ids that are seen one after another, and the whole list.
use Rattle.std.proofs.Common.{◌≡◌, ℕ, Bool, true, false, List, [], ◌∷◌, ◌++◌, refl, ap, ◌∙◌}
use Rattle.std.specs.Prelude.{◌||◌, ◌&&◌, not}
use Rattle.std.specs.Cmp.Lexicographic.{nat_list_eq_equiv}
use Rattle.std.specs.List.{list_any}
use Rattle.std.specs.Str.{bytes_eq}
use Rattle.std.proofs.lemmas.List.Folds.{list_any-append}
use Rattle.saw_messages.specs.Distinct.{are_distinct}
use Rattle.saw_checks.specs.Repeats.{repeats_after}

-- whether one of the ids stands among those before them
abbrev crosses : List (List ℕ) → List (List ℕ) → Bool
crosses earlier ids = list_any (λ id. list_any (λ other. bytes_eq other id) earlier) ids

crosses-push : (earlier : List (List ℕ)) (one : List ℕ) (ids : List (List ℕ))
    → crosses (earlier ++ one ∷ []) ids ≡ (crosses earlier ids || list_any (λ id. bytes_eq id one) ids)
crosses-push earlier one [] = refl
crosses-push earlier one (id ∷ ids) =
    rw (list_any-append (λ other. bytes_eq other id) earlier (one ∷ []), crosses-push earlier one ids, nat_list_eq_equiv.symm one id)
    (mixed (list_any (λ other. bytes_eq other id) earlier) (bytes_eq id one) (crosses earlier ids) (list_any (λ other. bytes_eq other one) ids))
  where
    mixed : (a b c d : Bool) → ((a || (b || false)) || (c || d)) ≡ ((a || c) || (b || d))
    mixed true b c d = refl
    mixed false true true d = refl
    mixed false true false d = refl
    mixed false false c d = refl

none_before : (ids : List (List ℕ)) → crosses [] ids ≡ false
none_before [] = refl
none_before (id ∷ ids) = none_before ids

pub repeats_are : (earlier ids : List (List ℕ)) → repeats_after earlier ids ≡ (crosses earlier ids || not (are_distinct ids))
repeats_are earlier [] = refl
repeats_are earlier (id ∷ ids) =
    rw (repeats_are (earlier ++ id ∷ []) ids, crosses-push earlier id ids)
    (mixed (list_any (λ other. bytes_eq other id) earlier) (crosses earlier ids) (list_any (λ other. bytes_eq other id) ids) (are_distinct ids))
  where
    mixed : (a b c d : Bool) → (a || ((b || c) || not d)) ≡ ((a || b) || not (not c && d))
    mixed true b c d = refl
    mixed false true c d = refl
    mixed false false true d = refl
    mixed false false false d = refl

-- nothing repeats exactly where all differ
pub repeats_whole : (ids : List (List ℕ)) → repeats_after [] ids ≡ not (are_distinct ids)
repeats_whole ids = repeats_are [] ids ∙ ap (λ b. b || not (are_distinct ids)) (none_before ids)
