-- Sets of ids, when one more comes.
use Rattle.std.proofs.Common.{◌≡◌, ℕ, Bool, true, false, cond, List, [], ◌∷◌, ◌++◌, refl, ◌∙◌}
use Rattle.std.specs.Prelude.{not, ◌||◌}
use Rattle.std.specs.List.{list_any}
use Rattle.std.specs.Str.{bytes_eq}
use Rattle.std.specs.Ordering.{nat_cmp}
use Rattle.std.specs.Cmp.Lexicographic.{slice_cmp}
use Rattle.std.specs.BTreeSet.{BTreeSet, contains}
use Rattle.std.specs.BTreeMap.{is_at}
use Rattle.std.proofs.lemmas.List.Folds.{list_any-append}
use Rattle.std.proofs.lemmas.Map.Text.{is_eq-slice_cmp}
use Rattle.saw_ids.specs.Seen.{HoldsIds}

either : (here before : Bool) → cond here true before ≡ (before || (here || false))
either true true = refl
either true false = refl
either false true = refl
either false false = refl

not_not : (b : Bool) → not (not b) ≡ b
not_not true = refl
not_not false = refl

module _ (seen new : BTreeSet (List ℕ)) (id key : List ℕ) (same : key ≡ id) (ids : List (List ℕ)) (holds : HoldsIds seen ids) where
  pub holds_one_more : ((q : List ℕ) → contains (slice_cmp nat_cmp) new q ≡ cond (is_at (slice_cmp nat_cmp key) q) true
      (contains (slice_cmp nat_cmp) seen q)) → HoldsIds new (ids ++ id ∷ [])
  holds_one_more added = λ q.
      added q
      ∙ rw (same, is_eq-slice_cmp id q, holds q, list_any-append (λ x. bytes_eq x q) ids (id ∷ [])) (either (bytes_eq id q) (list_any (λ x. bytes_eq x q) ids))

  pub tells_repeated : (added : Bool) → added ≡ not (contains (slice_cmp nat_cmp) seen key) → not added ≡ list_any (λ x. bytes_eq x id) ids
  tells_repeated added e = rw (e, not_not (contains (slice_cmp nat_cmp) seen key), same) (holds id)
