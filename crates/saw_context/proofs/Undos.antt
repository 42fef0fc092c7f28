-- Changes that are taken back, the last first.
use Rattle.std.proofs.Common.{◌≡◌, ℕ, Bool, true, false, cond, List, [], ◌∷◌, ◌++◌, Option, Some, None, refl, sym, ap, subst, ◌∙◌}
use Rattle.std.specs.Ordering.{nat_cmp, eq_by_cmp}
use Rattle.std.specs.Cmp.{eq_by_cmp_equiv, Equal-is}
use Rattle.std.specs.Cmp.Lexicographic.{slice_cmp, nat_list_cmp_total}
use Rattle.std.specs.FinMap as finite
use Rattle.std.proofs.lemmas.Map.Lookups.{exact_bytes}
use Rattle.saw_context.specs.Conversation.{Overlay}
use Rattle.saw_context.specs.Undo.{IsOneStep, CameBy}
use Rattle.saw_context.specs.declared.undo.Undo.{Undo}

-- one more change
pub came_by-push : (own m n : Overlay) (undos : List Undo) (undo : Undo) → CameBy own undos m → IsOneStep m undo n → CameBy own (undos ++ undo ∷ []) n
came_by-push own m n [] undo came step = (n, subst (λ o. IsOneStep o undo n) (sym came) step, refl)
came_by-push own m n (first ∷ undos) undo came step = (came.0, came.1, came_by-push came.0 m n undos undo came.2 step)

-- the map before the last change
pub record HasLast (own n : Overlay) (undos : List Undo) (undo : Undo) : Type 0 where
  pub before : Overlay
  pub came : CameBy own undos before
  pub step : IsOneStep before undo n

pub came_by-pop : (own n : Overlay) (undos : List Undo) (undo : Undo) → CameBy own (undos ++ undo ∷ []) n → HasLast own n undos undo
came_by-pop own n [] undo came = record { before = own; came = refl; step = subst (IsOneStep own undo) came.2 came.1 }
came_by-pop own n (first ∷ undos) undo came =
    let last = came_by-pop came.0 n undos undo came.2 in
    record { before = last.before; came = (came.0, came.1, last.came); step = last.step }

-- a key ties with itself
ties : (at : List ℕ) → eq_by_cmp (slice_cmp nat_cmp) at at ≡ true
ties at = (eq_by_cmp_equiv nat_list_cmp_total).refl at

get-insert_same : (m : Overlay) (at : List ℕ) (value : Option (List ℕ)) → finite.get (finite.insert m at value) at ≡ Some value
get-insert_same m at value = finite.get-insert nat_list_cmp_total m at value at ∙ ap (λ b. cond b (Some value) (finite.get m at)) (ties at)

-- what was changed is there
pub is_there : (m n : Overlay) (undo : Undo) → IsOneStep m undo n → finite.get n undo.at ≡ None → ⊥
is_there m n undo step none =
    let e : Some step.0 ≡ None = sym (get-insert_same m undo.at step.0) ∙ ap (λ o. finite.get o undo.at) (sym step.2) ∙ none in cc

-- what was there before a change, once the key has that again
cond_over : (b : Bool) (x y z : Option (Option (List ℕ))) → cond b x (cond b y z) ≡ cond b x z
cond_over true x y z = refl
cond_over false x y z = refl

cond_same : (b : Bool) (x z : Option (Option (List ℕ))) → (b ≡ true → x ≡ z) → cond b x z ≡ z
cond_same true x z same = same refl
cond_same false x z same = refl

-- the value at a key that ties
tied : (m : Overlay) (q at : List ℕ) (x : Option (Option (List ℕ))) → x ≡ finite.get m at → eq_by_cmp (slice_cmp nat_cmp) q at ≡ true → x ≡ finite.get m q
tied m q at x is tie = is ∙ ap (finite.get m) (sym (exact_bytes q at ((Equal-is (slice_cmp nat_cmp q at)).0 tie)))

-- taking a change back where nothing stood
pub removed_again : (m n : Overlay) (undo : Undo) → IsOneStep m undo n → undo.before ≡ None → finite.remove n undo.at ≡ m
removed_again m n undo step none = finite.same_map nat_list_cmp_total exact_bytes _ _ (λ q.
    let b = eq_by_cmp (slice_cmp nat_cmp) q undo.at in
    finite.get-remove nat_list_cmp_total n undo.at q
    ∙ ap (λ o. cond b None (finite.get o q)) step.2
    ∙ ap (cond b None) (finite.get-insert nat_list_cmp_total m undo.at step.0 q)
    ∙ cond_over b None (Some step.0) (finite.get m q)
    ∙ cond_same b None (finite.get m q) (tied m q undo.at None (sym none ∙ step.1)))

-- taking a change back where another stood
pub inserted_again : (m n : Overlay) (undo : Undo) (change : Option (List ℕ)) → IsOneStep m undo n → undo.before ≡ Some change
    → finite.insert n undo.at change ≡ m
inserted_again m n undo change step some = finite.same_map nat_list_cmp_total exact_bytes _ _ (λ q.
    let b = eq_by_cmp (slice_cmp nat_cmp) q undo.at in
    finite.get-insert nat_list_cmp_total n undo.at change q
    ∙ ap (λ o. cond b (Some change) (finite.get o q)) step.2
    ∙ ap (cond b (Some change)) (finite.get-insert nat_list_cmp_total m undo.at step.0 q)
    ∙ cond_over b (Some change) (Some step.0) (finite.get m q)
    ∙ cond_same b (Some change) (finite.get m q) (tied m q undo.at (Some change) (sym some ∙ step.1)))
