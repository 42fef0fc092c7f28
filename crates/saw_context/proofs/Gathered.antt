-- Changes that are gathered one by one.
use Rattle.std.proofs.Common.{◌≡◌, ℕ, Bool, true, false, cond, List, [], ◌∷◌, ◌++◌, map, Option, Some, None, bytes_eq, refl, sym, ap, subst, take, ◌∙◌}
use Rattle.std.specs.Ordering.{nat_cmp, eq_by_cmp}
use Rattle.std.specs.Cmp.Lexicographic.{slice_cmp, nat_list_cmp_total}
use Rattle.std.specs.FinMap as finite
use Rattle.std.specs.List.Sorted.{IsStrictlySortedBy}
use Rattle.std.specs.Map.{keys_of}
use Rattle.saw_address.specs.Maps.{StateMap, value_at, changed_at}
use Rattle.saw_address.proofs.Finite.{value_at-changed_at, same_values}
use Rattle.saw_messages.specs.declared.outcome.Change.{Change}
use Rattle.saw_context.specs.Changed.{AreRising, HasFront, changed_by, changed_by_all}
use Rattle.saw_context.specs.Conversation.{Overlay}
use Rattle.saw_context.specs.Outcome.{changes_of, map_after}
use Rattle.saw_context.proofs.Keys.{entries-empty, same_key}
use Rattle.saw_context.proofs.OnTop.{shown, value_at-changes_of}
use Rattle.saw_context.proofs.Overlays.{Changes, change_of}

-- no changes leave the map
pub after-none : (m : StateMap) → map_after m (changes_of finite.empty) ≡ m
after-none m = ap (λ es. map_after m (map change_of es)) (entries-empty (Option (List ℕ)))

shown-cond : (same : Bool) (value : Option (List ℕ)) (found : Option (Option (List ℕ))) (below : Option (List ℕ))
    → shown (λ change. change) (cond same (Some value) found) below ≡ cond same value (shown (λ change. change) found below)
shown-cond true value found below = refl
shown-cond false value found below = refl

-- one more change on top
after-one : (m : StateMap) (own : Overlay) (address : List ℕ) (value : Option (List ℕ))
    → map_after m (changes_of (finite.insert own address value)) ≡ changed_at (map_after m (changes_of own)) address value
after-one m own address value = same_values _ _ (λ at.
    value_at-changes_of m (finite.insert own address value) at
    ∙ ap (λ found. shown (λ change. change) found (value_at m at)) (finite.get-insert nat_list_cmp_total own address value at)
    ∙ shown-cond (eq_by_cmp (slice_cmp nat_cmp) at address) value (finite.get own at) (value_at m at)
    ∙ ap (λ same. cond same value (shown (λ change. change) (finite.get own at) (value_at m at))) (sym (same_key address at))
    ∙ ap (cond (bytes_eq address at) value) (sym (value_at-changes_of m own at))
    ∙ sym (value_at-changed_at (map_after m (changes_of own)) address value at))

pub after-all : (m : StateMap) (own : Overlay) (changes : List Change)
    → map_after m (changes_of (changed_by_all own changes)) ≡ map_after (map_after m (changes_of own)) changes
after-all m own [] = refl
after-all m own (change ∷ changes) =
    after-all m (changed_by own change) changes ∙ ap (λ n. map_after n changes) (after-one m own change.address change.value)

pub changed_by_all-push : (own : Overlay) (changes : List Change) (change : Change)
    → changed_by_all own (changes ++ change ∷ []) ≡ changed_by (changed_by_all own changes) change
changed_by_all-push own [] change = refl
changed_by_all-push own (first ∷ changes) change = changed_by_all-push (changed_by own first) changes change

addresses-are : (es : Changes) → map (λ (change : Change). change.address) (map change_of es) ≡ keys_of es
addresses-are [] = refl
addresses-are (e ∷ es) = ap (λ keys. e.0 ∷ keys) (addresses-are es)

-- the entries of an ordered map are changes of rising addresses
pub entries-rising : (es : Changes) (changes : List Change) → changes ≡ map change_of es → IsStrictlySortedBy (slice_cmp nat_cmp) (keys_of es)
    → AreRising changes
entries-rising es changes is sorted =
    subst (IsStrictlySortedBy (slice_cmp nat_cmp)) (sym (ap (map (λ (change : Change). change.address)) is ∙ addresses-are es)) sorted

-- what is seen of changes on top
pub seen-change : (m n : StateMap) (own : Overlay) (at : List ℕ) (value : Option (List ℕ)) → map_after m (changes_of own) ≡ n
    → finite.get own at ≡ Some value → value ≡ value_at n at
seen-change m n own at value is found =
    sym (ap (λ n. value_at n at) (sym is) ∙ value_at-changes_of m own at ∙ ap (λ found. shown (λ change. change) found (value_at m at)) found)

pub seen-below : (m n : StateMap) (own : Overlay) (at : List ℕ) → map_after m (changes_of own) ≡ n → finite.get own at ≡ None → value_at m at ≡ value_at n at
seen-below m n own at is found =
    sym (ap (λ n. value_at n at) (sym is) ∙ value_at-changes_of m own at ∙ ap (λ found. shown (λ change. change) found (value_at m at)) found)

-- changes on top of a base
pub after-changes : (m n : StateMap) (own new : Overlay) (changes : List Change) → map_after m (changes_of own) ≡ n → new ≡ changed_by_all own changes
    → map_after m (changes_of new) ≡ map_after n changes
after-changes m n own new changes is made = ap (λ own. map_after m (changes_of own)) made ∙ after-all m own changes ∙ ap (λ n. map_after n changes) is

pub after-front : (m n : StateMap) (own new : Overlay) (changes : List Change) → map_after m (changes_of own) ≡ n → HasFront changed_by_all own changes new
    → HasFront map_after n changes (map_after m (changes_of new))
after-front m n own new changes is front = (front.0, front.1, after-changes m n own new (take front.0 changes) is front.2)
