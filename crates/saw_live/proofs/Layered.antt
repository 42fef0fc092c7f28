-- Changes on top of layers.
use Rattle.std.proofs.Common.{◌≡◌, ℕ, Bool, true, false, cond, List, [], ◌∷◌, map, Option, Some, None, bytes_eq, refl, sym, ap, subst, ◌∙◌, arith}
use Rattle.std.specs.Prelude.{IfSome, IsSome, if◌then◌else◌, unwrap_or}
use Rattle.std.specs.Cmp.Lexicographic.{slice_cmp}
use Rattle.std.specs.FinMap as finite
use Rattle.std.specs.Ordering.{nat_cmp}
use Rattle.saw_address.specs.Maps.{AreAddresses, StateMap, changed_at, no_entries, value_at}
use Rattle.saw_address.proofs.Finite.{same_values, value_at-changed_at}
use Rattle.saw_context.proofs.OnTop.{value_at-over}
use Rattle.saw_context.proofs.Keys.{entries-empty}
use Rattle.saw_context.proofs.Runs.{get-mark, put-others}
use Rattle.saw_context.specs.Outcome.{map_after}
use Rattle.saw_context.specs.Runs.{last_of, marked}
use Rattle.saw_context.specs.Views.{Layers, layered, over}
use Rattle.saw_context.specs.declared.view.ViewEntry.{ViewEntry}
use Rattle.saw_live.specs.Snapshots.{entry_for, mark_for}
use Rattle.saw_merkle.specs.States.{AreRooted, IsRooted, States, map_at, state_at}
use Rattle.saw_messages.specs.declared.outcome.Change.{Change}

-- what nothing with layers on top has
pub value_at-layers : (layers : Layers) (q : List ℕ) → value_at (over no_entries layers) q ≡ layered (finite.get layers q) None
value_at-layers layers q = value_at-over no_entries layers q ∙ ap (layered (finite.get layers q)) (finite.get-empty (slice_cmp nat_cmp) q)

layered-set : (same : Bool) (value : Option (List ℕ)) (found : Option ViewEntry)
    → layered (if same then entry_for value else found) None ≡ cond same value (layered found None)
layered-set true (Some value) found = refl
layered-set true None found = refl
layered-set false value found = refl

-- one more change
pub one_more : (layers made : Layers) (change : Change)
    → ((q : List ℕ) → finite.get made q ≡ (if bytes_eq change.address q then entry_for change.value else finite.get layers q))
    → over no_entries made ≡ changed_at (over no_entries layers) change.address change.value
one_more layers made change is = same_values _ _ (λ q.
    value_at-layers made q ∙ ap (λ found. layered found None) (is q)
    ∙ layered-set (bytes_eq change.address q) change.value (finite.get layers q)
    ∙ ap (cond (bytes_eq change.address q) change.value) (sym (value_at-layers layers q))
    ∙ sym (value_at-changed_at (over no_entries layers) change.address change.value q))

-- the same layers in other runs
pub shared : (layers made : Layers) → ((q : List ℕ) → finite.get made q ≡ finite.get layers q) → over no_entries made ≡ over no_entries layers
shared layers made is = same_values _ _ (λ q.
    value_at-layers made q ∙ ap (λ found. layered found None) (is q) ∙ sym (value_at-layers layers q))

-- all changes, whose addresses are marked one after another
pub all_changed : (changes : List Change) (layers made : Layers)
    → ((q : List ℕ) → finite.get made q ≡ unwrap_or (last_of (map mark_for changes) q) (finite.get layers q))
    → over no_entries made ≡ map_after (over no_entries layers) changes
all_changed [] layers made is = shared layers made is
all_changed (change ∷ changes) layers made is =
    let next = marked layers change.address (entry_for change.value) in
    all_changed changes next made (λ q. is q ∙ put-others layers change.address (entry_for change.value) (map mark_for changes) q)
    ∙ ap (λ m. map_after m changes) (one_more layers next change (get-mark layers change.address (entry_for change.value)))

-- no layers
pub no_layers : over no_entries finite.empty ≡ no_entries
no_layers = same_values _ _ (λ q. value_at-layers finite.empty q ∙ ap (λ found. layered found None) (finite.get-empty (slice_cmp nat_cmp) q) ∙ sym (finite.get-empty (slice_cmp nat_cmp) q))

-- nothing has only addresses
pub none_whole : AreAddresses (finite.entries no_entries)
none_whole = subst AreAddresses (sym (entries-empty (List ℕ))) refl

by_found : (hash : List ℕ → List ℕ) (root : List ℕ) (found : Option StateMap) → IfSome found (IsRooted hash root) → IsSome found
    → IsRooted hash root (unwrap_or found no_entries)
by_found hash root (Some m) is there = is
by_found hash root None is there = absurd (grind (arith, there))

-- a known root is that of its map, which has only addresses
pub rooted_at : (hash : List ℕ → List ℕ) (states : States) (root : List ℕ) → AreRooted hash states → IsSome (state_at states root)
    → IsRooted hash root (map_at states root)
rooted_at hash states root rooted there = by_found hash root (state_at states root) (rooted root) there
