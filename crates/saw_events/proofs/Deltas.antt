-- One more change of a block's.
use Rattle.std.proofs.Common.{◌≡◌, ℕ, cond, List, [], ◌∷◌, ◌++◌, Some, map, sym, ap, ap₂, ◌∙◌}
use Rattle.std.proofs.lemmas.List.{reverse-append}
use Rattle.std.specs.BTreeMap.{is_at}
use Rattle.std.specs.Cmp.Lexicographic.{slice_cmp}
use Rattle.std.specs.FinMap as finite
use Rattle.std.specs.List.Sorted.{IsStrictlySortedBy}
use Rattle.std.specs.Map.{keys_of, lookup}
use Rattle.std.specs.Ordering.{nat_cmp}
use Rattle.saw_address.proofs.Finite.{entries-map_of, map_inserted}
use Rattle.saw_messages.specs.declared.receipt.StateChange.{StateChange}
use Rattle.saw_events.specs.Events.{last_by_address, last_changes}

last_by_address-push : (changes : List StateChange) (change : StateChange)
    → last_by_address (changes ++ change ∷ []) ≡ finite.insert (last_by_address changes) change.address change
last_by_address-push changes change =
    ap (λ changes. finite.from_entries {R = slice_cmp nat_cmp} (map (λ change. (change.address, change)) changes)) (reverse-append changes (change ∷ []))

-- it takes the place of an earlier one at its address
pub one_more : (es fs : List (List ℕ × StateChange)) (k : List ℕ) (v change : StateChange) → k ≡ change.address → v ≡ change
    → ((q : List ℕ) → lookup (is_at (slice_cmp nat_cmp q)) fs ≡ cond (is_at (slice_cmp nat_cmp k) q) (Some v) (lookup (is_at (slice_cmp nat_cmp q)) es))
    → (earlier : List StateChange) → finite.from_entries {R = slice_cmp nat_cmp} es ≡ last_by_address earlier
    → finite.from_entries {R = slice_cmp nat_cmp} fs ≡ last_by_address (earlier ++ change ∷ [])
one_more es fs k v change key value inserted earlier known =
    map_inserted es fs k v inserted ∙ ap₂ (finite.insert (finite.from_entries es)) key value
    ∙ ap (λ last. finite.insert last change.address change) known ∙ sym (last_by_address-push earlier change)

-- the values of entries in order are those of their map
pub values-of : (es : List (List ℕ × StateChange)) (changes : List StateChange) → IsStrictlySortedBy (slice_cmp nat_cmp) (keys_of es)
    → finite.from_entries {R = slice_cmp nat_cmp} es ≡ last_by_address changes → map (λ entry. entry.1) es ≡ last_changes changes
values-of es changes rising known = ap (map (λ entry. entry.1)) (sym (entries-map_of es rising)) ∙ ap finite.values known
