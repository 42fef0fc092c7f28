-- The last change at each address leaves what all the changes leave.
use Rattle.std.proofs.Common.{◌≡◌, ℕ, true, cond, List, [], ◌∷◌, map, Option, bytes_eq, refl, sym, ap, subst, ◌∙◌}
use mathlib.Core.List.{reverse_aux}
use Rattle.std.specs.Ordering.{nat_cmp}
use Rattle.std.specs.Cmp.Lexicographic.{slice_cmp, nat_list_cmp_total}
use Rattle.std.specs.FinMap as finite
use Rattle.std.specs.FinMap.Entries.{put}
use Rattle.std.specs.List.{AllByRecursion}
use Rattle.saw_address.specs.Maps.{is_address, value_at}
use Rattle.saw_address.proofs.Finite.{same_values}
use Rattle.saw_context.proofs.Keys.{entries-empty}
use Rattle.saw_context.proofs.OnTop.{value_after, value_at-map_after}
use Rattle.saw_messages.specs.declared.outcome.Change.{Change}
use Rattle.saw_messages.specs.declared.receipt.StateChange.{StateChange}
use Rattle.saw_receipts.specs.Receipts.{told}
use Rattle.saw_events.specs.Events.{last_changes}
use Rattle.saw_events.specs.Following.{change_of}
use Rattle.saw_events.specs.Laws.{LastChangesShow}
use Rattle.saw_events.proofs.AtDigits.{IsAtDigits, all_put, applied, change_of-told, told_at_digits, value_after-put}

-- the entries of changes that stand last first
abbrev entries_of : List StateChange → List (List ℕ × StateChange)
entries_of changes = finite.entries (finite.from_entries {R = slice_cmp nat_cmp} (map (λ change. (change.address, change)) changes))

module _ (change : Change) (is : is_address change.address ≡ true) (earlier : List StateChange) where
  entries_of-more : entries_of (told change ∷ earlier) ≡ put (slice_cmp nat_cmp) (told change).address (told change) (entries_of earlier)
  entries_of-more = finite.entries-insert nat_list_cmp_total _ (told change).address (told change)

  all_more : AllByRecursion IsAtDigits (entries_of earlier) → AllByRecursion IsAtDigits (entries_of (told change ∷ earlier))
  all_more all = subst (AllByRecursion IsAtDigits) (sym entries_of-more) (all_put _ _ (entries_of earlier) (told_at_digits change is) all)

  value_after-more : (at : List ℕ) (below : Option (List ℕ)) → AllByRecursion IsAtDigits (entries_of earlier)
      → value_after (applied (entries_of (told change ∷ earlier))) at below
      ≡ cond (bytes_eq change.address at) change.value (value_after (applied (entries_of earlier)) at below)
  value_after-more at below all =
      ap (λ es. value_after (applied es) at below) entries_of-more
      ∙ value_after-put _ _ (entries_of earlier) at below (told_at_digits change is) all (finite.entries_sorted _)
      ∙ ap (λ c. cond (bytes_eq c.address at) c.value (value_after (applied (entries_of earlier)) at below)) (change_of-told change is)

-- later changes leave the same after the last of the earlier ones
value_after-last : (changes : List Change) (earlier : List StateChange) (at : List ℕ) (below : Option (List ℕ))
    → AllByRecursion (λ change. is_address change.address ≡ true) changes → AllByRecursion IsAtDigits (entries_of earlier)
    → value_after (applied (entries_of (reverse_aux (map told changes) earlier))) at below
    ≡ value_after changes at (value_after (applied (entries_of earlier)) at below)
value_after-last [] earlier at below are all = refl
value_after-last (change ∷ changes) earlier at below are all =
    value_after-last changes (told change ∷ earlier) at below are.1 (all_more change are.0 earlier all)
    ∙ ap (value_after changes at) (value_after-more change are.0 earlier at below all)

pub last_shown : LastChangesShow
last_shown m changes are = same_values _ _ (λ at.
    value_at-map_after m (map change_of (last_changes (map told changes))) at
    ∙ value_after-last changes [] at (value_at m at) are (subst (AllByRecursion IsAtDigits) (sym (entries-empty StateChange)) tt)
    ∙ ap (λ es. value_after changes at (value_after (applied es) at (value_at m at))) (entries-empty StateChange)
    ∙ sym (value_at-map_after m changes at))
