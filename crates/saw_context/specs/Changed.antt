-- Changes that are gathered one by one.
use Rattle.std.specs.Prelude.{◌≡◌, ◌≤◌, ℕ, List, [], ◌∷◌, length, map, take}
use Rattle.std.specs.FinMap as finite
use Rattle.std.specs.Ordering.{nat_cmp}
use Rattle.std.specs.Cmp.Lexicographic.{slice_cmp}
use Rattle.std.specs.List.Sorted.{IsStrictlySortedBy}
use Rattle.saw_messages.specs.declared.outcome.Change.{Change}
use Rattle.saw_context.specs.Conversation.{Overlay}

-- changes with one more
abbrev pub changed_by : Overlay → Change → Overlay
changed_by changes change = finite.insert changes change.address change.value

abbrev pub changed_by_all : Overlay → List Change → Overlay
changed_by_all changes [] = changes
changed_by_all changes (change ∷ others) = changed_by_all (changed_by changes change) others

-- some of the first changes were made, and nothing else: the new value is the old one after a prefix of them
abbrev pub HasFront : {M : Type 0} → (M → List Change → M) → M → List Change → M → Type 0
HasFront after old changes new = (n : ℕ) × (n ≤ length changes) × (new ≡ after old (take n changes))

-- the addresses rise, so that each stands once
abbrev pub AreRising : List Change → Type 0
AreRising changes = IsStrictlySortedBy (slice_cmp nat_cmp) (map (λ change. change.address) changes)
