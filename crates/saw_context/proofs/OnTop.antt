-- What a map has after changes, and with a view on top.
use Rattle.std.proofs.Common.{◌≡◌, ℕ, Bool, true, false, cond, T, List, [], ◌∷◌, ◌++◌, map, Option, Some, None, bytes_eq, refl, sym, ap, ◌∙◌, arith}
use Rattle.std.specs.Ordering.{nat_cmp, eq_by_cmp}
use Rattle.std.specs.Cmp.Lexicographic.{slice_cmp, nat_list_cmp_total}
use Rattle.std.specs.FinMap as finite
use Rattle.std.specs.FinMap.Entries.{find, is_sorted}
use Rattle.std.specs.List.{AllByRecursion}
use Rattle.std.proofs.lemmas.Bool.{both_ways, false_from_ne_true}
use Rattle.std.proofs.lemmas.Slice.Eq.{bytes_eq-Decides}
use Rattle.saw_address.specs.Maps.{StateMap, value_at, changed_at}
use Rattle.saw_address.proofs.Finite.{value_at-changed_at, same_values}
use Rattle.saw_messages.specs.declared.outcome.Change.{Change}
use Rattle.saw_context.specs.Conversation.{Overlay, are_covering, body_of}
use Rattle.saw_context.specs.Outcome.{changes_of, map_after}
use Rattle.saw_context.specs.SoundResults.{IsOf, IsOfBase, IsSeen, IsSeenAs, is_own}
use Rattle.saw_context.specs.Views.{Layers, over, layered}
use Rattle.saw_context.specs.declared.reads.Origin.{Origin}
use Rattle.saw_context.specs.declared.reads.Origin.TheVariants.{Own, Layer, Base}
use Rattle.saw_context.specs.declared.reads.Read.{Read}
use Rattle.saw_context.specs.declared.view.ViewEntry.{ViewEntry}
use Rattle.saw_context.proofs.Each.{all_weaker, all_both}
use Rattle.saw_context.proofs.Keys.{same_key, entries-empty, find_above, both_of}

-- ---- changes one after another

pub map_after-append : (m : StateMap) (xs ys : List Change) → map_after m (xs ++ ys) ≡ map_after (map_after m xs) ys
map_after-append m [] ys = refl
map_after-append m (x ∷ xs) ys = map_after-append (changed_at m x.address x.value) xs ys

-- what stands at an address after changes, where that stood there before
abbrev pub value_after : List Change → List ℕ → Option (List ℕ) → Option (List ℕ)
value_after [] at below = below
value_after (change ∷ changes) at below = value_after changes at (cond (bytes_eq change.address at) change.value below)

pub value_at-map_after : (m : StateMap) (changes : List Change) (at : List ℕ) → value_at (map_after m changes) at ≡ value_after changes at (value_at m at)
value_at-map_after m [] at = refl
value_at-map_after m (change ∷ changes) at =
    value_at-map_after (changed_at m change.address change.value) changes at
    ∙ ap (value_after changes at) (value_at-changed_at m change.address change.value at)

pub value_after_apart : (changes : List Change) (at : List ℕ) (below : Option (List ℕ))
    → AllByRecursion (λ change. bytes_eq change.address at ≡ false) changes → value_after changes at below ≡ below
value_after_apart [] at below apart = refl
value_after_apart (change ∷ changes) at below apart =
    ap (λ same. value_after changes at (cond same change.value below)) apart.0 ∙ value_after_apart changes at below apart.1

-- changes at other addresses leave an address as it is
pub value_at_apart : (m : StateMap) (changes : List Change) (at : List ℕ) → AllByRecursion (λ change. bytes_eq change.address at ≡ false) changes
    → value_at (map_after m changes) at ≡ value_at m at
value_at_apart m changes at apart = value_at-map_after m changes at ∙ value_after_apart changes at (value_at m at) apart

apart_from_covered : (texts : List (List ℕ)) (at address : List ℕ) → are_covering texts at ≡ false → are_covering texts address ≡ true
    → bytes_eq address at ≡ false
apart_from_covered texts at address uncovered covered =
    false_from_ne_true (bytes_eq address at) (λ same. both_ways (are_covering texts at) uncovered
    (ap (are_covering texts) (sym ((bytes_eq-Decides address at).0 same)) ∙ covered))

-- covered changes leave an address that is not covered as it is
pub value_at_uncovered : (texts : List (List ℕ)) (m : StateMap) (changes : List Change) (at : List ℕ)
    → AllByRecursion (λ change. are_covering texts change.address ≡ true) changes → are_covering texts at ≡ false
    → value_at (map_after m changes) at ≡ value_at m at
value_at_uncovered texts m changes at covered uncovered =
    value_at_apart m changes at
    (all_weaker (λ change. are_covering texts change.address ≡ true) (λ change. bytes_eq change.address at ≡ false)
    (λ change h. apart_from_covered texts at change.address uncovered h) changes covered)

-- ---- the entries of a finite map as changes

module _ {V : Type 0} (value : V → Option (List ℕ)) where
  -- an entry's value where there is one, else what is below
  abbrev pub shown : Option V → Option (List ℕ) → Option (List ℕ)
  shown None below = below
  shown (Some v) below = value v

  -- the entries as changes
  abbrev pub as_changes : List (List ℕ × V) → List Change
  as_changes es = map (λ e. record { address = e.0; value = value e.1 }) es

  shown_first : (same : Bool) (v : V) (later : Option V) (below : Option (List ℕ)) → (same ≡ true → later ≡ None)
      → shown later (cond same (value v) below) ≡ shown (cond same (Some v) later) below
  shown_first true v None below once = refl
  shown_first true v (Some w) below once = let none : Some w ≡ None = once refl in absurd (grind arith)
  shown_first false v later below once = refl

  value_after-entries : (at : List ℕ) (es : List (List ℕ × V)) (below : Option (List ℕ)) → T (is_sorted (slice_cmp nat_cmp) es)
      → value_after (as_changes es) at below ≡ shown (find (slice_cmp nat_cmp) at es) below
  value_after-entries at [] below h = refl
  value_after-entries at (e ∷ es) below h =
      let b = both_of _ _ h in
      ap (λ same. value_after (as_changes es) at (cond same (value e.1) below)) (same_key e.0 at)
      ∙ value_after-entries at es (cond (eq_by_cmp (slice_cmp nat_cmp) at e.0) (value e.1) below) b.1
      ∙ shown_first (eq_by_cmp (slice_cmp nat_cmp) at e.0) e.1 (find (slice_cmp nat_cmp) at es) below (find_above e.0 at es b.0)

  -- what a map has after the entries
  pub value_at-entries : (m : StateMap) (entries : finite.FinMap (slice_cmp nat_cmp) V) (at : List ℕ)
      → value_at (map_after m (as_changes (finite.entries entries))) at ≡ shown (finite.get entries at) (value_at m at)
  value_at-entries m entries at =
      value_at-map_after m (as_changes (finite.entries entries)) at
      ∙ value_after-entries at (finite.entries entries) (value_at m at) (finite.entries_sorted entries)
      ∙ ap (λ found. shown found (value_at m at)) (sym (finite.get-entries entries at))

-- what a map has after own changes
pub value_at-changes_of : (m : StateMap) (own : Overlay) (at : List ℕ)
    → value_at (map_after m (changes_of own)) at ≡ shown (λ change. change) (finite.get own at) (value_at m at)
value_at-changes_of m own at = value_at-entries (λ change. change) m own at

-- ---- views

shown-layered : (entry : Option ViewEntry) (below : Option (List ℕ)) → shown (λ (entry : ViewEntry). entry.value) entry below ≡ layered entry below
shown-layered None below = refl
shown-layered (Some entry) below = refl

-- what a map with a view on top has
pub value_at-over : (m : StateMap) (layers : Layers) (at : List ℕ) → value_at (over m layers) at ≡ layered (finite.get layers at) (value_at m at)
unfolding over
value_at-over m layers at = value_at-entries (λ entry. entry.value) m layers at ∙ shown-layered (finite.get layers at) (value_at m at)

-- a view with nothing shows the map
pub over-empty : (m : StateMap) → over m finite.empty ≡ m
unfolding over
over-empty m = ap (λ es. map_after m (as_changes (λ (entry : ViewEntry). entry.value) es)) (entries-empty ViewEntry)

layered-cond : (same : Bool) (entry : ViewEntry) (found : Option ViewEntry) (below : Option (List ℕ))
    → layered (cond same (Some entry) found) below ≡ cond same entry.value (layered found below)
layered-cond true entry found below = refl
layered-cond false entry found below = refl

-- an entry more in the view is a change more
pub over-insert : (m : StateMap) (layers : Layers) (address : List ℕ) (entry : ViewEntry)
    → over m (finite.insert layers address entry) ≡ changed_at (over m layers) address entry.value
over-insert m layers address entry = same_values _ _ (λ at.
    value_at-over m (finite.insert layers address entry) at
    ∙ ap (λ found. layered found (value_at m at)) (finite.get-insert nat_list_cmp_total layers address entry at)
    ∙ layered-cond (eq_by_cmp (slice_cmp nat_cmp) at address) entry (finite.get layers at) (value_at m at)
    ∙ ap (λ same. cond same entry.value (layered (finite.get layers at) (value_at m at))) (sym (same_key address at))
    ∙ ap (cond (bytes_eq address at) entry.value) (sym (value_at-over m layers at))
    ∙ sym (value_at-changed_at (over m layers) address entry.value at))

-- ---- reads

seen_from : (m : StateMap) (layers : Layers) (address body : List ℕ) (from : Origin) → IsSeenAs layers address body from
    → (from ≡ Base → body_of (value_at m address) ≡ body) → is_own from ≡ false → body_of (value_at (over m layers) address) ≡ body
seen_from m layers address body Own seen based own = absurd (grind arith)
seen_from m layers address body (Layer index) seen based own =
    ap body_of (value_at-over m layers address ∙ ap (λ found. layered found (value_at m address)) seen.1) ∙ seen.2
seen_from m layers address body Base seen based own =
    ap body_of (value_at-over m layers address ∙ ap (λ found. layered found (value_at m address)) seen) ∙ based refl

-- reads that are what a view gives, and those of the base what the base has, are what the base gives with the view on top
pub seen_are_over : (m : StateMap) (layers : Layers) (reads : List Read) → AllByRecursion (IsSeen layers) reads → AllByRecursion (IsOfBase m) reads
    → AllByRecursion (IsOf (over m layers)) reads
seen_are_over m layers reads seen based =
    all_both (IsSeen layers) (IsOfBase m) (IsOf (over m layers)) (λ read s b. seen_from m layers read.address read.body read.from s b) reads seen based
