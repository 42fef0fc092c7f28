-- A root stands for one map: the one that is read from it on.
use Rattle.std.proofs.Common.{◌≡◌, ℕ, zero, suc, ◌+◌, ◌<◌, Bool, true, false, cond, List, [], ◌∷◌, ◌++◌, length, refl, sym, ap, ◌∙◌, subst, arith, Option, Some, inl, inr}
use Rattle.std.specs.Prelude.{T, is_some}
use Rattle.std.specs.List.{AllByRecursion, filter, flat_map, range_with_len}
use Rattle.std.specs.FinMap as finite
use Rattle.std.specs.FinMap.Entries.{below_all, is_sorted}
use Rattle.std.specs.Ordering.{nat_cmp, eq_by_cmp, is_eq, is_lt}
use Rattle.std.specs.Cmp.Lexicographic.{slice_cmp, nat_list_cmp_total}
use Rattle.std.proofs.lemmas.Bool.{cases_Bool, both_ways, or_parts, false_from_ne_true}
use Rattle.std.proofs.lemmas.Cmp.{tied_itself}
use Rattle.std.proofs.lemmas.List.{append-nil, length-append}
use Rattle.std.proofs.lemmas.List.Folds.{flat_map-map}
use Rattle.std.proofs.lemmas.Map.Lookups.{exact_bytes}
use Rattle.saw_address.specs.Maps.{Entries, StateMap, is_address}
use Rattle.saw_address.specs.Prefixes.{covers}
use Rattle.saw_address.proofs.Digits.{length-is_address}
use Rattle.saw_context.proofs.Each.{all_both, all_weaker}
use Rattle.saw_context.proofs.Keys.{both_of}
use Rattle.saw_node.specs.Trees.{all_bytes, found_at, has_under, next_bytes, node_at}
use Rattle.saw_node.proofs.Found.{tie}
use Rattle.saw_node.proofs.Ranges.{passes_filter, small_filter}
use Rattle.saw_runs.specs.Entries.{Entry, IsRead}
use Rattle.saw_runs.specs.Listing.{entry_at, map_read, opened_by, read_below}
use Rattle.saw_runs.specs.Lowers.{children_read}
use Rattle.saw_runs.specs.Places.{AreAddressed}
use Rattle.saw_runs.specs.Readings.{entry_value}
use Rattle.saw_runs.specs.Told.{IsRootOf, IsTold, IsToldBy, hash_at}
use Rattle.saw_runs.proofs.ByBytes.{by_bytes, filter_drops, filter_keeps, flat_alike, flat_map-filter, all_each}
use Rattle.saw_runs.proofs.Fors.{told_node}
use Rattle.saw_runs.proofs.Local.{covers-itself}
use Rattle.saw_runs.proofs.Nexts.{covers_same}

-- ---- entries at and below a place

-- below a place without addresses there is no entry
none_covered : (place : List ℕ) (es : Entries) → has_under es place ≡ false → filter (λ e. covers place e.0) es ≡ []
none_covered place [] unmet = refl
none_covered place (e ∷ es) unmet =
    let parts = or_parts (covers place e.0) (has_under es place) unmet in
    ap (λ t. cond t (e ∷ filter (λ f. covers place f.0) es) (filter (λ f. covers place f.0) es)) parts.0 ∙ none_covered place es parts.1

-- at an address itself, the one entry that is found there
module _ (place : List ℕ) where
  none_above : (q : List ℕ) (es : Entries) → q ≡ place → T (below_all (slice_cmp nat_cmp) q es) → AllByRecursion (λ e. length e.0 ≡ length place) es
      → AllByRecursion (λ e. covers place e.0 ≡ false) es
  none_above q [] is below long = tt
  none_above q (e ∷ es) is below long =
      let parts = both_of (is_lt (slice_cmp nat_cmp q e.0)) (below_all (slice_cmp nat_cmp) q es) below in
      let apart : covers place e.0 ≡ true → ⊥ = λ under.
      let same : e.0 ≡ q = covers_same place e.0 under long.0 ∙ sym is in
      subst (λ o. T (is_lt o)) (ap (slice_cmp nat_cmp q) same ∙ tied_itself nat_list_cmp_total q) parts.0 in
      (false_from_ne_true _ apart, none_above q es is parts.1 long.1)

  at_address : (es : Entries) → T (is_sorted (slice_cmp nat_cmp) es) → AllByRecursion (λ e. length e.0 ≡ length place) es
      → filter (λ e. covers place e.0) es ≡ entry_at place (found_at place es)
  at_address [] sorted long = refl
  at_address (e ∷ es) sorted long =
      let parts = both_of (below_all (slice_cmp nat_cmp) e.0 es) (is_sorted (slice_cmp nat_cmp) es) sorted in
      elim (cases_Bool (eq_by_cmp (slice_cmp nat_cmp) place e.0)) [
        | inl tied ↦
            let same : place ≡ e.0 = exact_bytes _ _ (tie _ tied) in
            let under : covers place e.0 ≡ true = ap (covers place) (sym same) ∙ covers-itself place in
            ap (λ t. cond t (e ∷ filter (λ f. covers place f.0) es) (filter (λ f. covers place f.0) es)) under
            ∙ ap (λ fs. e ∷ fs) (filter_drops (λ f. covers place f.0) es (none_above e.0 es (sym same) parts.0 long.1))
            ∙ ap (λ q. (q, e.1) ∷ []) (sym same)
            ∙ sym (ap (λ t. entry_at place (cond t (Some e.1) (found_at place es))) tied)
        | inr untied ↦
            let apart : covers place e.0 ≡ true → ⊥ = λ under.
            let same : e.0 ≡ place = covers_same place e.0 under long.0 in
            both_ways _ untied (ap (λ q. is_eq (slice_cmp nat_cmp place q)) same ∙ ap is_eq (tied_itself nat_list_cmp_total place)) in
            ap (λ t. cond t (e ∷ filter (λ f. covers place f.0) es) (filter (λ f. covers place f.0) es)) (false_from_ne_true _ apart)
            ∙ at_address es parts.1 long.1
            ∙ sym (ap (λ t. entry_at place (cond t (Some e.1) (found_at place es))) untied)
      ]

-- each key of entries is found
found_each : (whole es : Entries) → ((q : List ℕ) → is_some (found_at q es) ≡ true → is_some (found_at q whole) ≡ true)
    → AllByRecursion (λ e. is_some (found_at e.0 whole) ≡ true) es
found_each whole [] within = tt
found_each whole (e ∷ es) within = (
  within e.0 (ap (λ r. is_some (cond (is_eq r) (Some e.1) (found_at e.0 es))) (tied_itself nat_list_cmp_total e.0)),
  found_each whole es (λ q some. within q (later (eq_by_cmp (slice_cmp nat_cmp) q e.0) (found_at q es) some)),
)
  where
    later : (t : Bool) (o : Option (List ℕ)) → is_some o ≡ true → is_some (cond t (Some e.1) o) ≡ true
    later true o some = refl
    later false o some = some

-- ---- what is read

module _ (hash : List ℕ → List ℕ) (read : List ℕ → Option Entry) (m : StateMap) (are : AreAddressed m) where
  abbrev es : Entries
  es = finite.entries m

  abbrev below : List ℕ → Entries
  below place = filter (λ e. covers place e.0) es

  addressed : AllByRecursion (λ e. is_address e.0 ≡ true) es
  addressed = all_weaker (λ e. is_some (found_at e.0 es) ≡ true) (λ e. is_address e.0 ≡ true)
      (λ e some. are e.0 (ap is_some (finite.get-entries m e.0) ∙ some)) es (found_each es es (λ q some. some))

  -- the entries below a place are those below the next bytes
  by_next : (place : List ℕ) → length place < 35 → flat_map (λ b. below (place ++ b ∷ [])) (next_bytes es place) ≡ below place
  by_next place short =
      flat_map-filter (λ b. below (place ++ b ∷ [])) (λ b. has_under es (place ++ b ∷ [])) (λ b. none_covered (place ++ b ∷ []) es) all_bytes
      ∙ by_bytes place short es (finite.entries_sorted m) addressed

  met_next : (place : List ℕ) → AllByRecursion (λ b. (b < 256) × (has_under es (place ++ b ∷ []) ≡ true)) (next_bytes es place)
  unfolding all_bytes
  met_next place = all_both (λ b. b < 256) (λ b. has_under es (place ++ b ∷ []) ≡ true) _ (λ b lt met. (lt, met)) (next_bytes es place)
      (small_filter (λ b. has_under es (place ++ b ∷ [])) 0 256 (omega arith))
      (passes_filter (λ b. has_under es (place ++ b ∷ [])) (range_with_len 0 256))

  -- what is read by the hash of a place
  abbrev read_by : ℕ → List ℕ → List ℕ → Entries
  read_by levels place h = read_below read levels place (opened_by h (read h)).0 (opened_by h (read h)).1

  by_hash : (levels : ℕ) (place h : List ℕ)
      → ((path bottom : List ℕ) → IsTold hash (IsRead read) es levels place path bottom → read_below read levels place path bottom ≡ below place)
      → IsToldBy hash (IsRead read) es levels place h → read_by levels place h ≡ below place
  by_hash levels place h each told = elim told [
    | inl node ↦
        ap (λ o. read_below read levels place (opened_by h o).0 (opened_by h o).1) (told_node hash (IsRead read) es levels place h node) ∙ each [] h node
    | inr run ↦ ap (λ o. read_below read levels place (opened_by h o).0 (opened_by h o).1) run.3 ∙ each (run.0 ∷ run.1) run.2 run.4
  ]

  -- a run that tells what the map has below a place leads to its entries there, in their order
  pub read_below-told : (levels : ℕ) (place path bottom : List ℕ) → levels + length place ≡ 35
      → IsTold hash (IsRead read) (finite.entries m) levels place path bottom
      → read_below read levels place path bottom ≡ filter (λ e. covers place e.0) (finite.entries m)
  unfolding read_below IsTold node_at
  read_below-told zero place [] bottom deep told =
      ap (λ o. entry_at place (entry_value o)) told.1
      ∙ sym (at_address place es (finite.entries_sorted m)
      (all_weaker (λ e. is_address e.0 ≡ true) (λ e. length e.0 ≡ length place) (λ e is. let size = length-is_address e.0 is in omega (arith, size, deep)) es addressed))
  read_below-told zero place (c ∷ path) bottom deep told = absurd told
  read_below-told (suc levels) place [] bottom deep told =
      ap (λ o. flat_map (λ child. read_by levels (place ++ child.0 ∷ []) child.1) (children_read o)) told.1
      ∙ flat_map-map (λ child. read_by levels (place ++ child.0 ∷ []) child.1) (λ b. (b, hash_at hash (IsRead read) es levels (place ++ b ∷ []))) (next_bytes es place)
      ∙ flat_alike (λ b. read_by levels (place ++ b ∷ []) (hash_at hash (IsRead read) es levels (place ++ b ∷ []))) (λ b. below (place ++ b ∷ [])) (next_bytes es place)
      (all_weaker (λ b. (b < 256) × (has_under es (place ++ b ∷ []) ≡ true)) _
      (λ b met. by_hash levels (place ++ b ∷ []) (hash_at hash (IsRead read) es levels (place ++ b ∷ []))
      (λ path end. read_below-told levels (place ++ b ∷ []) path end (omega (arith, deep, length-append place (b ∷ [])))) (told.2 b met.0 met.1)) (next_bytes es place) (met_next place))
      ∙ by_next place (omega (arith, deep))
  read_below-told (suc levels) place (c ∷ path) bottom deep told =
      read_below-told levels (place ++ c ∷ []) path bottom (omega (arith, deep, length-append place (c ∷ []))) told.1
      ∙ sym (append-nil (below (place ++ c ∷ []))) ∙ ap (flat_map (λ b. below (place ++ b ∷ []))) (sym told.0)
      ∙ by_next place (omega (arith, deep))

-- the entries that are read from the root of a map on are those of the map
pub read_all-root : (hash : List ℕ → List ℕ) (read : List ℕ → Option Entry) (m : StateMap) (root : List ℕ) → IsRootOf hash (IsRead read) m root
    → read_below read 35 [] (opened_by root (read root)).0 (opened_by root (read root)).1 ≡ finite.entries m
read_all-root hash read m root is =
    by_hash hash read m is.are 35 [] root (λ path bottom. read_below-told hash read m is.are 35 [] path bottom refl) is.told
    ∙ filter_keeps (λ e. covers [] e.0) (finite.entries m) (all_each (λ e. true ≡ true) (λ e. refl) (finite.entries m))

-- the map that is read from the root of a map on is that map
pub map_read-root : (hash : List ℕ → List ℕ) (read : List ℕ → Option Entry) (m : StateMap) (root : List ℕ) → IsRootOf hash (IsRead read) m root
    → map_read read root ≡ m
map_read-root hash read m root is =
    ap finite.from_entries (read_all-root hash read m root is)
    ∙ finite.same_map nat_list_cmp_total exact_bytes _ _ (λ q. finite.get-from_entries nat_list_cmp_total (finite.entries m) q ∙ sym (finite.get-entries m q))

-- so a root stands for one map
pub root_of_one : (hash : List ℕ → List ℕ) (read : List ℕ → Option Entry) (m n : StateMap) (root : List ℕ) → IsRootOf hash (IsRead read) m root
    → IsRootOf hash (IsRead read) n root → m ≡ n
root_of_one hash read m n root one two = sym (map_read-root hash read m root one) ∙ map_read-root hash read n root two
