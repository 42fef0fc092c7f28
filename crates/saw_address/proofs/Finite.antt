-- Maps of entries, and what a change does to them.
use Rattle.std.proofs.Common.{◌≡◌, ℕ, cond, List, [], ◌∷◌, refl, sym, ap, ◌∙◌, Option, Some, None}
use Rattle.std.specs.Ordering.{nat_cmp, eq_by_cmp}
use Rattle.std.specs.Cmp.{eq_by_cmp_equiv}
use Rattle.std.specs.Cmp.Lexicographic.{slice_cmp, nat_list_cmp_total, texts_ties}
use Rattle.std.specs.Str.{bytes_eq}
use Rattle.std.specs.List.Sorted.{IsStrictlySortedBy}
use Rattle.std.specs.Map.{keys_of, lookup}
use Rattle.std.specs.BTreeMap.{is_at}
use Rattle.std.specs.FinMap as finite
use Rattle.std.specs.FinMap.Entries.{find, put, by_order}
use Rattle.std.proofs.lemmas.Map.Lookups.{exact_bytes}
use Rattle.std.proofs.lemmas.List.{nil_from_length}
use Rattle.std.proofs.lemmas.Map.Keys.{sorted_head, sorted_tail}
use Rattle.saw_address.specs.Maps.{Entries, StateMap, map_of, value_at, changed_at}

-- ---- maps from addresses to values of any type

module _ {V : Type 0} where
  -- `find` of a finite map is std's look-up
  pub find-lookup : (q : List ℕ) (es : List (List ℕ × V)) → find (slice_cmp nat_cmp) q es ≡ lookup (is_at (slice_cmp nat_cmp q)) es
  find-lookup q [] = refl
  find-lookup q (e ∷ es) = ap (cond (is_at (slice_cmp nat_cmp q) e.0) (Some e.1)) (find-lookup q es)

  put_first : (k : List ℕ) (v : V) (es : List (List ℕ × V)) → IsStrictlySortedBy (slice_cmp nat_cmp) (keys_of ((k, v) ∷ es))
      → put (slice_cmp nat_cmp) k v es ≡ (k, v) ∷ es
  put_first k v [] h = refl
  put_first k v (e ∷ es) h = ap (λ r. by_order r ((k, v) ∷ e ∷ es) ((e.0, v) ∷ es) (e ∷ put (slice_cmp nat_cmp) k v es))
      ((sorted_head (slice_cmp nat_cmp) k (keys_of (e ∷ es)) h).0)

  -- the map of entries in order has those entries
  pub entries-map_of : (es : List (List ℕ × V)) → IsStrictlySortedBy (slice_cmp nat_cmp) (keys_of es)
      → finite.entries (finite.from_entries {R = slice_cmp nat_cmp} es) ≡ es
  entries-map_of [] h = nil_from_length _ (sym (finite.len-entries finite.empty) ∙ finite.len-empty (slice_cmp nat_cmp) V)
  entries-map_of (e ∷ es) h =
      finite.entries-insert nat_list_cmp_total (finite.from_entries es) e.0 e.1
      ∙ ap (put (slice_cmp nat_cmp) e.0 e.1) (entries-map_of es (sorted_tail (slice_cmp nat_cmp) e.0 (keys_of es) h))
      ∙ put_first e.0 e.1 es h

  -- what the map of entries has
  pub get-map_of : (es : List (List ℕ × V)) (q : List ℕ) → finite.get (finite.from_entries {R = slice_cmp nat_cmp} es) q ≡ lookup
      (is_at (slice_cmp nat_cmp q)) es
  get-map_of es q = finite.get-from_entries nat_list_cmp_total es q ∙ find-lookup q es

  -- entries that differ by one set address
  pub map_inserted : (es fs : List (List ℕ × V)) (k : List ℕ) (v : V)
      → ((q : List ℕ) → lookup (is_at (slice_cmp nat_cmp q)) fs ≡ cond (is_at (slice_cmp nat_cmp k) q) (Some v) (lookup (is_at (slice_cmp nat_cmp q)) es))
      → finite.from_entries {R = slice_cmp nat_cmp} fs ≡ finite.insert (finite.from_entries es) k v
  map_inserted es fs k v h = finite.same_map nat_list_cmp_total exact_bytes _ _ (λ q.
      get-map_of fs q ∙ h q ∙ ap (λ b. cond b (Some v) (lookup (is_at (slice_cmp nat_cmp q)) es)) ((eq_by_cmp_equiv nat_list_cmp_total).symm k q)
      ∙ sym (finite.get-insert nat_list_cmp_total (finite.from_entries es) k v q ∙ ap (cond (is_at (slice_cmp nat_cmp q) k) (Some v)) (get-map_of es q)))

  -- entries that differ by one removed address
  pub map_removed : (es fs : List (List ℕ × V)) (k : List ℕ)
      → ((q : List ℕ) → lookup (is_at (slice_cmp nat_cmp q)) fs ≡ cond (is_at (slice_cmp nat_cmp k) q) None (lookup (is_at (slice_cmp nat_cmp q)) es))
      → finite.from_entries {R = slice_cmp nat_cmp} fs ≡ finite.remove (finite.from_entries es) k
  map_removed es fs k h = finite.same_map nat_list_cmp_total exact_bytes _ _ (λ q.
      get-map_of fs q ∙ h q ∙ ap (λ b. cond b None (lookup (is_at (slice_cmp nat_cmp q)) es)) ((eq_by_cmp_equiv nat_list_cmp_total).symm k q)
      ∙ sym (finite.get-remove nat_list_cmp_total (finite.from_entries es) k q ∙ ap (cond (is_at (slice_cmp nat_cmp q) k) None) (get-map_of es q)))

-- ---- states

-- an insertion is a change to some value
pub changed_map_inserted : (es fs : Entries) (k v : List ℕ) (value : Option (List ℕ)) → value ≡ Some v
    → ((q : List ℕ) → lookup (is_at (slice_cmp nat_cmp q)) fs ≡ cond (is_at (slice_cmp nat_cmp k) q) (Some v)
    (lookup (is_at (slice_cmp nat_cmp q)) es)) → map_of fs ≡ changed_at (map_of es) k value
changed_map_inserted es fs k v value is h = map_inserted es fs k v h ∙ ap (changed_at (map_of es) k) (sym is)

-- a removal is a change to no value
pub changed_map_removed : (es fs : Entries) (k : List ℕ) (value : Option (List ℕ)) → value ≡ None
    → ((q : List ℕ) → lookup (is_at (slice_cmp nat_cmp q)) fs ≡ cond (is_at (slice_cmp nat_cmp k) q) None (lookup (is_at (slice_cmp nat_cmp q)) es))
    → map_of fs ≡ changed_at (map_of es) k value
changed_map_removed es fs k value is h = map_removed es fs k h ∙ ap (changed_at (map_of es) k) (sym is)

-- the order tells apart what differs
eq_by_cmp-bytes_eq : (xs ys : List ℕ) → eq_by_cmp (slice_cmp nat_cmp) ys xs ≡ bytes_eq xs ys
eq_by_cmp-bytes_eq xs ys = (eq_by_cmp_equiv nat_list_cmp_total).symm ys xs ∙ sym (texts_ties xs ys)

-- what is read after a change
pub value_at-changed_at : (m : StateMap) (address : List ℕ) (value : Option (List ℕ)) (at : List ℕ)
    → value_at (changed_at m address value) at ≡ cond (bytes_eq address at) value (value_at m at)
value_at-changed_at m address (Some v) at =
    finite.get-insert nat_list_cmp_total m address v at ∙ ap (λ b. cond b (Some v) (finite.get m at)) (eq_by_cmp-bytes_eq address at)
value_at-changed_at m address None at =
    finite.get-remove nat_list_cmp_total m address at ∙ ap (λ b. cond b None (finite.get m at)) (eq_by_cmp-bytes_eq address at)

-- states that have the same everywhere are equal
pub same_values : (m n : StateMap) → ((at : List ℕ) → value_at m at ≡ value_at n at) → m ≡ n
same_values m n h = finite.same_map nat_list_cmp_total exact_bytes m n h
