-- From a root down to an address.
use Rattle.std.proofs.Common.{◌≡◌, ◌≢◌, ℕ, zero, suc, ◌+◌, ◌-◌, ◌<◌, Bool, true, false, cond, List, [], ◌∷◌, ◌++◌, length, take, drop, get_or, refl, sym, ap, ◌∙◌, subst, arith, append_assoc, nat_eq, nat_lt, Option, Some, None, inl, inr}
use Rattle.std.specs.Prelude.{is_some, ◌&&◌}
use Rattle.std.specs.Option.{option_map}
use Rattle.std.specs.List.{list_all}
use Rattle.std.specs.FinMap as finite
use Rattle.std.proofs.Math.Seq.{take-add}
use Rattle.std.proofs.lemmas.Bool.{true≢false, cases_Bool, cases_eq, both_ways, and_parts, eqb-true, eq-eqb, false_from_ne_true}
use Rattle.std.proofs.lemmas.List.{append-nil, take_more, take_all, take-append-drop, length-append, length-take-le}
use Rattle.saw_address.specs.Maps.{StateMap, value_at, is_address}
use Rattle.saw_address.specs.Prefixes.{covers}
use Rattle.saw_node.specs.Nodes.{Shape, encoding_of}
use Rattle.saw_node.specs.Trees.{all_bytes, has_under, node_at}
use Rattle.saw_node.specs.Under.{has_byte}
use Rattle.saw_node.proofs.Places.{covers-append, covers_parts, has_byte-get_or}
use Rattle.saw_runs.specs.Tables.{at_byte, table}
use Rattle.saw_runs.proofs.Local.{has_from_value, node_with}
use Rattle.saw_runs.proofs.Nexts.{none_of, small_at}
use Rattle.saw_runs.proofs.Tabled.{at_byte-table, table-filter}
use Rattle.saw_runs.specs.Entries.{Entry, IsRead}
use Rattle.saw_runs.specs.Entries.Entry.{OfNode, OfRun}
use Rattle.saw_runs.specs.Readings.{entry_value, stepped}
use Rattle.saw_runs.specs.Told.{hash_at, IsRootOf, IsTold, IsToldBy}
use Rattle.saw_runs.proofs.Fors.{next_only, told_node}

-- ---- the children of a node as a table

module _ (hash : List ℕ → List ℕ) (levels : ℕ) (place : List ℕ) where
  -- the hash below each next byte
  abbrev pub hashes_of : StateMap → ℕ → Option (List ℕ)
  hashes_of m b = cond (has_under (finite.entries m) (place ++ b ∷ []))
      (Some (hash (encoding_of (node_at hash (finite.entries m) levels (place ++ b ∷ []))))) None

  pub node_at-table : (m : StateMap) → node_at hash (finite.entries m) (suc levels) place ≡ node_with (table (hashes_of m) 0 256)
  unfolding node_at all_bytes
  node_at-table m = ap node_with (table-filter (λ b. has_under (finite.entries m) (place ++ b ∷ []))
      (λ b. hash (encoding_of (node_at hash (finite.entries m) levels (place ++ b ∷ [])))) 0 256)

-- ---- down the address

-- the hash tells what the map has below the place that the first bytes of an address lead to
pub record IsAt (hash : List ℕ → List ℕ) (read : List ℕ → Option Entry) (m : StateMap) (at : List ℕ) (i : ℕ) (h : List ℕ) : Type 0 where
  pub levels : ℕ
  pub deep : levels + i ≡ 35
  pub told : IsToldBy hash (IsRead read) (finite.entries m) levels (take i at) h

abbrev pub Leads : (List ℕ → List ℕ) → (List ℕ → Option Entry) → List ℕ → List ℕ → ℕ → List ℕ → Type 0
Leads hash read root at i h = (m : StateMap) → IsRootOf hash (IsRead read) m root → IsAt hash read m at i h

pub leads_start : (hash : List ℕ → List ℕ) (read : List ℕ → Option Entry) (root at : List ℕ) → Leads hash read root at 0 root
leads_start hash read root at m is = record { levels = 35; deep = refl; told = is.told }

covers_taken : (at : List ℕ) (i : ℕ) → covers (take i at) at ≡ true
covers_taken at i = ap (covers (take i at)) (sym (take-append-drop i at)) ∙ covers-append (take i at) _

pub size_of : (at : List ℕ) → is_address at ≡ true → length at ≡ 35
size_of at is = eqb-true (length at) 35 (and_parts (nat_eq (length at) 35) (list_all (λ b. nat_lt b 256) at) is).0

pub small_of : (at : List ℕ) (i : ℕ) → is_address at ≡ true → i < 35 → get_or at i 0 < 256
small_of at i is lt = let size = size_of at is in small_at at i (and_parts (nat_eq (length at) 35) (list_all (λ b. nat_lt b 256) at) is).1 (omega (arith, size, lt))

-- bytes that an address begins with
pub taken_covers : (p q : List ℕ) → covers p q ≡ true → take (length p) q ≡ p
taken_covers [] q h = refl
taken_covers (x ∷ p) [] h = absurd (true≢false (sym h))
taken_covers (x ∷ p) (y ∷ q) h =
    let parts = and_parts (nat_eq x y) (covers p q) h in
    let heads : y ≡ x = sym (eqb-true x y parts.0) in
    let tails = taken_covers p q parts.1 in
    λ i. heads i ∷ tails i

-- a place goes on with the next byte of an address below it
covers_next : (place q : List ℕ) → covers place q ≡ true → length place < length q → covers (place ++ get_or q (length place) 0 ∷ []) q ≡ true
covers_next place q under long =
    covers_parts place (get_or q (length place) 0 ∷ []) q ∙ ap (λ t. t && has_byte (length place) (get_or q (length place) 0) q) under
    ∙ has_byte-get_or (length place) (get_or q (length place) 0) q long ∙ eq-eqb _ _ refl

module _ (hash : List ℕ → List ℕ) (R : List ℕ → Entry → Type 0) (m : StateMap) where
  -- down a run
  told_down : (levels : ℕ) (place path bottom : List ℕ) → IsTold hash R (finite.entries m) levels place path bottom
      → (left : ℕ) × (left + length path ≡ levels) × IsTold hash R (finite.entries m) left (place ++ path) [] bottom
  unfolding IsTold
  told_down zero place [] bottom t = (0, refl, subst (λ p. IsTold hash R (finite.entries m) 0 p [] bottom) (sym (append-nil place)) t)
  told_down zero place (c ∷ path) bottom t = absurd t
  told_down (suc levels) place [] bottom t =
      (suc levels, omega arith, subst (λ p. IsTold hash R (finite.entries m) (suc levels) p [] bottom) (sym (append-nil place)) t)
  told_down (suc levels) place (c ∷ path) bottom t =
      let down = told_down levels (place ++ c ∷ []) path bottom t.1 in
      let deep = down.1 in
      (down.0, omega (arith, deep), subst (λ p. IsTold hash R (finite.entries m) down.0 p [] bottom) (append_assoc place (c ∷ []) path) down.2)

  -- each address below has its bytes
  told_covers : (levels : ℕ) (place path bottom at : List ℕ) → IsTold hash R (finite.entries m) levels place path bottom → is_address at ≡ true
      → is_some (value_at m at) ≡ true → covers place at ≡ true → levels + length place ≡ 35 → covers (place ++ path) at ≡ true
  unfolding IsTold
  told_covers zero place [] bottom at t is some under deep = ap (λ p. covers p at) (append-nil place) ∙ under
  told_covers zero place (c ∷ path) bottom at t is some under deep = absurd t
  told_covers (suc levels) place [] bottom at t is some under deep = ap (λ p. covers p at) (append-nil place) ∙ under
  told_covers (suc levels) place (c ∷ path) bottom at t is some under deep =
      let size = size_of at is in
      let b = get_or at (length place) 0 in
      let small : get_or at (length place) 0 < 256 = small_of at (length place) is (omega (arith, deep)) in
      let longer : covers (place ++ get_or at (length place) 0 ∷ []) at ≡ true = covers_next place at under (omega (arith, size, deep)) in
      let met : has_under (finite.entries m) (place ++ get_or at (length place) 0 ∷ []) ≡ true =
      has_from_value (finite.entries m) (place ++ get_or at (length place) 0 ∷ []) at longer (ap is_some (sym (finite.get-entries m at)) ∙ some) in
      elim (cases_eq (get_or at (length place) 0) c) [
        | inl same ↦
            ap (λ p. covers p at) (sym (append_assoc place (c ∷ []) path))
            ∙ told_covers levels (place ++ c ∷ []) path bottom at t.1 is some (ap (λ x. covers (place ++ x ∷ []) at) (sym same) ∙ longer)
            (omega (arith, deep, length-append place (c ∷ [])))
        | inr other ↦ absurd (both_ways _ (next_only (finite.entries m) place c t.0 _ small other) met)
      ]

module _ (hash : List ℕ → List ℕ) (read : List ℕ → Option Entry) (m : StateMap) (at : List ℕ) (i : ℕ) (h : List ℕ) (there : IsAt hash read m at i h) where
  pub not_missing : read h ≡ None → ⊥
  not_missing none = elim there.told [
    | inl node ↦ no_some (sym none ∙ told_node hash (IsRead read) (finite.entries m) there.levels (take i at) h node)
    | inr run ↦ no_some (sym none ∙ run.3)
  ]
    where
      no_some : {e : Entry} → None ≡ Some e → ⊥
      no_some e = cc

  -- a run that is read tells it
  pub run_told : (path bottom : List ℕ) → read h ≡ Some (OfRun path bottom) → (path ≢ []) × IsTold hash (IsRead read) (finite.entries m) there.levels (take i at) path bottom
  run_told path bottom is = elim there.told [
    | inl node ↦ absurd (apart (sym is ∙ told_node hash (IsRead read) (finite.entries m) there.levels (take i at) h node))
    | inr run ↦
        let same_path : run.0 ∷ run.1 ≡ path = path_is (sym run.3 ∙ is) in
        let same_bottom : run.2 ≡ bottom = bottom_is (sym run.3 ∙ is) in (
          λ none. not_nil (same_path ∙ none),
          subst (λ q. IsTold hash (IsRead read) (finite.entries m) there.levels (take i at) q bottom) same_path
              (subst (IsTold hash (IsRead read) (finite.entries m) there.levels (take i at) (run.0 ∷ run.1)) same_bottom run.4),
        )
  ]
    where
      apart : {p b : List ℕ} {s : Shape} → Some (OfRun p b) ≡ Some (OfNode s) → ⊥
      apart e = cc

      path_is : {p q b d : List ℕ} → Some (OfRun p b) ≡ Some (OfRun q d) → p ≡ q
      path_is e = cc

      bottom_is : {p q b d : List ℕ} → Some (OfRun p b) ≡ Some (OfRun q d) → b ≡ d
      bottom_is e = cc

      not_nil : {x : ℕ} {xs : List ℕ} → x ∷ xs ≡ [] → ⊥
      not_nil e = cc

  -- so does a node
  pub node_told : (shape : Shape) → read h ≡ Some (OfNode shape)
      → (shape ≡ node_at hash (finite.entries m) there.levels (take i at)) × IsTold hash (IsRead read) (finite.entries m) there.levels (take i at) [] h
  node_told shape is = elim there.told [
    | inl node ↦ (same (sym is ∙ told_node hash (IsRead read) (finite.entries m) there.levels (take i at) h node), node)
    | inr run ↦ absurd (apart (sym is ∙ run.3))
  ]
    where
      same : {s t : Shape} → Some (OfNode s) ≡ Some (OfNode t) → s ≡ t
      same e = cc

      apart : {p b : List ℕ} {s : Shape} → Some (OfNode s) ≡ Some (OfRun p b) → ⊥
      apart e = cc

  module _ (is : is_address at ≡ true) (within : i < 35) where
    place_size : length (take i at) ≡ i
    place_size = let size = size_of at is in length-take-le i at (omega (arith, size, within))

    pub run_on : (path bottom : List ℕ) → read h ≡ Some (OfRun path bottom) → covers path (drop i at) ≡ true → IsAt hash read m at (i + length path) bottom
    run_on path bottom found on =
        let told = run_told path bottom found in
        let down = told_down hash (IsRead read) m there.levels (take i at) path bottom told.1 in
        let deep = there.deep in
        let left = down.1 in
        let longer : take (i + length path) at ≡ take i at ++ path = take-add i (length path) at ∙ ap (λ xs. take i at ++ xs) (taken_covers path (drop i at) on) in
        record {
          levels = down.0;
          deep = omega (arith, deep, left);
          told = inl (subst (λ p. IsTold hash (IsRead read) (finite.entries m) down.0 p [] bottom) (sym longer) down.2);
        }

    pub run_off : (path bottom : List ℕ) → read h ≡ Some (OfRun path bottom) → covers path (drop i at) ≡ false → value_at m at ≡ None
    run_off path bottom found off = none_of _ (false_from_ne_true _ (λ some.
        let told = run_told path bottom found in
        let deep = there.deep in
        let whole = told_covers hash (IsRead read) m there.levels (take i at) path bottom at told.1 is some (covers_taken at i) (omega (arith, deep, place_size)) in
        let parts = and_parts (covers (take i at) at) (covers path (drop (length (take i at)) at)) (sym (covers_parts (take i at) path at) ∙ whole) in
        both_ways _ off (ap (λ n. covers path (drop n at)) (sym place_size) ∙ parts.1)))

    abbrev pub low : ℕ
    low = there.levels - 1

    pub up : there.levels ≡ suc (there.levels - 1)
    up = let d = there.deep in omega (arith, d, within)

    pub next_place : take (i + 1) at ≡ take i at ++ get_or at i 0 ∷ []
    next_place = let size = size_of at is in take_more at i 0 (omega (arith, size, within))

    pub child_is : (shape : Shape) → read h ≡ Some (OfNode shape) → at_byte (get_or at i 0) shape.children ≡ hashes_of hash low (take i at) m (get_or at i 0)
    child_is shape found =
        let small : get_or at i 0 < 256 = small_of at i is within in
        ap (λ (s : Shape). at_byte (get_or at i 0) s.children)
        ((node_told shape found).0 ∙ ap (λ n. node_at hash (finite.entries m) n (take i at)) up ∙ node_at-table hash low (take i at) m)
        ∙ at_byte-table (hashes_of hash low (take i at) m) (get_or at i 0) 0 256 (omega arith) (omega (arith, small))

    pub node_on : (shape : Shape) (g : List ℕ) → read h ≡ Some (OfNode shape) → at_byte (get_or at i 0) shape.children ≡ Some g → IsAt hash read m at (i + 1) g
    unfolding IsTold
    node_on shape g found child = elim (cases_Bool (has_under (finite.entries m) (take i at ++ get_or at i 0 ∷ []))) [
      | inl met ↦
          let d = there.deep in
          let same : hash_at hash (IsRead read) (finite.entries m) low (take i at ++ get_or at i 0 ∷ []) ≡ g =
          some_same (sym (sym child ∙ child_is shape found
          ∙ ap (λ t. cond t (Some (hash_at hash (IsRead read) (finite.entries m) low (take i at ++ get_or at i 0 ∷ []))) None) met)) in
          let told : IsTold hash (IsRead read) (finite.entries m) (suc low) (take i at) [] h =
          subst (λ n. IsTold hash (IsRead read) (finite.entries m) n (take i at) [] h) up (node_told shape found).1 in
          record {
            levels = low;
            deep = omega (arith, d, within);
            told = subst (λ p. IsToldBy hash (IsRead read) (finite.entries m) low p g) (sym next_place)
                (subst (IsToldBy hash (IsRead read) (finite.entries m) low (take i at ++ get_or at i 0 ∷ [])) same (told.2 (get_or at i 0) (small_of at i is within) met));
          }
      | inr unmet ↦
          absurd (true≢false (ap is_some
          (sym child ∙ child_is shape found ∙ ap (λ t. cond t (Some (hash_at hash (IsRead read) (finite.entries m) low (take i at ++ get_or at i 0 ∷ []))) None) unmet)))
    ]
      where
        some_same : {x y : List ℕ} → Some x ≡ Some y → x ≡ y
        some_same e = cc

    pub node_off : (shape : Shape) → read h ≡ Some (OfNode shape) → at_byte (get_or at i 0) shape.children ≡ None → value_at m at ≡ None
    node_off shape found child =
        let unmet : has_under (finite.entries m) (take i at ++ get_or at i 0 ∷ []) ≡ false = false_from_ne_true _ (λ met.
        true≢false (sym (ap is_some (sym child ∙ child_is shape found
        ∙ ap (λ t. cond t (Some (hash_at hash (IsRead read) (finite.entries m) low (take i at ++ get_or at i 0 ∷ []))) None) met)))) in
        finite.get-entries m at ∙ none_of _ (false_from_ne_true _ (λ some. both_ways _ unmet
        (has_from_value (finite.entries m) (take i at ++ get_or at i 0 ∷ []) at (ap (λ p. covers p at) (sym next_place) ∙ covers_taken at (i + 1)) some)))

-- ---- one step

-- where the step leads on it does so for the map
pub AtStep : (hash : List ℕ → List ℕ) (read : List ℕ → Option Entry) (m : StateMap) (at : List ℕ) → Option (ℕ × List ℕ) → Type 0
AtStep hash read m at None = value_at m at ≡ None
AtStep hash read m at (Some next) = IsAt hash read m at next.0 next.1

module _ (hash : List ℕ → List ℕ) (read : List ℕ → Option Entry) (m : StateMap) (at : List ℕ) (i : ℕ) (h : List ℕ) (is : is_address at ≡ true) (within : i < 35)
    (there : IsAt hash read m at i h) where
  run_step : (path bottom : List ℕ) (v : Bool) → covers path (drop i at) ≡ v → read h ≡ Some (OfRun path bottom)
      → AtStep hash read m at (cond v (Some (i + length path, bottom)) None)
  unfolding AtStep
  run_step path bottom true on found = run_on hash read m at i h there is within path bottom found on
  run_step path bottom false off found = run_off hash read m at i h there is within path bottom found off

  node_step : (shape : Shape) (o : Option (List ℕ)) → at_byte (get_or at i 0) shape.children ≡ o → read h ≡ Some (OfNode shape)
      → AtStep hash read m at (option_map (λ child. (i + 1, child)) o)
  unfolding AtStep
  node_step shape None child found = node_off hash read m at i h there is within shape found child
  node_step shape (Some g) child found = node_on hash read m at i h there is within shape g found child

  step_at : (entry : Option Entry) → read h ≡ entry → AtStep hash read m at (stepped entry at i)
  step_at None found = absurd (not_missing hash read m at i h there found)
  step_at (Some (OfRun [] bottom)) found = absurd ((run_told hash read m at i h there [] bottom found).0 refl)
  step_at (Some (OfRun (c ∷ path) bottom)) found = run_step (c ∷ path) bottom (covers (c ∷ path) (drop i at)) refl found
  step_at (Some (OfNode shape)) found = node_step shape (at_byte (get_or at i 0) shape.children) refl found

-- ---- for every map of the root

module _ (hash : List ℕ → List ℕ) (read : List ℕ → Option Entry) (root at : List ℕ) (i : ℕ) (h : List ℕ) (leads : Leads hash read root at i h)
    (is : is_address at ≡ true) where
  pub leads_on : (next : ℕ × List ℕ) → i < 35 → Some next ≡ stepped (read h) at i → Leads hash read root at next.0 next.1
  unfolding AtStep
  leads_on next within e m root_is = subst (AtStep hash read m at) (sym e) (step_at hash read m at i h is within (leads m root_is) (read h) refl)

  pub leads_nowhere : i < 35 → None ≡ stepped (read h) at i → (m : StateMap) → IsRootOf hash (IsRead read) m root → None ≡ value_at m at
  unfolding AtStep
  leads_nowhere within e m root_is = sym (subst (AtStep hash read m at) (sym e) (step_at hash read m at i h is within (leads m root_is) (read h) refl))

  pub leads_home : i ≡ 35 → (m : StateMap) → IsRootOf hash (IsRead read) m root → entry_value (read h) ≡ value_at m at
  unfolding IsTold node_at
  leads_home end m root_is =
      let there = leads m root_is in
      let d = there.deep in
      let size = size_of at is in
      let low : there.levels ≡ 0 = omega (arith, d, end) in
      let whole : take i at ≡ at = take_all i at (omega (arith, size, end)) in
      let told : IsToldBy hash (IsRead read) (finite.entries m) 0 at h =
      subst (λ p. IsToldBy hash (IsRead read) (finite.entries m) 0 p h) whole (subst (λ n. IsToldBy hash (IsRead read) (finite.entries m) n (take i at) h) low there.told) in
      elim told [
        | inl node ↦ ap entry_value node.1 ∙ sym (finite.get-entries m at)
        | inr run ↦ absurd run.4
      ]
