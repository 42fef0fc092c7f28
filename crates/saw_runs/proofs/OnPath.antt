-- The nodes on the way from a root to an address.
use Rattle.std.proofs.Common.{◌≡◌, ◌≢◌, ℕ, zero, suc, ◌+◌, ◌<◌, ◌≤◌, Bool, true, false, cond, List, [], ◌∷◌, ◌++◌, length, take, drop, get_or, refl, sym, ap, ◌∙◌, subst, arith, append_assoc, nat_eq, nat_lt, Option, Some, None, inl, inr}
use Rattle.std.specs.Prelude.{is_some, ◌&&◌}
use Rattle.std.specs.Option.{option_map}
use Rattle.std.specs.List.{list_all}
use Rattle.std.specs.FinMap as finite
use Rattle.std.proofs.lemmas.Bool.{true≢false, cases_Bool, both_ways, and_parts, eqb-true, eq-eqb, ltb-true, ne_eqb, false_from_ne_true}
use Rattle.std.proofs.Math.Seq.{take-add}
use Rattle.std.proofs.lemmas.List.{append-nil, drop_all, drop_more, drop-drop}
use Rattle.saw_address.specs.Maps.{Entries, StateMap, is_address}
use Rattle.saw_address.specs.Prefixes.{covers}
use Rattle.saw_node.specs.Nodes.{Shape}
use Rattle.saw_node.specs.Trees.{has_under, node_at}
use Rattle.saw_runs.specs.Entries.{Entry, IsRead}
use Rattle.saw_runs.specs.Entries.Entry.{OfNode, OfRun}
use Rattle.saw_runs.specs.Paths.{along, nodes_towards, passed, path_from, path_of}
use Rattle.saw_runs.specs.Readings.{stepped}
use Rattle.saw_runs.specs.Runs.{above_one, hash_up, nodes_of_run}
use Rattle.saw_runs.specs.Tables.{at_byte}
use Rattle.saw_runs.specs.Told.{hash_at, IsRootOf, IsTold, IsToldBy}
use Rattle.saw_runs.proofs.Fors.{next_first, next_only}
use Rattle.saw_runs.proofs.Leading.{IsAt, child_is, low, next_place, node_on, node_told, not_missing, run_on, run_told, size_of, taken_covers, up}
use Rattle.saw_runs.proofs.Telling.{node_at-one, told_hash}

-- all bytes are less than 256
abbrev AreBytes : List ℕ → Type 0
AreBytes bytes = list_all (λ b. nat_lt b 256) bytes ≡ true

bytes_behind : (n : ℕ) (bytes : List ℕ) → AreBytes bytes → AreBytes (drop n bytes)
bytes_behind zero bytes all = all
bytes_behind (suc n) [] all = refl
bytes_behind (suc n) (b ∷ bytes) all = bytes_behind n bytes (and_parts (nat_lt b 256) (list_all (λ c. nat_lt c 256) bytes) all).1

-- ---- by the next byte

module _ (hash : List ℕ → List ℕ) (es : Entries) (levels : ℕ) (place : List ℕ) (b : ℕ) (bytes : List ℕ) where
  towards_on : has_under es (place ++ b ∷ []) ≡ true
      → nodes_towards hash es (suc levels) place (b ∷ bytes) ≡ path_from hash es levels (place ++ b ∷ []) bytes
  unfolding nodes_towards
  towards_on met = ap (λ t. cond t (path_from hash es levels (place ++ b ∷ []) bytes) []) met

  towards_off : has_under es (place ++ b ∷ []) ≡ false → nodes_towards hash es (suc levels) place (b ∷ bytes) ≡ []
  unfolding nodes_towards
  towards_off unmet = ap (λ t. cond t (path_from hash es levels (place ++ b ∷ []) bytes) []) unmet

-- ---- down a run

module _ (hash : List ℕ → List ℕ) (R : List ℕ → Entry → Type 0) (es : Entries) where
  -- its top is the node at its place
  top_is : (levels : ℕ) (place : List ℕ) (c : ℕ) (path bottom : List ℕ) → IsTold hash R es (suc levels) place (c ∷ path) bottom
      → node_at hash es (suc levels) place ≡ above_one c (hash_up hash path bottom)
  unfolding IsTold
  top_is levels place c path bottom t = node_at-one hash es levels place c t.0 ∙ ap (above_one c) (sym (told_hash hash R es levels (place ++ c ∷ []) path bottom t.1))

  -- where the bytes part from it, the way ends
  run_parts : (levels : ℕ) (place path bottom bytes : List ℕ) → IsTold hash R es levels place path bottom → AreBytes bytes → covers path bytes ≡ false
      → path_from hash es levels place bytes ≡ take (along path bytes) (nodes_of_run hash path bottom)
  unfolding IsTold nodes_towards
  run_parts levels place [] bottom bytes t all off = absurd (true≢false off)
  run_parts zero place (c ∷ path) bottom bytes t all off = absurd t
  run_parts (suc levels) place (c ∷ path) bottom [] t all off = ap (λ s. s ∷ []) (top_is levels place c path bottom t)
  run_parts (suc levels) place (c ∷ path) bottom (b ∷ bytes) t all off =
      let top = top_is levels place c path bottom t in
      let small = and_parts (nat_lt b 256) (list_all (λ x. nat_lt x 256) bytes) all in
      elim (nat_eq c b) as
      (λ v. nat_eq c b ≡ v
      → path_from hash es (suc levels) place (b ∷ bytes)
      ≡ take (suc (cond v (along path bytes) 0)) (above_one c (hash_up hash path bottom) ∷ nodes_of_run hash path bottom)) [
        | true ↦ λ here.
            let same : c ≡ b = eqb-true c b here in
            let met : has_under es (place ++ b ∷ []) ≡ true = ap (λ x. has_under es (place ++ x ∷ [])) (sym same) ∙ (next_first es place c [] t.0).1 in
            let below : path_from hash es levels (place ++ b ∷ []) bytes ≡ take (along path bytes) (nodes_of_run hash path bottom) =
            ap (λ x. path_from hash es levels (place ++ x ∷ []) bytes) (sym same)
            ∙ run_parts levels (place ++ c ∷ []) path bottom bytes t.1 small.1 (ap (λ v. v && covers path bytes) (sym here) ∙ off) in
            (λ i. top i ∷ (towards_on hash es levels place b bytes met ∙ below) i)
        | false ↦ λ other.
            let unmet : has_under es (place ++ b ∷ []) ≡ false =
            next_only es place c t.0 b (let lt = ltb-true b 256 small.0 in omega (arith, lt)) (λ same. both_ways _ other (eq-eqb c b (sym same))) in
            (λ i. top i ∷ towards_off hash es levels place b bytes unmet i)
      ] refl

  -- where they go on with all of it, the way goes on behind it
  run_passed : (levels left : ℕ) (place path bottom bytes : List ℕ) → left + length path ≡ levels → IsTold hash R es levels place path bottom
      → covers path bytes ≡ true
      → path_from hash es levels place bytes
      ≡ take (along path bytes) (nodes_of_run hash path bottom) ++ path_from hash es left (place ++ path) (drop (length path) bytes)
  unfolding IsTold
  run_passed levels left place [] bottom bytes deep t on =
      let same : levels ≡ left = omega (arith, deep) in
      ap (λ n. path_from hash es n place bytes) same
      ∙ ap (λ p. path_from hash es left p bytes) (sym (append-nil place))
  run_passed zero left place (c ∷ path) bottom bytes deep t on = absurd t
  run_passed (suc levels) left place (c ∷ path) bottom [] deep t on = absurd (true≢false (sym on))
  run_passed (suc levels) left place (c ∷ path) bottom (b ∷ bytes) deep t on =
      let top = top_is levels place c path bottom t in
      let parts = and_parts (nat_eq c b) (covers path bytes) on in
      let same : c ≡ b = eqb-true c b parts.0 in
      let met : has_under es (place ++ b ∷ []) ≡ true = ap (λ x. has_under es (place ++ x ∷ [])) (sym same) ∙ (next_first es place c [] t.0).1 in
      let below : path_from hash es levels (place ++ b ∷ []) bytes
      ≡ take (along path bytes) (nodes_of_run hash path bottom) ++ path_from hash es left (place ++ c ∷ path) (drop (length path) bytes) =
      ap (λ x. path_from hash es levels (place ++ x ∷ []) bytes) (sym same)
      ∙ run_passed levels left (place ++ c ∷ []) path bottom bytes (omega (arith, deep)) t.1 parts.1
      ∙ ap (λ p. take (along path bytes) (nodes_of_run hash path bottom) ++ path_from hash es left p (drop (length path) bytes)) (append_assoc place (c ∷ []) path) in
      (λ i. top i ∷ (towards_on hash es levels place b bytes met ∙ below) i)
      ∙ ap (λ v. take (suc (cond v (along path bytes) 0)) (above_one c (hash_up hash path bottom) ∷ nodes_of_run hash path bottom)
      ++ path_from hash es left (place ++ c ∷ path) (drop (length path) bytes)) (sym parts.0)

-- ---- step by step

-- these nodes and those from here on are the path
pub record IsOnWay (hash : List ℕ → List ℕ) (read : List ℕ → Option Entry) (m : StateMap) (at : List ℕ) (i : ℕ) (h : List ℕ) (nodes : List Shape) : Type 0 where
  pub here : IsAt hash read m at i h
  pub rest : nodes ++ path_from hash (finite.entries m) here.levels (take i at) (drop i at) ≡ path_of hash (finite.entries m) at

-- for every map of a root
abbrev pub Gathers : (List ℕ → List ℕ) → (List ℕ → Option Entry) → List ℕ → List ℕ → ℕ → List ℕ → List Shape → Type 0
Gathers hash read root at i h nodes = (m : StateMap) → IsRootOf hash (IsRead read) m root → IsOnWay hash read m at i h nodes

pub gathers_start : (hash : List ℕ → List ℕ) (read : List ℕ → Option Entry) (root at : List ℕ) → Gathers hash read root at 0 root []
gathers_start hash read root at m is = record { here = record { levels = 35; deep = refl; told = is.told }; rest = refl }

module _ (hash : List ℕ → List ℕ) (read : List ℕ → Option Entry) (m : StateMap) (at : List ℕ) (i : ℕ) (h : List ℕ) (there : IsAt hash read m at i h)
    (is : is_address at ≡ true) where
  abbrev es : Entries
  es = finite.entries m

  are_bytes : AreBytes (drop i at)
  are_bytes = bytes_behind i at (and_parts (nat_eq (length at) 35) (list_all (λ b. nat_lt b 256) at) is).1

  node_here : (shape : Shape) → read h ≡ Some (OfNode shape) → node_at hash es there.levels (take i at) ≡ shape
  node_here shape found = sym (node_told hash read m at i h there shape found).0

  -- a leaf is the last of a path
  last_node : i ≡ 35 → path_from hash es there.levels (take i at) (drop i at) ≡ passed hash (read h) (drop i at)
  unfolding IsTold nodes_towards
  last_node end =
      let d = there.deep in
      let bottom : there.levels ≡ 0 = omega (arith, d, end) in
      elim (subst (λ n. IsToldBy hash (IsRead read) es n (take i at) h) bottom there.told) [
        | inl node ↦ ap (λ n. path_from hash es n (take i at) (drop i at)) bottom ∙ ap (λ e. passed hash e (drop i at)) (sym node.1)
        | inr run ↦ absurd run.4
      ]

  module _ (within : i < 35) where
    drop_is : drop i at ≡ get_or at i 0 ∷ drop (i + 1) at
    drop_is = let size = size_of at is in drop_more at i 0 (omega (arith, size, within))

    abbrev below : List ℕ → List Shape
    below bytes = nodes_towards hash es there.levels (take i at) bytes

    -- what lies below a node, by its next byte
    below_is : below (drop i at) ≡ nodes_towards hash es (suc (low hash read m at i h there is within)) (take i at) (get_or at i 0 ∷ drop (i + 1) at)
    below_is = (λ k. nodes_towards hash es (up hash read m at i h there is within k) (take i at) (drop_is k))

    child_of : (shape : Shape) (v : Bool) → read h ≡ Some (OfNode shape) → has_under es (take i at ++ get_or at i 0 ∷ []) ≡ v
        → is_some (at_byte (get_or at i 0) shape.children) ≡ v
    child_of shape v found has =
        ap is_some (child_is hash read m at i h there is within shape found
        ∙ ap (λ t. cond t (Some (hash_at hash (IsRead read) es (low hash read m at i h there is within) (take i at ++ get_or at i 0 ∷ []))) None) has) ∙ some_if _ v
      where
        some_if : (x : List ℕ) (t : Bool) → is_some (cond t (Some x) None) ≡ t
        some_if x true = refl
        some_if x false = refl

    node_ends : (shape : Shape) → read h ≡ Some (OfNode shape) → at_byte (get_or at i 0) shape.children ≡ None
        → path_from hash es there.levels (take i at) (drop i at) ≡ shape ∷ []
    node_ends shape found child =
        let unmet : has_under es (take i at ++ get_or at i 0 ∷ []) ≡ false = false_from_ne_true _ (λ met.
        true≢false (sym (child_of shape true found met) ∙ ap is_some child)) in
        (λ k. node_here shape found k
        ∷ (below_is ∙ towards_off hash es (low hash read m at i h there is within) (take i at) (get_or at i 0) (drop (i + 1) at) unmet) k)

    node_passed : (shape : Shape) (g : List ℕ) (next : IsAt hash read m at (i + 1) g) → read h ≡ Some (OfNode shape)
        → at_byte (get_or at i 0) shape.children ≡ Some g
        → path_from hash es there.levels (take i at) (drop i at) ≡ shape ∷ path_from hash es next.levels (take (i + 1) at) (drop (i + 1) at)
    node_passed shape g next found child =
        let here = there.deep in
        let on = next.deep in
        let lower : low hash read m at i h there is within ≡ next.levels = omega (arith, here, on) in
        let met : has_under es (take i at ++ get_or at i 0 ∷ []) ≡ true = elim (cases_Bool (has_under es (take i at ++ get_or at i 0 ∷ []))) [
          | inl is_met ↦ is_met
          | inr unmet ↦ absurd (true≢false (sym (ap is_some child) ∙ child_of shape false found unmet))
        ] in
        (λ k. node_here shape found k
        ∷ (below_is ∙ towards_on hash es (low hash read m at i h there is within) (take i at) (get_or at i 0) (drop (i + 1) at) met
        ∙ ap (λ p. path_from hash es (low hash read m at i h there is within) p (drop (i + 1) at)) (sym (next_place hash read m at i h there is within))
        ∙ ap (λ n. path_from hash es n (take (i + 1) at) (drop (i + 1) at)) lower) k)

    run_ends : (path bottom : List ℕ) → read h ≡ Some (OfRun path bottom) → covers path (drop i at) ≡ false
        → path_from hash es there.levels (take i at) (drop i at) ≡ take (along path (drop i at)) (nodes_of_run hash path bottom)
    run_ends path bottom found off =
        run_parts hash (IsRead read) es there.levels (take i at) path bottom (drop i at) (run_told hash read m at i h there path bottom found).1 are_bytes off

    run_goes_on : (path bottom : List ℕ) (next : IsAt hash read m at (i + length path) bottom) → read h ≡ Some (OfRun path bottom)
        → covers path (drop i at) ≡ true
        → path_from hash es there.levels (take i at) (drop i at)
        ≡ take (along path (drop i at)) (nodes_of_run hash path bottom)
        ++ path_from hash es next.levels (take (i + length path) at) (drop (i + length path) at)
    run_goes_on path bottom next found on =
        let here = there.deep in
        let behind = next.deep in
        run_passed hash (IsRead read) es there.levels next.levels (take i at) path bottom (drop i at) (omega (arith, here, behind))
        (run_told hash read m at i h there path bottom found).1 on
        ∙ (λ k. take (along path (drop i at)) (nodes_of_run hash path bottom)
        ++ path_from hash es next.levels (sym place_on k) (drop_on k))
      where
        place_on : take (i + length path) at ≡ take i at ++ path
        place_on = take-add i (length path) at ∙ ap (λ xs. take i at ++ xs) (taken_covers path (drop i at) on)

        drop_on : drop (length path) (drop i at) ≡ drop (i + length path) at
        drop_on = drop-drop (length path) i at

-- ---- the step

-- where it leads on the rest of the path follows, else nothing
pub StepsTo : (hash : List ℕ → List ℕ) (read : List ℕ → Option Entry) (m : StateMap) (at : List ℕ) → List Shape → Option (ℕ × List ℕ) → Type 0
StepsTo hash read m at nodes None = nodes ≡ path_of hash (finite.entries m) at
StepsTo hash read m at nodes (Some next) = IsOnWay hash read m at next.0 next.1 nodes

module _ (hash : List ℕ → List ℕ) (read : List ℕ → Option Entry) (m : StateMap) (at : List ℕ) (i : ℕ) (h : List ℕ) (is : is_address at ≡ true)
    (within : i < 35) (nodes : List Shape) (way : IsOnWay hash read m at i h nodes) where
  abbrev there : IsAt hash read m at i h
  there = way.here

  run_to : (path bottom : List ℕ) (v : Bool) → covers path (drop i at) ≡ v → read h ≡ Some (OfRun path bottom)
      → StepsTo hash read m at (nodes ++ take (along path (drop i at)) (nodes_of_run hash path bottom)) (cond v (Some (i + length path, bottom)) None)
  unfolding StepsTo
  run_to path bottom true on found =
      let next = run_on hash read m at i h there is within path bottom found on in record {
        here = next;
        rest = append_assoc nodes _ _ ∙ ap (λ xs. nodes ++ xs) (sym (run_goes_on hash read m at i h there is within path bottom next found on)) ∙ way.rest;
      }
  run_to path bottom false off found =
      ap (λ xs. nodes ++ xs) (sym (run_ends hash read m at i h there is within path bottom found off)) ∙ way.rest

  node_to : (shape : Shape) (o : Option (List ℕ)) → at_byte (get_or at i 0) shape.children ≡ o → read h ≡ Some (OfNode shape)
      → StepsTo hash read m at (nodes ++ shape ∷ []) (option_map (λ child. (i + 1, child)) o)
  unfolding StepsTo
  node_to shape None child found = ap (λ xs. nodes ++ xs) (sym (node_ends hash read m at i h there is within shape found child)) ∙ way.rest
  node_to shape (Some g) child found =
      let next = node_on hash read m at i h there is within shape g found child in record {
        here = next;
        rest = append_assoc nodes (shape ∷ []) _ ∙ ap (λ xs. nodes ++ xs) (sym (node_passed hash read m at i h there is within shape g next found child)) ∙ way.rest;
      }

  entry_to : (entry : Option Entry) → read h ≡ entry → StepsTo hash read m at (nodes ++ passed hash entry (drop i at)) (stepped entry at i)
  entry_to None found = absurd (not_missing hash read m at i h there found)
  entry_to (Some (OfRun [] bottom)) found = absurd ((run_told hash read m at i h there [] bottom found).0 refl)
  entry_to (Some (OfRun (c ∷ path) bottom)) found = run_to (c ∷ path) bottom (covers (c ∷ path) (drop i at)) refl found
  entry_to (Some (OfNode shape)) found = node_to shape (at_byte (get_or at i 0) shape.children) refl found

-- ---- for every map of the root

module _ (hash : List ℕ → List ℕ) (read : List ℕ → Option Entry) (root at : List ℕ) (i : ℕ) (h : List ℕ) (nodes : List Shape)
    (gathered : Gathers hash read root at i h nodes) (is : is_address at ≡ true) where
  pub gathers_on : (next : ℕ × List ℕ) → i < 35 → Some next ≡ stepped (read h) at i
      → Gathers hash read root at next.0 next.1 (nodes ++ passed hash (read h) (drop i at))
  unfolding StepsTo
  gathers_on next within e m root_is =
      subst (StepsTo hash read m at (nodes ++ passed hash (read h) (drop i at))) (sym e)
      (entry_to hash read m at i h is within nodes (gathered m root_is) (read h) refl)

  pub gathers_none : i < 35 → None ≡ stepped (read h) at i → (m : StateMap) → IsRootOf hash (IsRead read) m root
      → nodes ++ passed hash (read h) (drop i at) ≡ path_of hash (finite.entries m) at
  unfolding StepsTo
  gathers_none within e m root_is =
      subst (StepsTo hash read m at (nodes ++ passed hash (read h) (drop i at))) (sym e)
      (entry_to hash read m at i h is within nodes (gathered m root_is) (read h) refl)

  pub gathers_last : i ≡ 35 → (m : StateMap) → IsRootOf hash (IsRead read) m root
      → nodes ++ passed hash (read h) (drop i at) ≡ path_of hash (finite.entries m) at
  gathers_last end m root_is =
      let way = gathered m root_is in
      ap (λ xs. nodes ++ xs) (sym (last_node hash read m at i h way.here is end)) ∙ way.rest

-- ---- how far a run goes along

module _ (path bytes : List ℕ) (at : ℕ) (within : at < length path) (passed_so_far : at + along (drop at path) (drop at bytes) ≡ along path bytes) where
  -- no byte is left
  pub ends_short : length bytes ≤ at → at + 1 ≡ along path bytes
  ends_short short = sym (λ k. at + along (drop_more path at 0 within k) (drop_all at bytes short k)) ∙ passed_so_far

  -- or the next one is another
  pub ends_apart : at < length bytes → get_or path at 0 ≢ get_or bytes at 0 → at + 1 ≡ along path bytes
  ends_apart long apart =
      sym ((λ k. at + (along (drop_more path at 0 within k) (drop_more bytes at 0 long k)))
      ∙ ap (λ t. at + suc (cond t (along (drop (at + 1) path) (drop (at + 1) bytes)) 0)) (ne_eqb (get_or path at 0) (get_or bytes at 0) apart))
      ∙ passed_so_far
