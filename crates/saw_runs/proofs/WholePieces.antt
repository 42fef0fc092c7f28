-- Where all that is kept is whole, a root is told exactly where the pieces of its map are kept.
use Rattle.std.proofs.Common.{◌≡◌, ◌≢◌, ◌⊎◌, ℕ, zero, suc, ◌+◌, ◌<◌, true, List, [], ◌∷◌, ◌++◌, length, get_or, nat_eq, refl, sym, ap, ◌∙◌, subst, arith, append_assoc, inl, inr}
use Rattle.std.specs.Prelude.{is_some}
use Rattle.std.specs.FinMap as finite
use Rattle.std.proofs.lemmas.Bool.{and_parts, both_ways, cases_eq, eqb-true}
use Rattle.std.proofs.lemmas.List.{append-nil, length-append, length-map}
use Rattle.saw_address.specs.Maps.{Entries, StateMap, is_address}
use Rattle.saw_address.specs.Prefixes.{covers}
use Rattle.saw_node.specs.Nodes.{Shape, encoding_of}
use Rattle.saw_node.specs.Trees.{IsNodeOf, has_under, next_bytes, node_at}
use Rattle.saw_node.specs.Under.{has_byte}
use Rattle.saw_node.proofs.Places.{covers_parts, has_byte-get_or}
use Rattle.saw_runs.specs.Runs.{above_one, hash_up}
use Rattle.saw_runs.specs.Entries.{Entry, IsWhole, entry_hash}
use Rattle.saw_runs.specs.Entries.Entry.{OfNode, OfRun}
use Rattle.saw_runs.specs.Keeping.{IsNodeIn, IsRunNode}
use Rattle.saw_runs.specs.OfMaps.{IsPieceOf, IsTopPlace, IsWholeAt, Leads}
use Rattle.saw_runs.specs.Pieces.{IsPieceBelow}
use Rattle.saw_runs.specs.Places.{AreAddressed}
use Rattle.saw_runs.specs.Told.{IsTold, IsToldBy, hash_at}
use Rattle.saw_runs.proofs.Fors.{next_first, next_only, told_node}
use Rattle.saw_runs.proofs.Local.{has_under-shorter, value_from_has}
use Rattle.saw_runs.proofs.Nexts.{small_at}
use Rattle.saw_runs.proofs.Telling.{node_at-one, told_hash}

-- ---- bytes

-- a byte behind which there is an address is one
small_under : (m : StateMap) (place : List ℕ) (b : ℕ) (rest : List ℕ) → AreAddressed m → length place < 35
    → has_under (finite.entries m) (place ++ b ∷ rest) ≡ true → b < 256
small_under m place b rest are short met =
    let found = value_from_has (finite.entries m) (place ++ b ∷ []) (has_under-shorter (finite.entries m) (place ++ b ∷ []) rest
    (ap (has_under (finite.entries m)) (append_assoc place (b ∷ []) rest) ∙ met)) in
    let q = found.0 in
    let is : is_address q ≡ true = are q (ap is_some (finite.get-entries m q) ∙ found.2) in
    let parts = and_parts (nat_eq (length q) 35) _ is in
    let size : length q ≡ 35 = eqb-true (length q) 35 parts.0 in
    let long : length place < length q = omega (arith, size, short) in
    let here = and_parts (covers place q) (has_byte (length place) b q) (sym (covers_parts place (b ∷ []) q) ∙ found.1) in
    let same : b ≡ get_or q (length place) 0 = eqb-true b _ (sym (has_byte-get_or (length place) b q long) ∙ here.1) in
    let small = small_at q (length place) parts.1 long in
    omega (arith, same, small)

-- how many children a node has
child_count : (hash : List ℕ → List ℕ) (m : StateMap) (levels : ℕ) (place : List ℕ)
    → length (node_at hash (finite.entries m) (suc levels) place).children ≡ length (next_bytes (finite.entries m) place)
unfolding node_at
child_count hash m levels place = length-map (next_bytes (finite.entries m) place)
    (λ b. (b, hash (encoding_of (node_at hash (finite.entries m) levels (place ++ b ∷ [])))))

module _ (hash : List ℕ → List ℕ) (m : StateMap) (are : AreAddressed m) where
  abbrev es : Entries
  es = finite.entries m

  one_child : (levels : ℕ) (place : List ℕ) (c : ℕ) → next_bytes es place ≡ c ∷ [] → IsWholeAt hash es (suc levels) place → ⊥
  one_child levels place c one is = is (child_count hash m levels place ∙ ap length one)

  only_byte : (place : List ℕ) (c b : ℕ) (rest : List ℕ) → length place < 35 → next_bytes es place ≡ c ∷ [] → has_under es (place ++ b ∷ rest) ≡ true
      → b ≡ c
  only_byte place c b rest short one met = elim (cases_eq b c) [
    | inl same ↦ same
    | inr other ↦ absurd (both_ways _ (next_only es place c one b (small_under m place b rest are short met) other)
        (has_under-shorter es (place ++ b ∷ []) rest (ap (has_under es) (append_assoc place (b ∷ []) rest) ∙ met)))
  ]

  -- the node at the end of a told run
  pub told_end : (Kept : List ℕ → Entry → Type 0) (levels : ℕ) (place path bottom : List ℕ) → levels + length place ≡ 35 → has_under es place ≡ true
      → IsTold hash Kept es levels place path bottom → (node : Shape) × Kept bottom (OfNode node) × IsNodeOf hash es node
  unfolding IsTold
  told_end Kept zero place [] bottom deep met told =
      (node_at hash es zero place, told.1, record { levels = zero; place = place; is_place = record { deep = deep; met = inr met }; is = refl })
  told_end Kept zero place (c ∷ path) bottom deep met told = absurd told
  told_end Kept (suc levels) place [] bottom deep met told =
      (node_at hash es (suc levels) place, told.1, record { levels = suc levels; place = place; is_place = record { deep = deep; met = inr met }; is = refl })
  told_end Kept (suc levels) place (c ∷ path) bottom deep met told =
      told_end Kept levels (place ++ c ∷ []) path bottom (omega (arith, deep, length-append place (c ∷ []))) (next_first es place c [] told.0).1 told.1

  -- ---- what a run of a map leads to

  pub leads_hash : (levels : ℕ) (place path bottom : List ℕ) → Leads hash es levels place path bottom
      → hash_up hash path bottom ≡ hash (encoding_of (node_at hash es levels place))
  unfolding Leads
  leads_hash zero place [] bottom leads = leads.0
  leads_hash zero place (c ∷ path) bottom leads = absurd leads
  leads_hash (suc levels) place [] bottom leads = leads.0
  leads_hash (suc levels) place (c ∷ path) bottom leads =
      ap (λ h. hash (encoding_of (above_one c h))) (leads_hash levels (place ++ c ∷ []) path bottom leads.1)
      ∙ ap (λ s. hash (encoding_of s)) (sym (node_at-one hash es levels place c leads.0))

  -- the node at its end is a piece
  pub leads_end : (levels : ℕ) (place path bottom : List ℕ) → levels + length place ≡ 35 → has_under es place ≡ true
      → Leads hash es levels place path bottom → (shape : Shape) × IsPieceOf hash es (OfNode shape) × (bottom ≡ hash (encoding_of shape))
  unfolding Leads
  leads_end zero place [] bottom deep met leads =
      (node_at hash es zero place, record { levels = zero; place = place; deep = deep; is = (inr met, refl, leads.1) }, leads.0)
  leads_end zero place (c ∷ path) bottom deep met leads = absurd leads
  leads_end (suc levels) place [] bottom deep met leads =
      (node_at hash es (suc levels) place, record { levels = suc levels; place = place; deep = deep; is = (inr met, refl, leads.1) }, leads.0)
  leads_end (suc levels) place (c ∷ path) bottom deep met leads =
      leads_end levels (place ++ c ∷ []) path bottom (omega (arith, deep, length-append place (c ∷ []))) (next_first es place c [] leads.0).1 leads.1

  -- its nodes are the map's
  leads_nodes : (levels : ℕ) (place path bottom : List ℕ) (node : Shape) → levels + length place ≡ 35 → has_under es place ≡ true
      → Leads hash es levels place path bottom → IsRunNode hash path bottom node → IsNodeOf hash es node
  unfolding Leads
  leads_nodes zero place [] bottom node deep met leads is = absurd is
  leads_nodes zero place (c ∷ path) bottom node deep met leads is = absurd leads
  leads_nodes (suc levels) place [] bottom node deep met leads is = absurd is
  leads_nodes (suc levels) place (c ∷ path) bottom node deep met leads is = elim is [
    | inl here ↦ record {
      levels = suc levels;
      place = place;
      is_place = record { deep = deep; met = inr met };
      is = here ∙ ap (above_one c) (leads_hash levels (place ++ c ∷ []) path bottom leads.1) ∙ sym (node_at-one hash es levels place c leads.0);
    }
    | inr rest ↦
        leads_nodes levels (place ++ c ∷ []) path bottom node (omega (arith, deep, length-append place (c ∷ []))) (next_first es place c [] leads.0).1 leads.1
        rest
  ]

  pub nodes_in : (entry : Entry) (node : Shape) → IsPieceOf hash es entry → IsNodeIn hash entry node → IsNodeOf hash es node
  nodes_in (OfNode shape) node piece is = record {
    levels = piece.levels;
    place = piece.place;
    is_place = record { deep = piece.deep; met = piece.is.0 };
    is = is ∙ piece.is.1;
  }
  nodes_in (OfRun path bottom) node piece is = leads_nodes piece.levels piece.place path bottom node piece.deep piece.is.0 piece.is.3 is

  pub end_of : (path bottom : List ℕ) → IsPieceOf hash es (OfRun path bottom)
      → (shape : Shape) × IsPieceOf hash es (OfNode shape) × (bottom ≡ hash (encoding_of shape))
  end_of path bottom piece = leads_end piece.levels piece.place path bottom piece.deep piece.is.0 piece.is.3

  module _ (Kept : List ℕ → Entry → Type 0) (whole : (h : List ℕ) (e : Entry) → Kept h e → IsWhole e) where
    -- ---- what is told is of pieces

    end_whole : (levels : ℕ) (place h : List ℕ) → IsTold hash Kept es levels place [] h → IsWholeAt hash es levels place
    end_whole levels place h told = whole h (OfNode (node_at hash es levels place)) (told_node hash Kept es levels place h told)

    leads_from : (levels : ℕ) (place path bottom : List ℕ) → IsTold hash Kept es levels place path bottom → Leads hash es levels place path bottom
    unfolding IsTold Leads
    leads_from zero place [] bottom told = (told.0, whole bottom _ told.1)
    leads_from zero place (c ∷ path) bottom told = absurd told
    leads_from (suc levels) place [] bottom told = (told.0, whole bottom _ told.1)
    leads_from (suc levels) place (c ∷ path) bottom told = (told.0, leads_from levels (place ++ c ∷ []) path bottom told.1)

    pub piece_from : (entry : Entry) → IsWhole entry → IsPieceBelow hash Kept es 35 [] entry → IsPieceOf hash es entry
    piece_from (OfNode shape) is below = record {
      levels = below.left;
      place = below.rest;
      deep = below.deep;
      is = (inr below.is.0, below.is.1, subst (λ (s : Shape). length s.children ≢ 1) below.is.1 is);
    }
    piece_from (OfRun path bottom) is below = record {
      levels = below.left;
      place = below.rest;
      deep = below.deep;
      is = (below.is.0, is, below.top, leads_from below.left below.rest path bottom below.is.1);
    }

    -- ---- down to a node that has not one child

    told_at : (rest : List ℕ) (left levels : ℕ) (place path bottom : List ℕ) → levels + length place ≡ 35 → left + length rest ≡ levels
        → IsTold hash Kept es levels place path bottom → ((rest ≡ []) ⊎ (has_under es (place ++ rest) ≡ true)) → IsWholeAt hash es left (place ++ rest)
        → (h : List ℕ) × IsTold hash Kept es left (place ++ rest) [] h
    unfolding IsTold
    told_at [] left levels place [] bottom deep size told met is =
        let same : left ≡ levels = omega (arith, size) in
        (bottom, subst (λ p. IsTold hash Kept es left p [] bottom) (sym (append-nil place)) (subst (λ n. IsTold hash Kept es n place [] bottom) (sym same) told))
    told_at [] left zero place (c ∷ path) bottom deep size told met is = absurd told
    told_at [] left (suc levels) place (c ∷ path) bottom deep size told met is =
        let same : left ≡ suc levels = omega (arith, size) in
        absurd (one_child levels place c told.0 (subst (λ n. IsWholeAt hash es n place) same (subst (IsWholeAt hash es left) (append-nil place) is)))
    told_at (b ∷ rest) left zero place path bottom deep size told met is = absurd (omega (arith, size))
    told_at (b ∷ rest) left (suc levels) place [] bottom deep size told met is =
        let longer = append_assoc place (b ∷ []) rest in
        let here : has_under es (place ++ b ∷ rest) ≡ true = elim met [ inl none ↦ absurd cc | inr some ↦ some ] in
        let small = small_under m place b rest are (omega (arith, deep)) here in
        let below : has_under es ((place ++ b ∷ []) ++ rest) ≡ true = ap (has_under es) longer ∙ here in
        let down : (path bottom : List ℕ) → IsTold hash Kept es levels (place ++ b ∷ []) path bottom → (h : List ℕ) × IsTold hash Kept es left (place ++ b ∷ rest) [] h =
        λ path bottom next. subst (λ p. (h : List ℕ) × IsTold hash Kept es left p [] h) longer
        (told_at rest left levels (place ++ b ∷ []) path bottom (omega (arith, deep, length-append place (b ∷ []))) (omega (arith, size)) next (inr below)
        (subst (IsWholeAt hash es left) (sym longer) is)) in
        elim (told.2 b small (has_under-shorter es (place ++ b ∷ []) rest below)) [
          | inl node ↦ down [] (hash_at hash Kept es levels (place ++ b ∷ [])) node
          | inr run ↦ down (run.0 ∷ run.1) run.2 run.4
        ]
    told_at (b ∷ rest) left (suc levels) place (c ∷ path) bottom deep size told met is =
        let longer = append_assoc place (b ∷ []) rest in
        let here : has_under es (place ++ b ∷ rest) ≡ true = elim met [ inl none ↦ absurd cc | inr some ↦ some ] in
        let same : b ≡ c = only_byte place c b rest (omega (arith, deep)) told.0 here in
        let next : IsTold hash Kept es levels (place ++ b ∷ []) path bottom = subst (λ x. IsTold hash Kept es levels (place ++ x ∷ []) path bottom) (sym same) told.1 in
        subst (λ p. (h : List ℕ) × IsTold hash Kept es left p [] h) longer
        (told_at rest left levels (place ++ b ∷ []) path bottom (omega (arith, deep, length-append place (b ∷ []))) (omega (arith, size)) next
        (inr (ap (has_under es) longer ∙ here)) (subst (IsWholeAt hash es left) (sym longer) is))

    told_below : (root : List ℕ) → IsToldBy hash Kept es 35 [] root → (levels : ℕ) (place : List ℕ) → levels + length place ≡ 35
        → ((place ≡ []) ⊎ (has_under es place ≡ true)) → IsWholeAt hash es levels place → (h : List ℕ) × IsTold hash Kept es levels place [] h
    told_below root by levels place deep met is = elim by [
      | inl node ↦ told_at place levels 35 [] [] root refl deep node met is
      | inr run ↦ told_at place levels 35 [] (run.0 ∷ run.1) run.2 refl deep run.4 met is
    ]

    -- ---- the run down from a place is one

    same_run : (levels : ℕ) (place p q bottom end : List ℕ) → Leads hash es levels place p bottom → IsTold hash Kept es levels place q end
        → (p ≡ q) × (bottom ≡ end)
    unfolding IsTold Leads
    same_run zero place [] [] bottom end leads told = (refl, leads.0 ∙ sym told.0)
    same_run zero place (c ∷ p) q bottom end leads told = absurd leads
    same_run zero place [] (d ∷ q) bottom end leads told = absurd told
    same_run (suc levels) place [] [] bottom end leads told = (refl, leads.0 ∙ sym told.0)
    same_run (suc levels) place [] (d ∷ q) bottom end leads told = absurd (one_child levels place d told.0 leads.1)
    same_run (suc levels) place (c ∷ p) [] bottom end leads told = absurd (one_child levels place c leads.0 (end_whole (suc levels) place end told))
    same_run (suc levels) place (c ∷ p) (d ∷ q) bottom end leads told =
        let same : c ≡ d = first_is (sym leads.0 ∙ told.0) in
        let next = same_run levels (place ++ c ∷ []) p q bottom end leads.1
        (subst (λ x. IsTold hash Kept es levels (place ++ x ∷ []) q end) (sym same) told.1) in
        ((λ i. same i ∷ next.0 i), next.1)
      where
        first_is : {x y : ℕ} {xs ys : List ℕ} → x ∷ xs ≡ y ∷ ys → x ≡ y
        first_is e = cc

    run_kept : (levels : ℕ) (place path bottom h : List ℕ) → path ≢ [] → h ≡ hash_at hash Kept es levels place → Leads hash es levels place path bottom
        → IsToldBy hash Kept es levels place h → Kept (hash_up hash path bottom) (OfRun path bottom)
    run_kept levels place path bottom h some named leads by = elim by [
      | inl node ↦ absurd (some (same_run levels place path [] bottom h leads node).0)
      | inr run ↦
          let same = same_run levels place path (run.0 ∷ run.1) bottom run.2 leads run.4 in
          let at : h ≡ hash_up hash path bottom = named ∙ sym (leads_hash levels place path bottom leads) in
          subst (λ x. Kept x (OfRun path bottom)) at
          (subst (λ p. Kept h (OfRun p bottom)) (sym same.0) (subst (λ x. Kept h (OfRun (run.0 ∷ run.1) x)) (sym same.1) run.3))
    ]

    -- the pieces of the map of a root are kept
    pub whole_kept : (root : List ℕ) → root ≡ hash_at hash Kept es 35 [] → IsToldBy hash Kept es 35 [] root → (entry : Entry) → IsPieceOf hash es entry
        → Kept (entry_hash hash entry) entry
    unfolding IsTold
    whole_kept root named by (OfNode shape) piece =
        let below = told_below root by piece.levels piece.place piece.deep piece.is.0 piece.is.2 in
        let kept = told_node hash Kept es piece.levels piece.place below.0 below.1 in
        let at : below.0 ≡ hash (encoding_of (node_at hash es piece.levels piece.place)) = told_hash hash Kept es piece.levels piece.place [] below.0 below.1 in
        subst (λ (s : Shape). Kept (hash (encoding_of s)) (OfNode s)) (sym piece.is.1)
        (subst (λ x. Kept x (OfNode (node_at hash es piece.levels piece.place))) at kept)
    whole_kept root named by (OfRun path bottom) piece = elim piece.is.2 [
      | inl top ↦
          let all : piece.levels ≡ 35 = let d = piece.deep in omega (arith, d, ap length top) in
          run_kept 35 [] path bottom root piece.is.1 named
          (subst (λ p. Leads hash es 35 p path bottom) top (subst (λ n. Leads hash es n piece.place path bottom) all piece.is.3)) by
      | inr fork ↦
          let front = fork.0 in
          let b = fork.1 in
          let at_place : piece.place ≡ front ++ b ∷ [] = fork.2 in
          let d = piece.deep in
          let size : length piece.place ≡ length front + 1 = ap length at_place ∙ length-append front (b ∷ []) in
          let met : has_under es (front ++ b ∷ []) ≡ true = ap (has_under es) (sym at_place) ∙ piece.is.0 in
          let is : IsWholeAt hash es (suc piece.levels) front = λ one. fork.3 (sym (child_count hash m piece.levels front) ∙ one) in
          let below = told_below root by (suc piece.levels) front (omega (arith, d, size)) (inr (has_under-shorter es front (b ∷ []) met)) is in
          let small = small_under m front b [] are (omega (arith, d, size)) met in
          run_kept piece.levels (front ++ b ∷ []) path bottom (hash_at hash Kept es piece.levels (front ++ b ∷ [])) piece.is.1 refl
          (subst (λ p. Leads hash es piece.levels p path bottom) at_place piece.is.3) (below.1.2 b small met)
    ]

    -- ---- where the pieces are kept, the root is told

    module _ (all : (entry : Entry) → IsPieceOf hash es entry → Kept (entry_hash hash entry) entry) where
      node_kept : (levels : ℕ) (place : List ℕ) → levels + length place ≡ 35 → ((place ≡ []) ⊎ (has_under es place ≡ true)) → IsWholeAt hash es levels place
          → Kept (hash_at hash Kept es levels place) (OfNode (node_at hash es levels place))
      node_kept levels place deep met is =
          all (OfNode (node_at hash es levels place)) (record { levels = levels; place = place; deep = deep; is = (met, refl, is) })

      told_by : (levels : ℕ) (place path bottom : List ℕ) → levels + length place ≡ 35 → has_under es place ≡ true → IsTopPlace hash es place
          → IsTold hash Kept es levels place path bottom
          → IsTold hash Kept es levels place [] (hash_at hash Kept es levels place)
          ⊎ ((c : ℕ) × (path : List ℕ) × (bottom : List ℕ) × Kept (hash_at hash Kept es levels place) (OfRun (c ∷ path) bottom)
          × IsTold hash Kept es levels place (c ∷ path) bottom)
      told_by levels place [] bottom deep met top told =
          inl (subst (IsTold hash Kept es levels place []) (told_hash hash Kept es levels place [] bottom told) told)
      told_by levels place (c ∷ path) bottom deep met top told =
          let piece : IsPieceOf hash es (OfRun (c ∷ path) bottom) =
          record { levels = levels; place = place; deep = deep; is = (met, (λ none. absurd cc), top, leads_from levels place (c ∷ path) bottom told) } in
          inr (
            c,
            path,
            bottom,
            subst (λ x. Kept x (OfRun (c ∷ path) bottom)) (told_hash hash Kept es levels place (c ∷ path) bottom told) (all (OfRun (c ∷ path) bottom) piece),
            told,
          )

      fork_down : (levels : ℕ) (place : List ℕ) → suc levels + length place ≡ 35 → ((place ≡ []) ⊎ (has_under es place ≡ true))
          → ((b : ℕ) → has_under es (place ++ b ∷ []) ≡ true
          → (path : List ℕ) × (bottom : List ℕ) × IsTold hash Kept es levels (place ++ b ∷ []) path bottom)
          → length (next_bytes es place) ≢ 1 → (path : List ℕ) × (bottom : List ℕ) × IsTold hash Kept es (suc levels) place path bottom
      unfolding IsTold
      fork_down levels place deep met next is = (
        [],
        hash_at hash Kept es (suc levels) place,
        (
          refl,
          node_kept (suc levels) place deep met (λ one. is (sym (child_count hash m levels place) ∙ one)),
          λ b lt here. let down = next b here in
              told_by levels (place ++ b ∷ []) down.0 down.1 (omega (arith, deep, length-append place (b ∷ []))) here (inr (place, b, refl, is)) down.2,
        ),
      )

      by_bytes : (levels : ℕ) (place : List ℕ) → suc levels + length place ≡ 35 → ((place ≡ []) ⊎ (has_under es place ≡ true))
          → ((b : ℕ) → has_under es (place ++ b ∷ []) ≡ true
          → (path : List ℕ) × (bottom : List ℕ) × IsTold hash Kept es levels (place ++ b ∷ []) path bottom)
          → (bytes : List ℕ) → next_bytes es place ≡ bytes → (path : List ℕ) × (bottom : List ℕ) × IsTold hash Kept es (suc levels) place path bottom
      unfolding IsTold
      by_bytes levels place deep met next [] e =
          fork_down levels place deep met next (λ one. let none : length (next_bytes es place) ≡ 0 = ap length e in absurd (omega (arith, one, none)))
      by_bytes levels place deep met next (c ∷ []) e = let down = next c (next_first es place c [] e).1 in (c ∷ down.0, down.1, (e, down.2))
      by_bytes levels place deep met next (c ∷ d ∷ bytes) e = fork_down levels place deep met next
          (λ one. let many : length (next_bytes es place) ≡ suc (suc (length bytes)) = ap length e in absurd (omega (arith, one, many)))

      -- the run down from a place
      run_down : (levels : ℕ) (place : List ℕ) → levels + length place ≡ 35 → ((place ≡ []) ⊎ (has_under es place ≡ true))
          → (path : List ℕ) × (bottom : List ℕ) × IsTold hash Kept es levels place path bottom
      unfolding IsTold node_at
      run_down zero place deep met =
          ([], hash_at hash Kept es zero place, (refl, node_kept zero place deep met (λ one. absurd (omega (arith, one)))))
      run_down (suc levels) place deep met = by_bytes levels place deep met
          (λ b here. run_down levels (place ++ b ∷ []) (omega (arith, deep, length-append place (b ∷ []))) (inr here)) (next_bytes es place) refl

      root_by : (path bottom : List ℕ) → IsTold hash Kept es 35 [] path bottom → IsToldBy hash Kept es 35 [] (hash_at hash Kept es 35 [])
      unfolding IsTold
      root_by [] bottom told = inl (subst (IsTold hash Kept es 35 [] []) (told_hash hash Kept es 35 [] [] bottom told) told)
      root_by (c ∷ path) bottom told =
          told_by 35 [] (c ∷ path) bottom refl (has_under-shorter es [] (c ∷ []) (next_first es [] c [] told.0).1) (inl refl) told

      pub whole_told : IsToldBy hash Kept es 35 [] (hash_at hash Kept es 35 [])
      unfolding IsTold
      whole_told = let down = run_down 35 [] refl (inl refl) in root_by down.0 down.1 down.2
