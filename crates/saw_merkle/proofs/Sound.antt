-- A state stays sound, and what it stands for.
use Rattle.std.proofs.Common.{◌≡◌, ℕ, suc, Bool, true, false, cond, List, [], ◌∷◌, ◌++◌, length, map, refl, sym, ap, ◌∙◌, subst, arith, Option, Some, None, inl, inr}
use Rattle.std.specs.Prelude.{IfSome, IsSome, is_some, ◌||◌, not, unwrap_or}
use Rattle.std.specs.Ordering.{nat_cmp, eq_by_cmp, is_eq}
use Rattle.std.specs.Cmp.{eq_by_cmp_equiv}
use Rattle.std.specs.Cmp.Lexicographic.{slice_cmp, nat_list_cmp_total}
use Rattle.std.specs.FinMap as finite
use Rattle.std.proofs.lemmas.Bool.{true≢false, cases_Bool, both_ways, or_cases, false_from_ne_true}
use Rattle.std.proofs.lemmas.Cmp.{tied_itself}
use Rattle.std.proofs.lemmas.Map.Lookups.{exact_bytes}
use Rattle.saw_address.specs.Maps.{Entries, StateMap, no_entries}
use Rattle.saw_context.specs.Outcome.{map_after}
use Rattle.saw_messages.specs.declared.outcome.Change.{Change}
use Rattle.saw_node.specs.Nodes.{Shape, encoding_of, shape_of}
use Rattle.saw_node.specs.Trees.{IsNodeOf, has_under, node_at, root_of_map}
use Rattle.saw_node.proofs.Found.{tie}
use Rattle.saw_store.specs.declared.fault.StoreFault.{StoreFault}
use Rattle.saw_store.specs.declared.fault.StoreFault.TheVariants.{Collision, OutOfMemory}
use Rattle.saw_runs.specs.Changes.{ChangesRoot, IsRootWith}
use Rattle.saw_runs.specs.Entries.{AreNamed, Entry, IsAmong, IsRead, IsReadOr, IsWhole, entry_hash, entry_of}
use Rattle.saw_runs.specs.Entries.Entry.{OfNode, OfRun}
use Rattle.saw_runs.specs.Keeping.{AddsPieces, AreClear, AreEnded, IsClashOf, IsEnded, IsNodeOfNew, IsNodeRead, NewsAreEnded}
use Rattle.saw_runs.specs.Listing.{map_read}
use Rattle.saw_runs.specs.OfMaps.{IsPieceOf}
use Rattle.saw_runs.specs.Pieces.{EachIs, IsPieceBelow}
use Rattle.saw_runs.specs.Places.{AreAddressed, AreOfAddresses}
use Rattle.saw_runs.specs.Told.{IsRootOf, IsTold, IsToldBy, hash_at}
use Rattle.saw_runs.specs.declared.pieces.NewPiece.{NewPiece}
use Rattle.saw_runs.proofs.AtRoot.{root_stays}
use Rattle.saw_runs.proofs.OneMap.{map_read-root}
use Rattle.saw_runs.proofs.WholePieces.{end_of, nodes_in, piece_from, told_end, whole_kept, whole_told}
use Rattle.saw_runs.proofs.Among.{among_named}
use Rattle.saw_runs.proofs.Leading.{node_at-table}
use Rattle.saw_runs.proofs.Local.{node_with, value_from_has}
use Rattle.saw_runs.proofs.Piecing.{each_among, each_map, each_split}
use Rattle.saw_runs.proofs.Tabled.{table_none}
use Rattle.saw_merkle.specs.Clashes.{AreTold, IsClashFor, IsNodeOfKnown, IsPieceOfBoth, IsPieceOfKnown, IsPreparedFor}
use Rattle.saw_merkle.specs.Inside.{HasMore, HasSame, IsSound, has_root, states_of}
use Rattle.saw_merkle.specs.Preparations.{Preparation}
use Rattle.saw_merkle.specs.States.{AreRooted, IsRooted, States, Updates, knows, map_at, state_at}
use Rattle.saw_merkle.proofs.Addressed.{addressed, addresses}

-- what is read under a hash
abbrev Reading : Type 0
Reading = List ℕ → Option Entry

tied_same : (x y : List ℕ) → eq_by_cmp (slice_cmp nat_cmp) x y ≡ true → x ≡ y
tied_same x y e = exact_bytes x y (tie (slice_cmp nat_cmp x y) e)

some_same : {A : Type 0} {y x : A} → Some y ≡ Some x → y ≡ x
some_same e = cc

not_some : {A : Type 0} {x : A} {P : Type 0} → None ≡ Some x → P
not_some e = absurd cc

-- ---- the states of roots

find-states : (read : Reading) (roots : List (List ℕ)) (q : List ℕ) → finite.find (slice_cmp nat_cmp) q
    (map (λ root. (root, map_read read root)) roots) ≡ cond (has_root roots q) (Some (map_read read q)) None
find-states read [] q = refl
find-states read (r ∷ roots) q =
    let rest = find-states read roots q in
    elim (cases_Bool (eq_by_cmp (slice_cmp nat_cmp) q r)) [
      | inl tied ↦
          ap (λ t. cond t (Some (map_read read r)) (finite.find (slice_cmp nat_cmp) q (map (λ root. (root, map_read read root)) roots))) tied
          ∙ ap (λ x. Some (map_read read x)) (sym (tied_same q r tied))
          ∙ ap (λ t. cond (t || has_root roots q) (Some (map_read read q)) None) (sym tied)
      | inr apart ↦
          ap (λ t. cond t (Some (map_read read r)) (finite.find (slice_cmp nat_cmp) q (map (λ root. (root, map_read read root)) roots))) apart ∙ rest
          ∙ ap (λ t. cond (t || has_root roots q) (Some (map_read read q)) None) (sym apart)
    ]

-- the map of a root
pub state_at-of : (read : Reading) (roots : List (List ℕ)) (q : List ℕ) → state_at (states_of read roots) q ≡ cond (has_root roots q)
    (Some (map_read read q)) None
state_at-of read roots q = finite.get-from_entries nat_list_cmp_total _ q ∙ find-states read roots q

-- the empty map is known
pub empty_is_known : (hash : List ℕ → List ℕ) (read : Reading) (roots : List (List ℕ)) (empty : List ℕ)
    → IsSound hash read roots empty → state_at (states_of read roots) (root_of_map hash no_entries) ≡ Some no_entries
empty_is_known hash read roots empty sound =
    ap (state_at (states_of read roots)) (sym sound.empty_is.named) ∙ state_at-of read roots empty
    ∙ ap (λ t. cond t (Some (map_read read empty)) None) sound.empty_known
    ∙ ap Some (map_read-root hash read no_entries empty sound.empty_is)

known_from : (read : Reading) (roots : List (List ℕ)) (q : List ℕ) (states : States) → states_of read roots ≡ states → IsSome (state_at states q)
    → has_root roots q ≡ true
known_from read roots q states is some = elim (cases_Bool (has_root roots q)) [
  | inl h ↦ h
  | inr none ↦ absurd (true≢false
      (sym (subst IsSome (ap (λ s. state_at s q) (sym is) ∙ state_at-of read roots q ∙ ap (λ t. cond t (Some (map_read read q)) None) none) some)))
]

-- ---- more is kept

-- what was read still is
abbrev Grows : Reading → Reading → Type 0
Grows old new = (h : List ℕ) (entry : Entry) → old h ≡ Some entry → new h ≡ Some entry

still_root : (hash : List ℕ → List ℕ) (old new : Reading) (m : StateMap) (root : List ℕ) → Grows old new → IsRootOf hash (IsRead old) m root
    → IsRootOf hash (IsRead new) m root
still_root hash old new m root grows is = root_stays hash old (IsRead old) (IsRead new) grows m root is

-- the same map is read from a root on
read_stays : (hash : List ℕ → List ℕ) (old new : Reading) (m : StateMap) (root : List ℕ) → Grows old new → IsRootOf hash (IsRead old) m root
    → map_read new root ≡ map_read old root
read_stays hash old new m root grows is = map_read-root hash new m root (still_root hash old new m root grows is) ∙ sym (map_read-root hash old m root is)

-- the states of the same roots
states_stay : (hash : List ℕ → List ℕ) (old new : Reading) (roots : List (List ℕ)) (empty : List ℕ) → Grows old new
    → IsSound hash old roots empty → states_of new roots ≡ states_of old roots
states_stay hash old new roots empty grows sound = finite.same_map nat_list_cmp_total exact_bytes _ _ (λ q.
    state_at-of new roots q
    ∙ elim (cases_Bool (has_root roots q)) [
      | inl known ↦
          ap (λ t. cond t (Some (map_read new q)) None) known ∙ ap Some (read_stays hash old new (map_read old q) q grows (sound.known q known))
          ∙ ap (λ t. cond t (Some (map_read old q)) None) (sym known)
      | inr unknown ↦ ap (λ t. cond t (Some (map_read new q)) None) unknown ∙ ap (λ t. cond t (Some (map_read old q)) None) (sym unknown)
    ]
    ∙ sym (state_at-of old roots q))

-- ---- one root more

has_old : (old new : List (List ℕ)) (answer q : List ℕ) → HasMore old new answer → has_root old q ≡ true → has_root new q ≡ true
has_old old new answer q more has = more q ∙ by (eq_by_cmp (slice_cmp nat_cmp) answer q) (has_root old q) has
  where
    by : (t u : Bool) → u ≡ true → cond t true u ≡ true
    by true u h = refl
    by false u h = h

has_answer : (old new : List (List ℕ)) (answer : List ℕ) → HasMore old new answer → has_root new answer ≡ true
has_answer old new answer more = more answer ∙ ap (λ r. cond (is_eq r) true (has_root old answer)) (tied_itself nat_list_cmp_total answer)

module _ (hash : List ℕ → List ℕ) (read : Reading) (old new : List (List ℕ)) (empty root answer : List ℕ) (m : StateMap) (more : HasMore old new answer)
    (comes : IsRootOf hash (IsRead read) m answer) where
  read_answer : map_read read answer ≡ m
  read_answer = map_read-root hash read m answer comes

  -- the states with the answer's map
  pub states_more : states_of read new ≡ knows hash (states_of read old) m
  states_more = finite.same_map nat_list_cmp_total exact_bytes _ _ (λ q.
      state_at-of read new q ∙ ap (λ t. cond t (Some (map_read read q)) None) (more q)
      ∙ elim (cases_Bool (eq_by_cmp (slice_cmp nat_cmp) answer q)) [
        | inl tied ↦
            let same : answer ≡ q = tied_same answer q tied in
            ap (λ t. cond (cond t true (has_root old q)) (Some (map_read read q)) None) tied ∙ ap (λ x. Some (map_read read x)) (sym same)
            ∙ ap Some read_answer
            ∙ ap (λ t. cond t (Some m) (state_at (states_of read old) q)) (sym tied)
        | inr apart ↦
            ap (λ t. cond (cond t true (has_root old q)) (Some (map_read read q)) None) apart ∙ sym (state_at-of read old q)
            ∙ ap (λ t. cond t (Some m) (state_at (states_of read old) q)) (sym apart)
      ]
      ∙ ap (λ t. cond t (Some m) (state_at (states_of read old) q)) ((eq_by_cmp_equiv nat_list_cmp_total).symm answer q)
      ∙ ap (λ r. cond (eq_by_cmp (slice_cmp nat_cmp) q r) (Some m) (state_at (states_of read old) q)) comes.named
      ∙ sym (finite.get-insert nat_list_cmp_total (states_of read old) (root_of_map hash m) m q))

  known_more : ((q : List ℕ) → has_root old q ≡ true → IsRootOf hash (IsRead read) (map_read read q) q) → (q : List ℕ) → has_root new q ≡ true
      → IsRootOf hash (IsRead read) (map_read read q) q
  known_more known q has = elim (cases_Bool (eq_by_cmp (slice_cmp nat_cmp) answer q)) [
    | inl tied ↦ subst (λ x. IsRootOf hash (IsRead read) (map_read read x) x) (tied_same answer q tied)
        (subst (λ n. IsRootOf hash (IsRead read) n answer) (sym read_answer) comes)
    | inr apart ↦ known q (sym (more q ∙ ap (λ t. cond t true (has_root old q)) apart) ∙ has)
  ]

-- ---- pieces of the maps that are known

module _ (hash : List ℕ → List ℕ) (read : Reading) (roots : List (List ℕ)) (empty : List ℕ) (sound : IsSound hash read roots empty) where
  -- the map of a known root is what is read of it
  pub known_map : (root : List ℕ) (m : StateMap) → state_at (states_of read roots) root ≡ Some m → (has_root roots root ≡ true) × (map_read read root ≡ m)
  known_map root m known = elim (cases_Bool (has_root roots root)) [
    | inl has ↦ (has, some_same (sym (state_at-of read roots root ∙ ap (λ t. cond t (Some (map_read read root)) None) has) ∙ known))
    | inr none ↦ not_some (sym (state_at-of read roots root ∙ ap (λ t. cond t (Some (map_read read root)) None) none) ∙ known)
  ]

  whole : (h : List ℕ) (entry : Entry) → IsRead read h entry → IsWhole entry
  whole h entry found = (sound.theirs h entry found).1

  map_kept : (root : List ℕ) → has_root roots root ≡ true → (entry : Entry) → IsPieceOf hash (finite.entries (map_read read root)) entry
      → IsRead read (entry_hash hash entry) entry
  map_kept root has entry piece =
      let is = sound.known root has in
      whole_kept hash (map_read read root) is.are (IsRead read) whole root is.named is.told entry piece

  -- its pieces are kept
  pub known_kept : (entry : Entry) → IsPieceOfKnown hash (states_of read roots) entry → IsRead read (entry_hash hash entry) entry
  known_kept entry of =
      let at = known_map of.root of.m of.known in
      map_kept of.root at.0 entry (subst (λ m. IsPieceOf hash (finite.entries m) entry) (sym at.1) of.is)

  -- and no others
  pub kept_known : (h : List ℕ) (entry : Entry) → IsRead read h entry → IsPieceOfKnown hash (states_of read roots) entry
  kept_known h entry kept =
      let of = sound.only h entry kept in
      record {
        root = of.root;
        m = map_read read of.root;
        known = state_at-of read roots of.root ∙ ap (λ t. cond t (Some (map_read read of.root)) None) of.has;
        is = of.is;
      }

  -- a node is kept where a run ends
  pub ended : AreEnded read
  ended h path bottom found =
      let of = sound.only h (OfRun path bottom) found in
      let end = end_of hash (map_read read of.root) (sound.known of.root of.has).are path bottom of.is in
      (end.0, subst (λ x. IsRead read x (OfNode end.0)) (sym end.2) (map_kept of.root of.has (OfNode end.0) end.1))

  pub are_rooted : AreRooted hash (states_of read roots)
  are_rooted root = elim (state_at (states_of read roots) root) as (λ o. state_at (states_of read roots) root ≡ o → IfSome o (IsRooted hash root)) [
    | None ↦ λ is. tt
    | Some m ↦ λ is.
        let at = known_map root m is in
        let rooted = sound.known root at.0 in
        subst (IsRooted hash root) at.1 (record { root_is = sym rooted.named; addresses = addresses (map_read read root) rooted.are })
  ] refl

  pub are_told : AreTold hash (states_of read roots)
  are_told e f of_e of_f same = some_same (sym (known_kept e of_e) ∙ ap read same ∙ known_kept f of_f)

  -- a node of what is kept is one of a known map
  pub node_known : (node : Shape) → IsNodeRead hash read node → IsNodeOfKnown hash (states_of read roots) node
  node_known node of =
      let known = kept_known of.at of.entry of.found in
      let at = known_map known.root known.m known.known in
      let are : AreAddressed known.m = subst AreAddressed at.1 (sound.known known.root at.0).are in
      record { root = known.root; m = known.m; known = known.known; is = nodes_in hash known.m are of.entry node known.is of.is }

-- ---- what changes lead to

-- where nothing new was there before
pub news_named : (hash : List ℕ → List ℕ) (read : Reading) (empty root answer : List ℕ) (changes : List Change) (given made : List NewPiece) → given ≡ []
    → ChangesRoot hash read empty root changes answer given made → AreNamed hash made
news_named hash read empty root answer changes given made none changed =
    subst (AreNamed hash) (sym (changed.grown ∙ ap (λ xs. xs ++ changed.news) none)) changed.named

-- a known root is told by what is read
pub root_known : (hash : List ℕ → List ℕ) (read : Reading) (roots : List (List ℕ)) (empty root : List ℕ) (states : States) → IsSound hash read roots empty
    → states_of read roots ≡ states → IsSome (state_at states root) → IsRootOf hash (IsRead read) (map_at states root) root
root_known hash read roots empty root states sound is known =
    let has : has_root roots root ≡ true = known_from read roots root states is known in
    let before = map_read read root in
    let at : state_at states root ≡ Some before = ap (λ s. state_at s root) (sym is) ∙ state_at-of read roots root
    ∙ ap (λ t. cond t (Some before) None) has in
    subst (λ m. IsRootOf hash (IsRead read) m root) (ap (λ o. unwrap_or o no_entries) (sym at)) (sound.known root has)

pub root_with : (hash : List ℕ → List ℕ) (read : Reading) (roots : List (List ℕ)) (empty root answer : List ℕ) (changes : List Change)
    (states : States) (given made : List NewPiece)
    → IsSound hash read roots empty → states_of read roots ≡ states → IsSome (state_at states root) → AreOfAddresses changes → given ≡ []
    → ChangesRoot hash read empty root changes answer given made → IsRootWith hash read (map_after (map_at states root) changes) answer made
root_with hash read roots empty root answer changes states given made sound is known are none changed =
    subst (λ xs. IsRootWith hash read (map_after (map_at states root) changes) answer xs) (sym (changed.grown ∙ ap (λ xs. xs ++ changed.news) none))
    (changed.told (map_at states root) (root_known hash read roots empty root states sound is known) sound.empty_is are)

-- ---- what a map needs

module _ (hash : List ℕ → List ℕ) (read : Reading) (roots : List (List ℕ)) (empty : List ℕ) (sound : IsSound hash read roots empty)
    (m : StateMap) (answer : List ℕ) (news : List NewPiece) where
  whole_or : AreNamed hash news → (h : List ℕ) (entry : Entry) → IsReadOr read news h entry → IsWhole entry
  whole_or named h entry kept = elim kept [
    | inl here ↦ whole hash read roots empty sound h entry here
    | inr new ↦ (among_named hash news h entry named new).1
  ]

  module _ (named : AreNamed hash news) (with_news : IsRootWith hash read m answer news) where
    are : AreAddressed m
    are = with_news.is.are

    -- a piece of the map, or of a known one, is kept or new
    both_kept : (entry : Entry) → IsPieceOfBoth hash (states_of read roots) m entry → IsReadOr read news (entry_hash hash entry) entry
    both_kept entry of = elim of [
      | inl known ↦ inl (known_kept hash read roots empty sound entry known)
      | inr new ↦ whole_kept hash m are (IsReadOr read news) (whole_or named) answer with_news.is.named with_news.is.told entry new
    ]

    -- what is new is a piece of the map
    pub new_piece : (h : List ℕ) (entry : Entry) → IsAmong news h entry → IsPieceOf hash (finite.entries m) entry
    new_piece h entry among =
        let found = each_among _ [] news h entry with_news.only among in
        piece_from hash m are (IsReadOr read found.0) (λ x e kept. whole_or named x e (elim kept [ inl here ↦ inl here | inr new ↦ inr (found.1 x e new) ])) entry
        (among_named hash news h entry named among).1 found.2

    pub news_ended : NewsAreEnded read news
    news_ended = each_map _ (IsEnded read) (λ before entry below. ends before entry below) [] news with_news.only
      where
        ends : (before : List NewPiece) (entry : Entry) → IsPieceBelow hash (IsReadOr read before) (finite.entries m) 35 [] entry → IsEnded read before entry
        ends before (OfNode shape) below = tt
        ends before (OfRun path bottom) below =
            let end = told_end hash m are (IsReadOr read before) below.left below.rest path bottom below.deep below.is.0 below.is.1 in
            (end.0, end.1)

    -- a node of what is new is one of the map
    pub new_node : (node : Shape) → IsNodeOfNew hash read news node → IsNodeOf hash (finite.entries m) node
    new_node node of = elim of [
      | inl among ↦ nodes_in hash m are among.entry node (new_piece among.at among.entry among.among) among.is
      | inr end ↦ end_node node end.before end.new end.after end.path end.bottom end.is end.end
          (each_split _ [] end.before end.after end.new (subst (EachIs _ []) end.split with_news.only))
    ]
      where
        end_node : (node : Shape) (before : List NewPiece) (new : NewPiece) (after : List NewPiece) (path bottom : List ℕ)
            → entry_of new.piece ≡ OfRun path bottom → ((shape : Shape) → IsReadOr read before bottom (OfNode shape) → node ≡ shape)
            → IsPieceBelow hash (IsReadOr read before) (finite.entries m) 35 [] (entry_of new.piece) → IsNodeOf hash (finite.entries m) node
        end_node node before new after path bottom is end piece =
            let below : IsPieceBelow hash (IsReadOr read before) (finite.entries m) 35 [] (OfRun path bottom) =
            subst (IsPieceBelow hash (IsReadOr read before) (finite.entries m) 35 []) is piece in
            let found = told_end hash m are (IsReadOr read before) below.left below.rest path bottom below.deep below.is.0 below.is.1 in
            subst (IsNodeOf hash (finite.entries m)) (sym (end found.0 found.1)) found.2

    pub prepared_for : (prepared : Preparation) → prepared.root ≡ answer → prepared.news ≡ news → AreClear read news
        → IsPreparedFor hash (states_of read roots) m prepared
    prepared_for prepared root_is news_are clear = record {
      root = root_is ∙ with_news.is.named;
      addresses = addresses m are;
      named = subst (AreNamed hash) (sym news_are) named;
      only = λ h entry among. new_piece h entry (subst (λ xs. IsAmong xs h entry) news_are among);
      whole = λ entry of. elim (both_kept entry (inr of)) [
        | inl kept ↦ inl (kept_known hash read roots empty sound (entry_hash hash entry) entry kept)
        | inr new ↦ inr (subst (λ xs. IsAmong xs (entry_hash hash entry) entry) (sym news_are) new)
      ];
      told = λ e f of_e of_f same. clear (entry_hash hash e) e f (both_kept e of_e)
          (subst (λ x. IsReadOr read news x f) (sym same) (both_kept f of_f));
    }

    pub clash_for : (fault : StoreFault) → IsClashOf hash read news fault → IsClashFor hash (states_of read roots) m fault
    clash_for OutOfMemory clash = tt
    clash_for (Collision kept given) clash = (
      new_node (shape_of given) clash.0,
      elim clash.1 [
        | inl here ↦ inl (node_known hash read roots empty sound (shape_of kept) here)
        | inr new ↦ inr (new_node (shape_of kept) new)
      ],
      clash.2,
      clash.3,
    )

  module _ (prepared : Preparation) (is : IsPreparedFor hash (states_of read roots) m prepared) (root_is : prepared.root ≡ answer)
      (news_are : prepared.news ≡ news) where
    named_prepared : AreNamed hash news
    named_prepared = subst (AreNamed hash) news_are is.named

    only_prepared : (h : List ℕ) (entry : Entry) → IsAmong news h entry → IsPieceOf hash (finite.entries m) entry
    only_prepared h entry among = is.only h entry (subst (λ xs. IsAmong xs h entry) (sym news_are) among)

    -- what was prepared tells the root
    pub root_prepared : IsRootOf hash (IsReadOr read news) m answer
    root_prepared = record {
      named = sym root_is ∙ is.root;
      told = subst (IsToldBy hash (IsReadOr read news) (finite.entries m) 35 []) (sym is.root ∙ root_is)
          (whole_told hash m (addressed m is.addresses) (IsReadOr read news) (whole_or named_prepared) (λ entry of. elim (is.whole entry of) [
            | inl known ↦ inl (known_kept hash read roots empty sound entry known)
            | inr new ↦ inr (subst (λ xs. IsAmong xs (entry_hash hash entry) entry) news_are new)
          ]));
      are = addressed m is.addresses;
    }

    kept_both : (h : List ℕ) (entry : Entry) → IsReadOr read news h entry → (h ≡ entry_hash hash entry) × IsPieceOfBoth hash (states_of read roots) m entry
    kept_both h entry kept = elim kept [
      | inl here ↦ ((sound.theirs h entry here).0, inl (kept_known hash read roots empty sound h entry here))
      | inr new ↦ ((among_named hash news h entry named_prepared new).0, inr (only_prepared h entry new))
    ]

    pub clear_prepared : AreClear read news
    clear_prepared h e f kept_e kept_f =
        let at_e = kept_both h e kept_e in
        let at_f = kept_both h f kept_f in
        is.told e f at_e.1 at_f.1 (sym at_e.0 ∙ at_f.0)

-- ---- an update as a whole

-- what an update leaves
pub record Updated (hash : List ℕ → List ℕ) (new : Reading) (states : States) (new_roots : List (List ℕ)) (empty root answer : List ℕ) (changes : List Change)
    : Type 0 where
  pub sound : IsSound hash new new_roots empty
  pub updates : Updates hash states root changes answer (states_of new new_roots)

pub updated : (hash : List ℕ → List ℕ) (old new : Reading) (roots new_roots : List (List ℕ)) (empty root : List ℕ) (changes : List Change)
    (states : States) (prepared : Preparation)
    → IsSound hash old roots empty → states_of old roots ≡ states → IsSome (state_at states root)
    → IsPreparedFor hash states (map_after (map_at states root) changes) prepared
    → AddsPieces old new prepared.news → HasMore roots new_roots prepared.root
    → Updated hash new states new_roots empty root prepared.root changes
updated hash old new roots new_roots empty root changes states prepared sound is known ready adds more =
    let answer = prepared.root in
    let m = map_after (map_at states root) changes in
    let ready_here : IsPreparedFor hash (states_of old roots) m prepared = subst (λ s. IsPreparedFor hash s m prepared) (sym is) ready in
    let told = root_prepared hash old roots empty sound m answer prepared.news prepared ready_here refl refl in
    let comes : IsRootOf hash (IsRead new) m answer = root_stays hash old (IsReadOr old prepared.news) (IsRead new)
    (λ h entry kept. elim kept [ inl here ↦ adds.grows h entry here | inr made ↦ adds.here h entry made ]) m answer told in
    let read_new : (q : List ℕ) → has_root roots q ≡ true → map_read new q ≡ map_read old q = λ q has_q. read_stays hash old new
    (map_read old q) q adds.grows (sound.known q has_q) in
    let known_new : (q : List ℕ) → has_root roots q ≡ true → IsRootOf hash (IsRead new) (map_read new q) q =
    λ q has_q. subst (λ n. IsRootOf hash (IsRead new) n q) (sym (read_new q has_q)) (still_root hash old new (map_read old q) q adds.grows (sound.known q has_q)) in
    let states_new : states_of new new_roots ≡ knows hash states m = states_more hash new roots new_roots empty root answer m more comes
    ∙ ap (λ s. knows hash s m) (states_stay hash old new roots empty adds.grows sound ∙ is) in
    record {
      sound = record {
        theirs = λ h entry kept. elim (adds.others h entry kept) [
          | inl was ↦ sound.theirs h entry was
          | inr made ↦ among_named hash prepared.news h entry ready.named made
        ];
        known = known_more hash new roots new_roots empty root answer m more comes known_new;
        only = λ h entry kept. elim (adds.others h entry kept) [
          | inl was ↦
              let of = sound.only h entry was in
              record {
                root = of.root;
                has = has_old roots new_roots answer of.root more of.has;
                is = subst (λ n. IsPieceOf hash (finite.entries n) entry) (sym (read_new of.root of.has)) of.is;
              }
          | inr made ↦ record {
            root = answer;
            has = has_answer roots new_roots answer more;
            is = subst (λ n. IsPieceOf hash (finite.entries n) entry) (sym (map_read-root hash new m answer comes)) (ready.only h entry made);
          }
        ];
        empty_known = has_old roots new_roots answer empty more sound.empty_known;
        empty_is = still_root hash old new no_entries empty adds.grows sound.empty_is;
      };
      updates = record {
        answer_is = ready.root;
        known = states_new;
        stays = λ q n at_q.
            let found = known_map hash old roots empty sound q n (ap (λ s. state_at s q) is ∙ at_q) in
            state_at-of new new_roots q ∙ ap (λ t. cond t (Some (map_read new q)) None) (has_old roots new_roots answer q more found.0)
            ∙ ap Some (read_new q found.0 ∙ found.1);
      };
    }

-- ---- roots that are the same

-- a root that was put and taken out again
pub taken_again : (old mid new : List (List ℕ)) (root : List ℕ) (was : Bool) → true ≡ not was → was ≡ has_root old root → HasMore old mid root
    → ((q : List ℕ) → has_root new q ≡ cond (eq_by_cmp (slice_cmp nat_cmp) root q) false (has_root mid q)) → HasSame old new
taken_again old mid new root true absent is more less q = absurd (true≢false absent)
taken_again old mid new root false absent is more less q = less q ∙ elim (cases_Bool (eq_by_cmp (slice_cmp nat_cmp) root q)) [
  | inl tied ↦ ap (λ t. cond t false (has_root mid q)) tied ∙ is ∙ ap (has_root old) (tied_same root q tied)
  | inr apart ↦ ap (λ t. cond t false (has_root mid q)) apart ∙ more q ∙ ap (λ t. cond t true (has_root old q)) apart
]

pub states_same : (read : Reading) (old new : List (List ℕ)) → HasSame old new → states_of read new ≡ states_of read old
states_same read old new same = finite.same_map nat_list_cmp_total exact_bytes _ _ (λ q.
    state_at-of read new q ∙ ap (λ t. cond t (Some (map_read read q)) None) (same q) ∙ sym (state_at-of read old q))

pub sound_same : (hash : List ℕ → List ℕ) (read : Reading) (old new : List (List ℕ)) (empty : List ℕ) → HasSame old new
    → IsSound hash read old empty → IsSound hash read new empty
sound_same hash read old new empty same sound = record {
  theirs = sound.theirs;
  known = λ root has. sound.known root (sym (same root) ∙ has);
  only = λ h entry kept. let of = sound.only h entry kept in record { root = of.root; has = same of.root ∙ of.has; is = of.is };
  empty_known = same empty ∙ sound.empty_known;
  empty_is = sound.empty_is;
}

-- ---- looking up

pub unknown : (read : Reading) (roots : List (List ℕ)) (q : List ℕ) (states : States) → states_of read roots ≡ states → has_root roots q ≡ false
    → None ≡ state_at states q
unknown read roots q states is none = sym (ap (λ s. state_at s q) (sym is) ∙ state_at-of read roots q
    ∙ ap (λ t. cond t (Some (map_read read q)) None) none)

-- the map of a known root, as a tree shows it
pub known_rooted : (hash : List ℕ → List ℕ) (read : Reading) (roots : List (List ℕ)) (empty : List ℕ) (root : List ℕ) → IsSound hash read roots empty
    → has_root roots root ≡ true → IsRooted hash root (map_read read root)
known_rooted hash read roots empty root sound has =
    let is = sound.known root has in
    record { root_is = sym is.named; addresses = addresses (map_read read root) is.are }

pub known_here : (read : Reading) (roots : List (List ℕ)) (q : List ℕ) (states : States) → states_of read roots ≡ states → has_root roots q ≡ true
    → Some (map_read read q) ≡ state_at states q
known_here read roots q states is has = sym (ap (λ s. state_at s q) (sym is) ∙ state_at-of read roots q
    ∙ ap (λ t. cond t (Some (map_read read q)) None) has)

-- ---- the first state

-- a node without children at the root
childless_told : (hash : List ℕ → List ℕ) (Kept : List ℕ → Entry → Type 0) (es : Entries) (levels : ℕ) (root : List ℕ)
    → root ≡ hash_at hash Kept es (suc levels) [] → Kept root (OfNode (node_at hash es (suc levels) []))
    → ((b : ℕ) → has_under es (b ∷ []) ≡ false) → IsTold hash Kept es (suc levels) [] [] root
unfolding IsTold
childless_told hash Kept es levels root named kept none = (named, kept, λ b lt met. absurd (both_ways _ (none b) met))

nothing_at : (place : List ℕ) → has_under (finite.entries no_entries) place ≡ false
nothing_at place = false_from_ne_true _ (λ met.
    let found = value_from_has (finite.entries no_entries) place met in
    true≢false (sym (sym (ap is_some (sym (finite.get-entries no_entries found.0) ∙ finite.get-empty (slice_cmp nat_cmp) found.0)) ∙ found.2)))

module _ (hash : List ℕ → List ℕ) where
  empty_shape : node_at hash (finite.entries no_entries) 35 [] ≡ node_with []
  empty_shape = node_at-table hash 34 [] no_entries ∙ ap node_with (table_none _ 0 256 (λ b low high.
      ap (λ t. cond t (Some (hash (encoding_of (node_at hash (finite.entries no_entries) 34 (b ∷ []))))) None) (nothing_at (b ∷ []))))

  -- where only the empty map's node is kept
  module _ (read none : Reading) (root : List ℕ) (made : NewPiece) (is : entry_of made.piece ≡ OfNode (node_with [])) (named : root ≡ hash (encoding_of (node_with [])))
      (at : made.hash ≡ root) (nothing : (h : List ℕ) → none h ≡ None) (adds : AddsPieces none read (made ∷ [])) where
    kept : read root ≡ Some (OfNode (node_with []))
    kept = adds.here root (OfNode (node_with [])) (inl (at, is))

    only_one : (h : List ℕ) (entry : Entry) → read h ≡ Some entry → (h ≡ root) × (entry ≡ OfNode (node_with []))
    only_one h entry found = elim (adds.others h entry found) [
      | inl before ↦ not_some (sym (nothing h) ∙ before)
      | inr new ↦ elim new [
        | inl here ↦ (sym here.0 ∙ at, sym here.1 ∙ is)
        | inr never ↦ absurd never
      ]
    ]

    stands : IsRootOf hash (IsRead read) no_entries root
    stands = record {
      named = named ∙ ap (λ s. hash (encoding_of s)) (sym empty_shape);
      told = inl (childless_told hash (IsRead read) (finite.entries no_entries) 34 root
          (named ∙ ap (λ s. hash (encoding_of s)) (sym empty_shape)) (kept ∙ ap (λ s. Some (OfNode s)) (sym empty_shape)) (λ b. nothing_at (b ∷ [])));
      are = λ q some. absurd (true≢false (sym (sym (ap is_some (finite.get-empty (slice_cmp nat_cmp) q)) ∙ some)));
    }

    pub empty_sound : (roots : List (List ℕ)) → roots ≡ root ∷ [] → IsSound hash read roots root
    empty_sound roots one =
        let itself : has_root (root ∷ []) root ≡ true = ap (λ r. is_eq r || false) (tied_itself nat_list_cmp_total root) in
        let known : has_root roots root ≡ true = ap (λ rs. has_root rs root) one ∙ itself in
        record {
          theirs = λ h entry found.
              let here = only_one h entry found in
              subst (λ e. (h ≡ entry_hash hash e) × IsWhole e) (sym here.1) (here.0 ∙ named, λ one. absurd (omega (arith, one)));
          known = λ q has.
              elim (or_cases (eq_by_cmp (slice_cmp nat_cmp) q root) false (ap (λ rs. has_root rs q) (sym one) ∙ has)) [
                | inl tied ↦ subst (λ x. IsRootOf hash (IsRead read) (map_read read x) x) (sym (tied_same q root tied))
                    (subst (λ m. IsRootOf hash (IsRead read) m root) (sym (map_read-root hash read no_entries root stands)) stands)
                | inr never ↦ absurd (true≢false (sym never))
              ];
          only = λ h entry found.
              let here = only_one h entry found in
              record {
                root = root;
                has = known;
                is = subst (λ m. IsPieceOf hash (finite.entries m) entry) (sym (map_read-root hash read no_entries root stands))
                    (subst (IsPieceOf hash (finite.entries no_entries)) (sym here.1) (record {
                      levels = 35;
                      place = [];
                      deep = refl;
                      is = (inl refl, sym empty_shape, λ one. absurd (omega (arith, sym one ∙ ap (λ (s : Shape). length s.children) empty_shape)));
                    }));
              };
          empty_known = known;
          empty_is = stands;
        }

    -- what it stands for
    pub empty_states : (roots : List (List ℕ)) → roots ≡ root ∷ [] → states_of read roots ≡ knows hash finite.empty no_entries
    empty_states roots one =
        ap (states_of read) one ∙ ap (finite.insert finite.empty root) (map_read-root hash read no_entries root stands)
        ∙ ap (λ r. finite.insert finite.empty r no_entries) stands.named
