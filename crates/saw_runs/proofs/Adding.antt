-- What tables have once new pieces are put.
use Rattle.std.proofs.Common.{◌≡◌, ◌⊎◌, ℕ, true≢false, cond, List, [], ◌∷◌, ◌++◌, map, refl, sym, ap, ◌∙◌, subst, Option, Some, None, inl, inr}
use Rattle.std.specs.Bool.{one_answer}
use Rattle.std.specs.Option.{option_map}
use Rattle.std.specs.Ordering.{nat_cmp}
use Rattle.std.specs.Cmp.Lexicographic.{slice_cmp}
use Rattle.std.specs.FinMap as finite
use Rattle.std.specs.Map.{lookup}
use Rattle.std.specs.Str.{bytes_eq}
use Rattle.std.proofs.lemmas.Bool.{cases_Bool}
use Rattle.std.proofs.lemmas.Slice.Eq.{bytes_eq-Decides}
use Rattle.saw_node.specs.Nodes.{Shape, encoding_of, shape_of}
use Rattle.saw_store.specs.News.{AreNamed as NodesAreNamed, with_all}
use Rattle.saw_store.specs.Stores.{Nodes, kept_at, shape_from, with_node}
use Rattle.saw_store.specs.declared.new_node.NewNode.{NewNode}
use Rattle.saw_store.proofs.Kept.{kept_at-with, same_test}
use Rattle.saw_runs.specs.Apart.{found_after, node_in, nodes_among, run_in, runs_among}
use Rattle.saw_runs.specs.Entries.{Entry, AreNamed, IsAmong, IsReadOr, entry_hash, entry_of}
use Rattle.saw_runs.specs.Entries.Entry.{OfNode}
use Rattle.saw_runs.specs.Keeping.{AddsPieces, AreClear}
use Rattle.saw_runs.specs.Readings.{either_entry, run_entry}
use Rattle.saw_runs.specs.declared.pieces.NewPiece.{NewPiece}
use Rattle.saw_runs.specs.declared.pieces.Piece.{Piece}
use Rattle.saw_runs.specs.declared.pieces.Piece.TheVariants as variants
use Rattle.saw_runs.specs.declared.run.Run.{Run}

-- ---- pairs that are put

-- a pair is one of these
abbrev IsPaired : {A : Type 0} → List (List ℕ × A) → List ℕ → A → Type 0
IsPaired [] key x = ⊥
IsPaired (pair ∷ pairs) key x = ((pair.0 ≡ key) × (pair.1 ≡ x)) ⊎ IsPaired pairs key x

some_same : {A : Type 0} {x y : A} → Some x ≡ Some y → x ≡ y
some_same e = cc

some_none : {A : Type 0} {x : A} → Some x ≡ None → ⊥
some_none e = cc

-- what is found was found before, or is one of them
found_is : {A : Type 0} (found : Option A) (pairs : List (List ℕ × A)) (key : List ℕ) (x : A) → found_after found pairs key ≡ Some x
    → (found ≡ Some x) ⊎ IsPaired pairs key x
found_is found [] key x e = inl e
found_is found (pair ∷ pairs) key x e =
    elim (found_is (cond (bytes_eq pair.0 key) (Some pair.1) found) pairs key x e) [
      | inl here ↦ elim (cases_Bool (bytes_eq pair.0 key)) [
        | inl tied ↦ inr (inl ((bytes_eq-Decides pair.0 key).0 tied, some_same (sym (ap (λ b. cond b (Some pair.1) found) tied) ∙ here)))
        | inr apart ↦ inl (sym (ap (λ b. cond b (Some pair.1) found) apart) ∙ here)
      ]
      | inr later ↦ inr (inr later)
    ]

-- where nothing is found nothing was, and none of them has the key
found_none : {A : Type 0} (found : Option A) (pairs : List (List ℕ × A)) (key : List ℕ) → found_after found pairs key ≡ None
    → (found ≡ None) × ((x : A) → IsPaired pairs key x → ⊥)
found_none found [] key e = (e, λ x p. p)
found_none found (pair ∷ pairs) key e =
    let later = found_none (cond (bytes_eq pair.0 key) (Some pair.1) found) pairs key e in
    elim (cases_Bool (bytes_eq pair.0 key)) [
      | inl tied ↦ absurd (some_none (sym (ap (λ b. cond b (Some pair.1) found) tied) ∙ later.0))
      | inr apart ↦ (
        sym (ap (λ b. cond b (Some pair.1) found) apart) ∙ later.0,
        λ x p. elim p [ inl here ↦ true≢false (sym ((bytes_eq-Decides pair.0 key).1 here.0) ∙ apart) | inr rest ↦ later.1 x rest ],
      )
    ]

-- ---- nodes and runs among new pieces

abbrev pair_of_node : NewNode → List ℕ × Shape
pair_of_node new = (new.hash, shape_of new.node)

run_first : (k : List ℕ) (piece : Piece) (others : List NewPiece) (h : List ℕ) (run : Run)
    → (IsPaired (runs_among others) h run → IsAmong others h (run_entry run)) → IsPaired (run_in k piece ++ runs_among others) h run
    → ((k ≡ h) × (entry_of piece ≡ run_entry run)) ⊎ IsAmong others h (run_entry run)
run_first k (variants.Node node) others h run later a = inr (later a)
run_first k (variants.Run first) others h run later a = elim a [ inl here ↦ inl (here.0, ap run_entry here.1) | inr rest ↦ inr (later rest) ]

run_among : (news : List NewPiece) (h : List ℕ) (run : Run) → IsPaired (runs_among news) h run → IsAmong news h (run_entry run)
run_among [] h run a = a
run_among (new ∷ others) h run a = run_first new.hash new.piece others h run (run_among others h run) a

node_first : (k : List ℕ) (piece : Piece) (others : List NewPiece) (h : List ℕ) (shape : Shape)
    → (IsPaired (map pair_of_node (nodes_among others)) h shape → IsAmong others h (OfNode shape))
    → IsPaired (map pair_of_node (node_in k piece ++ nodes_among others)) h shape
    → ((k ≡ h) × (entry_of piece ≡ OfNode shape)) ⊎ IsAmong others h (OfNode shape)
node_first k (variants.Node node) others h shape later a = elim a [ inl here ↦ inl (here.0, ap OfNode here.1) | inr rest ↦ inr (later rest) ]
node_first k (variants.Run run) others h shape later a = inr (later a)

node_among : (news : List NewPiece) (h : List ℕ) (shape : Shape) → IsPaired (map pair_of_node (nodes_among news)) h shape → IsAmong news h (OfNode shape)
node_among [] h shape a = a
node_among (new ∷ others) h shape a = node_first new.hash new.piece others h shape (node_among others h shape) a

-- no run and no node among them has the hash
abbrev IsNoneOf : List (List ℕ × Run) → List NewNode → List ℕ → Type 0
IsNoneOf runs nodes h = ((run : Run) → IsPaired runs h run → ⊥) × ((shape : Shape) → IsPaired (map pair_of_node nodes) h shape → ⊥)

absent_first : (k : List ℕ) (piece : Piece) (others : List NewPiece) (h : List ℕ) (entry : Entry)
    → (IsNoneOf (runs_among others) (nodes_among others) h → IsAmong others h entry → ⊥)
    → IsNoneOf (run_in k piece ++ runs_among others) (node_in k piece ++ nodes_among others) h
    → ((k ≡ h) × (entry_of piece ≡ entry)) ⊎ IsAmong others h entry → ⊥
absent_first k (variants.Node node) others h entry later none a = elim a [
  | inl here ↦ none.1 (shape_of node) (inl (here.0, refl))
  | inr rest ↦ later (none.0, λ s p. none.1 s (inr p)) rest
]
absent_first k (variants.Run run) others h entry later none a = elim a [
  | inl here ↦ none.0 run (inl (here.0, refl))
  | inr rest ↦ later (λ r p. none.0 r (inr p), none.1) rest
]

absent : (news : List NewPiece) (h : List ℕ) (entry : Entry) → IsNoneOf (runs_among news) (nodes_among news) h → IsAmong news h entry → ⊥
absent [] h entry none a = a
absent (new ∷ others) h entry none a = absent_first new.hash new.piece others h entry (absent others h entry) none a

named_first : (hash : List ℕ → List ℕ) (k : List ℕ) (piece : Piece) (others : List NewNode) → k ≡ entry_hash hash (entry_of piece) → NodesAreNamed hash others
    → NodesAreNamed hash (node_in k piece ++ others)
named_first hash k (variants.Node node) others is rest = (is, rest)
named_first hash k (variants.Run run) others is rest = rest

pub nodes_named : (hash : List ℕ → List ℕ) (news : List NewPiece) → AreNamed hash news → NodesAreNamed hash (nodes_among news)
nodes_named hash [] named = named
nodes_named hash (new ∷ others) named = named_first hash new.hash new.piece (nodes_among others) named.0.0 (nodes_named hash others named.1)

-- ---- nodes that are put

swapped : (h k : List ℕ) → bytes_eq h k ≡ bytes_eq k h
swapped h k = one_answer {P = h ≡ k} (bytes_eq h k) (bytes_eq k h) (bytes_eq-Decides h k)
    (λ t. sym ((bytes_eq-Decides k h).0 t), λ e. (bytes_eq-Decides k h).1 (sym e))

one_after : (hash : List ℕ → List ℕ) (nodes : Nodes) (k : List ℕ) (shape : Shape) (h : List ℕ) → k ≡ hash (encoding_of shape)
    → kept_at (with_node hash nodes shape) h ≡ cond (bytes_eq k h) (Some shape) (kept_at nodes h)
one_after hash nodes k shape h named =
    kept_at-with hash nodes shape h
    ∙ ap (λ same. cond same (Some shape) (kept_at nodes h))
    (sym (same_test h (hash (encoding_of shape))) ∙ swapped h (hash (encoding_of shape)) ∙ ap (λ q. bytes_eq q h) (sym named))

nodes_after : (hash : List ℕ → List ℕ) (nodes : Nodes) (news : List NewNode) (h : List ℕ) → NodesAreNamed hash news
    → kept_at (with_all hash nodes news) h ≡ found_after (kept_at nodes h) (map pair_of_node news) h
nodes_after hash nodes [] h named = refl
nodes_after hash nodes (new ∷ others) h named =
    nodes_after hash (with_node hash nodes (shape_of new.node)) others h named.1
    ∙ ap (λ o. found_after o (map pair_of_node others) h) (one_after hash nodes new.hash (shape_of new.node) h named.0)

-- ---- what is read then

-- what is read where the tables have these
abbrev pub reading : (List ℕ → Option Run) → Nodes → List ℕ → Option Entry
reading runs nodes h = either_entry (option_map run_entry (runs h)) (option_map OfNode (kept_at nodes h))

-- nothing, of tables without entries
pub nothing_read : (entries : List (List ℕ × Run)) (nodes : Nodes) → entries ≡ [] → nodes ≡ finite.empty → (h : List ℕ)
    → reading (λ q. lookup (bytes_eq q) entries) nodes h ≡ None
nothing_read entries nodes none empty h =
    (λ i. reading (λ q. lookup (bytes_eq q) (none i)) (empty i) h) ∙ ap (λ k. option_map OfNode (option_map shape_from k)) (finite.get-empty (slice_cmp nat_cmp) h)

both_none : (o : Option Run) (p : Option Shape) → either_entry (option_map run_entry o) (option_map OfNode p) ≡ None → (o ≡ None) × (p ≡ None)
both_none None None e = (refl, refl)
both_none None (Some shape) e = absurd (some_none e)
both_none (Some run) p e = absurd (some_none e)

module _ (hash : List ℕ → List ℕ) (old new : List ℕ → Option Run) (nodes : Nodes) (news : List NewPiece)
    (named : AreNamed hash news) (put : (h : List ℕ) → new h ≡ found_after (old h) (runs_among news) h) where
  nodes_are : (h : List ℕ)
      → kept_at (with_all hash nodes (nodes_among news)) h ≡ found_after (kept_at nodes h) (map pair_of_node (nodes_among news)) h
  nodes_are h = nodes_after hash nodes (nodes_among news) h (nodes_named hash news named)

  by_run : (h : List ℕ) (run : Run) → new h ≡ Some run → IsReadOr (reading old nodes) news h (run_entry run)
  by_run h run found = elim (found_is (old h) (runs_among news) h run (sym (put h) ∙ found)) [
    | inl was ↦ inl (ap (λ o. either_entry (option_map run_entry o) (option_map OfNode (kept_at nodes h))) was)
    | inr among ↦ inr (run_among news h run among)
  ]

  by_node : (h : List ℕ) (shape : Shape) → new h ≡ None → kept_at (with_all hash nodes (nodes_among news)) h ≡ Some shape
      → IsReadOr (reading old nodes) news h (OfNode shape)
  by_node h shape none found =
      let no_run = found_none (old h) (runs_among news) h (sym (put h) ∙ none) in
      elim (found_is (kept_at nodes h) (map pair_of_node (nodes_among news)) h shape (sym (nodes_are h) ∙ found)) [
        | inl was ↦
            inl (ap (λ o. either_entry (option_map run_entry o) (option_map OfNode (kept_at nodes h))) no_run.0 ∙ ap (option_map OfNode) was)
        | inr among ↦ inr (node_among news h shape among)
      ]

  came_by : (h : List ℕ) (entry : Entry) (o : Option Run) (p : Option Shape) → new h ≡ o → kept_at (with_all hash nodes (nodes_among news)) h ≡ p
      → either_entry (option_map run_entry o) (option_map OfNode p) ≡ Some entry → IsReadOr (reading old nodes) news h entry
  came_by h entry (Some run) p found kept is = subst (IsReadOr (reading old nodes) news h) (some_same is) (by_run h run found)
  came_by h entry None (Some shape) found kept is = subst (IsReadOr (reading old nodes) news h) (some_same is) (by_node h shape found kept)
  came_by h entry None None found kept is = absurd (some_none (sym is))

  came : (h : List ℕ) (entry : Entry) → reading new (with_all hash nodes (nodes_among news)) h ≡ Some entry
      → IsReadOr (reading old nodes) news h entry
  came h entry is = came_by h entry (new h) (kept_at (with_all hash nodes (nodes_among news)) h) refl refl is

  there : (h : List ℕ) (entry : Entry) → IsReadOr (reading old nodes) news h entry
      → reading new (with_all hash nodes (nodes_among news)) h ≡ None → ⊥
  there h entry known none =
      let both = both_none (new h) (kept_at (with_all hash nodes (nodes_among news)) h) none in
      let runs = found_none (old h) (runs_among news) h (sym (put h) ∙ both.0) in
      let kept = found_none (kept_at nodes h) (map pair_of_node (nodes_among news)) h (sym (nodes_are h) ∙ both.1) in
      elim known [
        | inl was ↦ some_none (sym was ∙ (λ i. either_entry (option_map run_entry (runs.0 i)) (option_map OfNode (kept.0 i))))
        | inr among ↦ absent news h entry (runs.1, kept.1) among
      ]

  -- all that was read is, and the new pieces, and nothing else
  pub adds_pieces : AreClear (reading old nodes) news
      → AddsPieces (reading old nodes) (reading new (with_all hash nodes (nodes_among news))) news
  adds_pieces clear = record {
    grows = λ h entry was. found h entry (inl was);
    here = λ h entry among. found h entry (inr among);
    others = came;
  }
    where
      found : (h : List ℕ) (entry : Entry) → IsReadOr (reading old nodes) news h entry
          → reading new (with_all hash nodes (nodes_among news)) h ≡ Some entry
      found h entry known = elim (reading new (with_all hash nodes (nodes_among news)) h)
          as (λ o. reading new (with_all hash nodes (nodes_among news)) h ≡ o → o ≡ Some entry) [
            | None ↦ λ none. absurd (there h entry known none)
            | Some other ↦ λ is. ap Some (clear h other entry (came h other is) known)
          ] refl
