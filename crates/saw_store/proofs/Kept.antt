-- What a store keeps.
use Rattle.std.proofs.Common.{◌≡◌, ℕ, Bool, true, false, cond, List, [], ◌∷◌, map, refl, sym, ap, ◌∙◌, subst, Option, Some, None}
use Rattle.std.specs.Prelude.{IfSome}
use Rattle.std.specs.Option.{option_map}
use Rattle.std.specs.Ordering.{nat_cmp, eq_by_cmp}
use Rattle.std.specs.Cmp.{eq_by_cmp_equiv}
use Rattle.std.specs.Cmp.Lexicographic.{slice_cmp, nat_list_cmp_total, texts_ties}
use Rattle.std.specs.Map.{lookup}
use Rattle.std.specs.BTreeMap.{is_at}
use Rattle.std.specs.Str.{bytes_eq}
use Rattle.std.specs.FinMap as finite
use Rattle.std.proofs.lemmas.Map.Lookups.{exact_bytes}
use Rattle.saw_node.specs.Nodes.{Shape, encoding_of, shape_of}
use Rattle.saw_node.specs.Contents.{Node}
use Rattle.saw_node.proofs.Found.{tie}
use Rattle.saw_store.specs.Stores.{Kept, Nodes, kept_of, shape_from, kept_at, with_node, shown, IsFree}

under_cond : (b : Bool) (n : Node) (o : Option Node) → cond b (Some (kept_of (shape_of n))) (option_map (λ k. kept_of (shape_of k)) o) ≡ option_map
    (λ k. kept_of (shape_of k)) (cond b (Some n) o)
under_cond true n o = refl
under_cond false n o = refl

found_node : (kept : List (List ℕ × Node)) (q : List ℕ) → finite.find (slice_cmp nat_cmp) q (map (λ e. (e.0, kept_of (shape_of e.1))) kept)
    ≡ option_map (λ k. kept_of (shape_of k)) (lookup (is_at (slice_cmp nat_cmp q)) kept)
found_node [] q = refl
found_node (e ∷ kept) q = ap (cond (is_at (slice_cmp nat_cmp q) e.0) (Some (kept_of (shape_of e.1)))) (found_node kept q)
    ∙ under_cond (is_at (slice_cmp nat_cmp q) e.0) e.1 _

get-shown : (kept : List (List ℕ × Node)) (q : List ℕ) → finite.get (shown kept) q ≡ option_map (λ k. kept_of (shape_of k))
    (lookup (is_at (slice_cmp nat_cmp q)) kept)
get-shown kept q = finite.get-from_entries nat_list_cmp_total _ q ∙ found_node kept q

twice : (o : Option Node) → option_map shape_from (option_map (λ k. kept_of (shape_of k)) o) ≡ option_map shape_of o
twice None = refl
twice (Some n) = refl

-- the node that is shown under a hash
pub kept_at-shown : (kept : List (List ℕ × Node)) (q : List ℕ) → kept_at (shown kept) q ≡ option_map shape_of (lookup (is_at (slice_cmp nat_cmp q)) kept)
kept_at-shown kept q = ap (option_map shape_from) (get-shown kept q) ∙ twice _

-- the order tells apart what equality does
pub same_test : (q k : List ℕ) → bytes_eq q k ≡ is_at (slice_cmp nat_cmp q) k
same_test q k = texts_ties q k

pub same_lookup : (q : List ℕ) (kept : List (List ℕ × Node)) → lookup (bytes_eq q) kept ≡ lookup (is_at (slice_cmp nat_cmp q)) kept
same_lookup q [] = refl
same_lookup q (e ∷ kept) = λ i. cond (same_test q e.0 i) (Some e.1) (same_lookup q kept i)

map_cond : (t : Bool) (k : Kept) (o : Option Kept) → option_map shape_from (cond t (Some k) o) ≡ cond t (Some (shape_from k)) (option_map shape_from o)
map_cond true k o = refl
map_cond false k o = refl

-- what is kept when one more node is
pub kept_at-with : (hash : List ℕ → List ℕ) (nodes : Nodes) (shape : Shape) (h : List ℕ)
    → kept_at (with_node hash nodes shape) h ≡ cond (eq_by_cmp (slice_cmp nat_cmp) h (hash (encoding_of shape))) (Some shape) (kept_at nodes h)
kept_at-with hash nodes shape h =
    ap (option_map shape_from) (finite.get-insert nat_list_cmp_total nodes (hash (encoding_of shape)) (kept_of shape) h)
    ∙ map_cond _ (kept_of shape) (finite.get nodes h)

-- a node that is found is kept
pub kept_found : (kept : List (List ℕ × Node)) (nodes : Nodes) (q : List ℕ) (node : Node) → shown kept ≡ nodes → Some node ≡ lookup (bytes_eq q) kept
    → kept_at nodes q ≡ Some (shape_of node)
kept_found kept nodes q node is found = ap (λ n. kept_at n q) (sym is) ∙ kept_at-shown kept q ∙ ap (option_map shape_of) (sym (found ∙ same_lookup q kept))

pub kept_missing : (kept : List (List ℕ × Node)) (nodes : Nodes) (q : List ℕ) → shown kept ≡ nodes → None ≡ lookup (bytes_eq q) kept → kept_at nodes q ≡ None
kept_missing kept nodes q is missing = ap (λ n. kept_at n q) (sym is) ∙ kept_at-shown kept q ∙ ap (option_map shape_of) (sym (missing ∙ same_lookup q kept))

-- nodes that differ under one hash
pub shown_inserted : (old new : List (List ℕ × Node)) (h : List ℕ) (node : Node)
    → ((q : List ℕ) → lookup (is_at (slice_cmp nat_cmp q)) new ≡ cond (is_at (slice_cmp nat_cmp h) q) (Some node) (lookup (is_at (slice_cmp nat_cmp q)) old))
    → shown new ≡ finite.insert (shown old) h (kept_of (shape_of node))
shown_inserted old new h node e = finite.same_map nat_list_cmp_total exact_bytes _ _ (λ q.
    get-shown new q ∙ ap (option_map (λ k. kept_of (shape_of k))) (e q) ∙ sym (under_cond (is_at (slice_cmp nat_cmp h) q) node _)
    ∙ ap (λ b. cond b (Some (kept_of (shape_of node))) (option_map (λ k. kept_of (shape_of k)) (lookup (is_at (slice_cmp nat_cmp q)) old)))
    ((eq_by_cmp_equiv nat_list_cmp_total).symm h q)
    ∙ sym (finite.get-insert nat_list_cmp_total (shown old) h (kept_of (shape_of node)) q
    ∙ ap (cond (is_at (slice_cmp nat_cmp q) h) (Some (kept_of (shape_of node)))) (get-shown old q)))

-- one more node
pub node_added : (hash : List ℕ → List ℕ) (old new : List (List ℕ × Node)) (nodes : Nodes) (h : List ℕ) (node : Node) → shown old ≡ nodes
    → h ≡ hash (encoding_of (shape_of node))
    → ((q : List ℕ) → lookup (bytes_eq q) new ≡ cond (bytes_eq h q) (Some node) (lookup (bytes_eq q) old)) → shown new ≡ with_node hash nodes (shape_of node)
node_added hash old new nodes h node is named e =
    shown_inserted old new h node (λ q. sym (same_lookup q new) ∙ e q ∙ (λ i. cond (same_test h q i) (Some node) (same_lookup q old i)))
    ∙ (λ i. finite.insert (is i) (named i) (kept_of (shape_of node)))

inverse : (o : Option Kept) (s : Shape) → option_map shape_from o ≡ Some s → o ≡ Some (kept_of s)
inverse None s e = absurd cc
inverse (Some k) s e = let same : shape_from k ≡ s = cc in ap (λ t. Some (kept_of t)) same

same_kept : (b : Bool) (v w : Option Kept) → (b ≡ true → v ≡ w) → cond b v w ≡ w
same_kept true v w h = h refl
same_kept false v w h = refl

tied_same : (q h : List ℕ) → is_at (slice_cmp nat_cmp q) h ≡ true → q ≡ h
tied_same q h e = exact_bytes q h (tie (slice_cmp nat_cmp q h) e)

-- a node that is kept already
pub node_kept : (hash : List ℕ → List ℕ) (nodes : Nodes) (h : List ℕ) (node kept : Shape) → h ≡ hash (encoding_of node) → kept_at nodes h ≡ Some kept
    → kept ≡ node → nodes ≡ with_node hash nodes node
node_kept hash nodes h node kept named found same =
    let at : finite.get nodes (hash (encoding_of node)) ≡ Some (kept_of node) = ap (finite.get nodes) (sym named) ∙ inverse _ kept found
    ∙ ap (λ s. Some (kept_of s)) same in
    finite.same_map nat_list_cmp_total exact_bytes _ _ (λ q.
    sym (finite.get-insert nat_list_cmp_total nodes (hash (encoding_of node)) (kept_of node) q
    ∙ same_kept (eq_by_cmp (slice_cmp nat_cmp) q (hash (encoding_of node))) (Some (kept_of node)) (finite.get nodes q)
    (λ tied. sym at ∙ ap (finite.get nodes) (sym (tied_same q (hash (encoding_of node)) tied)))))

-- under this hash is this node, or none
pub free_kept : (hash : List ℕ → List ℕ) (nodes : Nodes) (h : List ℕ) (node kept : Shape) → h ≡ hash (encoding_of node) → kept_at nodes h ≡ Some kept
    → kept ≡ node → IsFree hash nodes node
free_kept hash nodes h node kept named found same = subst (λ o. IfSome o (λ k. k ≡ node)) (sym (ap (kept_at nodes) (sym named) ∙ found)) same

pub free_missing : (hash : List ℕ → List ℕ) (nodes : Nodes) (h : List ℕ) (node : Shape) → h ≡ hash (encoding_of node) → kept_at nodes h ≡ None
    → IsFree hash nodes node
free_missing hash nodes h node named found = subst (λ o. IfSome o (λ k. k ≡ node)) (sym (ap (kept_at nodes) (sym named) ∙ found)) tt
