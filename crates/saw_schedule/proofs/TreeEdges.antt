-- Edges that a predecessor tree gives, with the named ones behind them.
use Rattle.std.proofs.Common.{◌≡◌, ◌<◌, ◌≤◌, ◌+◌, ◌==◌, ℕ, zero, suc, Bool, true, false, ◌||◌, List, [], ◌∷◌, ◌++◌, length, refl, sym, subst, ◌∙◌, arith, ◌⊎◌, inl, inr, Some, slice_get}
use Rattle.std.specs.List.{AllByRecursion}
use Rattle.std.proofs.lemmas.Bool.{eq-eqb, ne_eqb, or_cases, or_left, or_right, true≢false}
use Rattle.std.proofs.lemmas.List.{append_assoc}
use Rattle.std.proofs.lemmas.List.Folds.{list_any-append}
use Rattle.saw_machine.specs.Orders.{AreEdgesOf, stands}
use Rattle.saw_machine.proofs.Closure.{Through, stands-back, stands-direct, stands-through}
use Rattle.saw_messages.specs.TxShapes.{TxShape}
use Rattle.saw_plan.specs.Precedence.{names_tx, precedes_in}
use Rattle.saw_predtree.specs.Entries.{Entries, is_given, is_pair, no_entries, some_overlap, with_entry}
use Rattle.saw_predtree.specs.Trees.{IsTreeOf, Tree}
use Rattle.saw_ready.specs.Edges.{AreEarlier, AreEdges}
use Rattle.saw_ready.specs.declared.edges.Edges.{Edges}
use Rattle.saw_schedule.specs.Orders.{names_in}
use Rattle.saw_schedule.specs.Overlaps.{AddsTx, AreBytesOf}
use Rattle.saw_schedule.specs.Shows.{is_edge, targets_of}
use Rattle.saw_schedule.proofs.OverlappingTexts.{texts-overlap}
use Rattle.saw_schedule.proofs.Rows.{AreRows, all-append, no-rows, none-precede, row-pushed, rows-earlier, rows-edges, rows-in, rows-past, rows-same, targets-low}

lt-or-le : (a b : ℕ) → (a < b) ⊎ (b ≤ a)
lt-or-le a b = grind arith

-- what was given for i, and what it names
abbrev pub row_of : Entries → Edges → ℕ → List ℕ
row_of added named i = added.given i ++ targets_of named i

-- the first k transactions were added to the tree, which gave the rows but for what is named
pub record AreAdded (txs : List TxShape) (named : Edges) (tree : Tree) (from to : List ℕ) (k : ℕ) : Type 0 where
  pub added : Entries
  pub tree_is : IsTreeOf tree added
  pub next : tree.next ≡ k
  pub texts : (i : ℕ) (tx : TxShape) → i < k → slice_get txs i ≡ Some tx → AreBytesOf tx.header.inputs (added.inputs i) × AreBytesOf tx.header.outputs (added.outputs i)
  pub rows : AreRows from to k (row_of added named)

pub none-added : (txs : List TxShape) (named : Edges) (tree : Tree) → IsTreeOf tree no_entries → tree.next ≡ 0 → AreAdded txs named tree (0 ∷ []) [] 0
none-added txs named tree is next = record {
  added = no_entries;
  tree_is = is;
  next = next;
  texts = λ i tx lt at. absurd (omega arith);
  rows = no-rows (row_of no_entries named);
}

-- ---- one more transaction

module _ (txs : List TxShape) (named : Edges) (old new : Tree) (from to : List ℕ) (k : ℕ) (tx : TxShape) (found : List ℕ)
    (are : AreAdded txs named old from to k) (at_k : slice_get txs k ≡ Some tx) (adds : AddsTx old new k tx found) where
  abbrev entries : Entries
  entries = with_entry are.added k adds.inputs adds.outputs found

  old-texts : (i : ℕ) (other : TxShape) → i < k → slice_get txs i ≡ Some other → AreBytesOf other.header.inputs (entries.inputs i) × AreBytesOf other.header.outputs (entries.outputs i)
  old-texts i other less at = let ne : (i == k) ≡ false = ne_eqb i k (omega arith) in rw ne (are.texts i other less at)

  new-texts : (other : TxShape) → slice_get txs k ≡ Some other → AreBytesOf other.header.inputs (entries.inputs k) × AreBytesOf other.header.outputs (entries.outputs k)
  new-texts other at =
      let same : tx ≡ other = cc in
      rw (eq-eqb k k refl, ← same) (adds.inputs_are, adds.outputs_are)

  pub one-more-added : (new_from new_to : List ℕ) (place : ℕ) → new.next ≡ k + 1 → new_to ≡ (to ++ found) ++ targets_of named k → place ≡ length new_to → new_from ≡ from ++ place ∷ []
      → AreAdded txs named new new_from new_to (k + 1)
  one-more-added new_from new_to place next to_is place_is from_is = record {
    added = entries;
    tree_is = adds.adds are.added are.tree_is;
    next = next;
    texts = λ i other lt at. elim (lt-or-le i k) [
      | inl less ↦ old-texts i other less at
      | inr over ↦
          let here : k ≡ i = omega (arith, over, lt) in
          subst (λ (n : ℕ). AreBytesOf other.header.inputs (entries.inputs n) × AreBytesOf other.header.outputs (entries.outputs n)) here (new-texts other (rw here at))
    ];
    rows = row-pushed from to k (row_of entries named) (rows-same from to k (row_of are.added named) (row_of entries named) same are.rows) new_to (to_is ∙ (append_assoc to found (targets_of named k) ∙ here))
        new_from place place_is from_is;
  }
    where
      same : (i : ℕ) → i < k → row_of are.added named i ≡ row_of entries named i
      same i less = let ne : (i == k) ≡ false = ne_eqb i k (omega arith) in rw ne refl

      here : to ++ (found ++ targets_of named k) ≡ to ++ row_of entries named k
      here = rw (eq-eqb k k refl) refl

-- ---- fewer edges, of which all follow

-- what follows from some edges follows from more
stands-more : (edges more : ℕ → ℕ → Bool) (n : ℕ) → ((j i : ℕ) → i < n → edges j i ≡ true → more j i ≡ true) → (m i j : ℕ) → i < m → i < n → stands edges i j ≡ true → stands more i j ≡ true
stands-more edges more n are zero i j less inside on = absurd (omega arith)
stands-more edges more n are (suc m) i j less inside on =
    let step : Through edges i j = stands-back edges i j on in
    let edge = are step.by i inside step.edge in
    elim step.rest [
      | inl here ↦ rw (← here) (stands-direct more step.by i step.less edge)
      | inr below ↦ stands-through more step.by i j step.less edge (stands-more edges more n are m step.by j (omega arith) (omega arith) below)
    ]

or-four : (a b c d : Bool) → (a || (b || (c || d))) ≡ ((a || (b || c)) || d)
or-four true b c d = refl
or-four false true c d = refl
or-four false false true d = refl
or-four false false false d = refl

some-at : (txs : List TxShape) (i : ℕ) → i < length txs → (tx : TxShape) × (slice_get txs i ≡ Some tx)
some-at [] i lt = absurd (omega arith)
some-at (tx ∷ txs) zero lt = (tx, refl)
some-at (tx ∷ txs) (suc i) lt = some-at txs i (omega arith)

module _ (txs : List TxShape) (named e : Edges) (tree : Tree) (n : ℕ) (counted : n ≡ length txs)
    (edges : AreEdges named n) (earlier : AreEarlier named n) (names : (i j : ℕ) → j < i → is_edge named j i ≡ names_in txs i j)
    (are : AreAdded txs named tree e.from.items e.to.items n) where
  row-low : (i : ℕ) → i < n → AllByRecursion (λ j. j < i) (row_of are.added named i)
  row-low i lt = all-append (λ j. j < i) (are.added.given i) (targets_of named i) (are.tree_is.given.earlier i) (targets-low named n i edges earlier lt)

  pub added-edges : AreEdges e n
  added-edges = rows-edges e n (row_of are.added named) are.rows row-low

  pub added-earlier : AreEarlier e n
  added-earlier = rows-earlier e n (row_of are.added named) are.rows row-low

  edge-is : (i j : ℕ) → i < n → is_edge e j i ≡ (is_given are.added j i || is_edge named j i)
  edge-is i j lt = rows-in e n (row_of are.added named) are.rows i j lt ∙ list_any-append (λ t. t == j) (are.added.given i) (targets_of named i)

  -- what precedes is a pair by overlap, or named
  precedes-at : (i j : ℕ) (later first : TxShape) → slice_get txs i ≡ Some later → slice_get txs j ≡ Some first
      → AreBytesOf later.header.inputs (are.added.inputs i) × AreBytesOf later.header.outputs (are.added.outputs i)
      → AreBytesOf first.header.inputs (are.added.inputs j) × AreBytesOf first.header.outputs (are.added.outputs j)
      → precedes_in txs j i ≡ (is_pair are.added j i || names_in txs i j)
  precedes-at i j later first at_i at_j one other =
      rw (
        at_i,
        at_j,
        texts-overlap first.header.outputs later.header.inputs (are.added.outputs j) (are.added.inputs i) other.1 one.0,
        texts-overlap first.header.outputs later.header.outputs (are.added.outputs j) (are.added.outputs i) other.1 one.1,
        texts-overlap first.header.inputs later.header.outputs (are.added.inputs j) (are.added.outputs i) other.0 one.1,
      )
      (or-four (some_overlap (are.added.outputs j) (are.added.inputs i)) (some_overlap (are.added.outputs j) (are.added.outputs i))
      (some_overlap (are.added.inputs j) (are.added.outputs i)) (names_tx later first))

  precedes-is : (i j : ℕ) → i < n → j < i → precedes_in txs j i ≡ (is_pair are.added j i || names_in txs i j)
  precedes-is i j lt less =
      let at_i = some-at txs i (omega (arith, lt, counted)) in
      let at_j = some-at txs j (omega (arith, lt, less, counted)) in
      precedes-at i j at_i.0 at_j.0 at_i.1 at_j.1 (are.texts i at_i.0 lt at_i.1) (are.texts j at_j.0 (omega (arith, lt, less)) at_j.1)

  pub added-thin : AreEdgesOf (precedes_in txs) (is_edge e)
  added-thin = record {
    pairs = λ j i less edge. elim (lt-or-le i n) [
      | inl inside ↦ precedes-is i j inside less ∙ pair i j inside less (or_cases (is_given are.added j i) (is_edge named j i) (sym (edge-is i j inside) ∙ edge))
      | inr past ↦ absurd (true≢false (sym edge ∙ rows-past e n (row_of are.added named) are.rows i j past))
    ];
    whole = λ j i less before. elim (lt-or-le i n) [
      | inl inside ↦ follows i j inside less (or_cases (is_pair are.added j i) (names_in txs i j) (sym (precedes-is i j inside less) ∙ before))
      | inr past ↦ absurd (true≢false (sym before ∙ none-precede txs n counted i j past))
    ];
  }
    where
      pair : (i j : ℕ) → i < n → j < i → (is_given are.added j i ≡ true) ⊎ (is_edge named j i ≡ true) → (is_pair are.added j i || names_in txs i j) ≡ true
      pair i j inside less (inl given) = or_left (is_pair are.added j i) (names_in txs i j) (are.tree_is.given.edges.pairs j i less given)
      pair i j inside less (inr one) = or_right (is_pair are.added j i) (names_in txs i j) (sym (names i j less) ∙ one)

      given-edge : (j i : ℕ) → i < n → is_given are.added j i ≡ true → is_edge e j i ≡ true
      given-edge j i inside given = edge-is i j inside ∙ or_left (is_given are.added j i) (is_edge named j i) given

      follows : (i j : ℕ) → i < n → j < i → (is_pair are.added j i ≡ true) ⊎ (names_in txs i j ≡ true) → stands (is_edge e) i j ≡ true
      follows i j inside less (inl overlap) =
          stands-more (is_given are.added) (is_edge e) n given-edge (suc i) i j (omega arith) inside (are.tree_is.given.edges.whole j i less overlap)
      follows i j inside less (inr one) =
          stands-direct (is_edge e) j i less (edge-is i j inside ∙ or_right (is_given are.added j i) (is_edge named j i) (names i j less ∙ one))
