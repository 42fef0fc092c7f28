-- Rows of the earlier transactions that each one names, by the numbers under each id.
use Rattle.std.proofs.Common.{◌≡◌, ◌<◌, ◌≤◌, ◌+◌, ℕ, zero, suc, Bool, true, false, ◌||◌, ◌==◌, nat_lt, List, [], ◌∷◌, ◌++◌, length, refl, sym, ap, ◌∙◌, arith, ◌⊎◌, inl, inr, if◌then◌else◌, Option, Some, None, slice_get}
use Rattle.std.specs.List.{AllByRecursion, flat_map, list_all, list_any}
use Rattle.std.specs.Str.{bytes_eq}
use Rattle.std.proofs.lemmas.Bool.{and_parts, eqb-true}
use Rattle.std.proofs.lemmas.List.Folds.{list_any-append}
use Rattle.saw_messages.specs.TxShapes.{TxShape}
use Rattle.saw_plan.specs.Precedence.{names_tx, numbers_below, on_tx}
use Rattle.saw_ready.specs.Edges.{AreEarlier, AreEdges}
use Rattle.saw_ready.specs.declared.edges.Edges.{Edges}
use Rattle.saw_schedule.specs.ByIds.{names_none}
use Rattle.saw_schedule.specs.Orders.{names_in}
use Rattle.saw_schedule.specs.Shows.{is_edge}
use Rattle.saw_schedule.proofs.Rows.{AreRows, all-append, all-below, any-below, none-named, row-pushed, rows-earlier, rows-edges, rows-in, rows-past}

lt-or-le : (a b : ℕ) → (a < b) ⊎ (b ≤ a)
lt-or-le a b = grind arith

-- transaction j has the id
abbrev pub has_id : List TxShape → List ℕ → ℕ → Bool
has_id txs id j = on_tx (slice_get txs j) (λ tx. bytes_eq id tx.id)

abbrev pub dependencies_by : Option TxShape → List (List ℕ)
dependencies_by None = []
dependencies_by (Some tx) = tx.header.dependencies

-- the numbers before i of those that transaction i names, id by id
abbrev pub named_row : List TxShape → ℕ → List ℕ
named_row txs i = flat_map (λ id. numbers_below i (has_id txs id)) (dependencies_by (slice_get txs i))

flat_map-same : (f g : List ℕ → List ℕ) (ids : List (List ℕ)) → ((id : List ℕ) → f id ≡ g id) → flat_map f ids ≡ flat_map g ids
flat_map-same f g [] same = refl
flat_map-same f g (id ∷ ids) same = rw (same id, flat_map-same f g ids same) refl

all-flat_map : (f : List ℕ → List ℕ) (n : ℕ) (ids : List (List ℕ)) → ((id : List ℕ) → AllByRecursion (λ j. j < n) (f id)) → AllByRecursion (λ j. j < n) (flat_map f ids)
all-flat_map f n [] all = tt
all-flat_map f n (id ∷ ids) all = all-append (λ j. j < n) (f id) (flat_map f ids) (all id) (all-flat_map f n ids all)

any-flat_map : (f : List ℕ → List ℕ) (test : ℕ → Bool) (ids : List (List ℕ)) → list_any test (flat_map f ids) ≡ list_any (λ id. list_any test (f id)) ids
any-flat_map f test [] = refl
any-flat_map f test (id ∷ ids) = list_any-append test (f id) (flat_map f ids) ∙ ap (λ b. list_any test (f id) || b) (any-flat_map f test ids)

any-same : (f g : List ℕ → Bool) (ids : List (List ℕ)) → ((id : List ℕ) → f id ≡ g id) → list_any f ids ≡ list_any g ids
any-same f g [] same = refl
any-same f g (id ∷ ids) same = rw (same id, any-same f g ids same) refl

any-none : (ids : List (List ℕ)) → list_any (λ id. false) ids ≡ false
any-none [] = refl
any-none (id ∷ ids) = any-none ids

pub named-low : (txs : List TxShape) (i : ℕ) → AllByRecursion (λ j. j < i) (named_row txs i)
named-low txs i = all-flat_map (λ id. numbers_below i (has_id txs id)) i (dependencies_by (slice_get txs i)) (λ id. all-below i (has_id txs id))

-- what a row has is what is named
pub named-in : (txs : List TxShape) (i j : ℕ) → j < i → list_any (λ t. t == j) (named_row txs i) ≡ names_in txs i j
named-in txs i j less =
    any-flat_map (λ id. numbers_below i (has_id txs id)) (λ t. t == j) (dependencies_by (slice_get txs i))
    ∙ (any-same (λ id. list_any (λ t. t == j) (numbers_below i (has_id txs id))) (λ id. has_id txs id j) (dependencies_by (slice_get txs i)) at
    ∙ by_tx (slice_get txs i) (slice_get txs j))
  where
    at : (id : List ℕ) → list_any (λ t. t == j) (numbers_below i (has_id txs id)) ≡ has_id txs id j
    at id = let early : nat_lt j i ≡ true = grind arith in any-below i j (has_id txs id) ∙ rw early refl

    by_tx : (one other : Option TxShape) → list_any (λ id. on_tx other (λ tx. bytes_eq id tx.id)) (dependencies_by one)
        ≡ on_tx one (λ tx. on_tx other (λ earlier. names_tx tx earlier))
    by_tx None other = refl
    by_tx (Some tx) None = any-none tx.header.dependencies
    by_tx (Some tx) (Some other) = refl

module _ (e : Edges) (txs : List TxShape) (n : ℕ) (are : AreRows e.from.items e.to.items n (named_row txs)) where
  pub named-edges : AreEdges e n
  named-edges = rows-edges e n (named_row txs) are (λ i lt. named-low txs i)

  pub named-earlier : AreEarlier e n
  named-earlier = rows-earlier e n (named_row txs) are (λ i lt. named-low txs i)

  pub named-names : n ≡ length txs → (i j : ℕ) → j < i → is_edge e j i ≡ names_in txs i j
  named-names counted i j less = elim (lt-or-le i n) [
    | inl inside ↦ rows-in e n (named_row txs) are i j inside ∙ named-in txs i j less
    | inr past ↦ rows-past e n (named_row txs) are i j past ∙ sym (none-named txs n counted i j past)
  ]

-- ---- one more transaction

-- the rows of the first k transactions, and the numbers under each id
pub record AreNamed (txs : List TxShape) (from to : List ℕ) (under : List ℕ → List ℕ) (k : ℕ) : Type 0 where
  pub rows : AreRows from to k (named_row txs)
  pub numbers : (id : List ℕ) → under id ≡ numbers_below k (has_id txs id)

pub one-more-named : (txs : List TxShape) (from to : List ℕ) (under more : List ℕ → List ℕ) (k : ℕ) (tx : TxShape) → AreNamed txs from to under k → slice_get txs k ≡ Some tx
    → (new_to new_from : List ℕ) (place : ℕ) → new_to ≡ to ++ flat_map under tx.header.dependencies → place ≡ length new_to → new_from ≡ from ++ place ∷ []
    → ((id : List ℕ) → more id ≡ under id ++ (if bytes_eq id tx.id then k ∷ [] else []))
    → AreNamed txs new_from new_to more (k + 1)
one-more-named txs from to under more k tx are at new_to new_from place to_is place_is from_is more_is = record {
  rows = row-pushed from to k (named_row txs) are.rows new_to (to_is ∙ ap (λ row. to ++ row) row_is) new_from place place_is from_is;
  numbers = λ id. let next : k + 1 ≡ suc k = omega arith in more_is id ∙ rw (are.numbers id, next, at) refl;
}
  where
    row_is : flat_map under tx.header.dependencies ≡ named_row txs k
    row_is = flat_map-same under (λ id. numbers_below k (has_id txs id)) tx.header.dependencies are.numbers ∙ rw at refl

-- ---- where none names another

pub none-names : (txs : List TxShape) (i j : ℕ) → list_all names_none txs ≡ true → names_in txs i j ≡ false
none-names txs i j none = go (slice_get txs i) (deps txs i none)
  where
    no_deps : (ids : List (List ℕ)) → (length ids == 0) ≡ true → ids ≡ []
    no_deps [] e = refl
    no_deps (id ∷ ids) e = absurd (let z : length (id ∷ ids) ≡ 0 = eqb-true _ _ e in omega (arith, z))

    deps : (txs : List TxShape) (i : ℕ) → list_all names_none txs ≡ true → dependencies_by (slice_get txs i) ≡ []
    deps [] i none = refl
    deps (tx ∷ txs) zero none = no_deps tx.header.dependencies (and_parts (names_none tx) (list_all names_none txs) none).0
    deps (tx ∷ txs) (suc i) none = deps txs i (and_parts (names_none tx) (list_all names_none txs) none).1

    go : (one : Option TxShape) → dependencies_by one ≡ [] → on_tx one (λ tx. on_tx (slice_get txs j) (λ other. names_tx tx other)) ≡ false
    go None e = refl
    go (Some tx) e = rw e (on (slice_get txs j))
      where
        on : (other : Option TxShape) → on_tx other (λ other. false) ≡ false
        on None = refl
        on (Some other) = refl
