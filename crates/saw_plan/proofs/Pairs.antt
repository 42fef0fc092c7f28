-- Predecessors by pairs, one after another.
use Rattle.std.proofs.Common.{◌≡◌, ℕ, suc, ◌+◌, ◌<◌, ◌≤◌, true, false, List, [], ◌∷◌, ◌++◌, length, take, get_or, Some, slice_get, refl, sym, ap, ◌∙◌, arith, append-nil}
use Rattle.std.specs.Arc.{arc_value}
use Rattle.std.specs.Global.{Global}
use Rattle.std.specs.declared.sync.Arc.{Arc}
use Rattle.std.proofs.lemmas.List.{append_assoc, length-append, length-map, map_push, take_all, take_more}
use Rattle.std.proofs.lemmas.List.Sums.{sum_by-cons}
use Rattle.std.proofs.lemmas.Option.{slice_get-map, slice_get_read}
use Rattle.saw_messages.specs.TxShapes.{BatchShape, TxShape}
use Rattle.saw_messages.specs.declared.tx.Tx.{Tx}
use Rattle.saw_plan.specs.BatchShapes.{shapes_of, transactions_in, txs_of}
use Rattle.saw_plan.specs.Precedence.{all_txs, comes_before, numbers_below, precedes_in}

pub shape-at : (txs : List (Arc Tx Global)) (i : ℕ) (tx : Arc Tx Global) → i < length txs → tx ≡ get_or txs i tx → slice_get (shapes_of txs) i ≡ Some (arc_value tx)
shape-at txs i tx inside is = rw (slice_get-map arc_value txs i, slice_get_read txs (length txs) i tx refl inside is) refl

module _ (txs : List TxShape) (i j : ℕ) (earlier later : TxShape) (at_j : slice_get txs j ≡ Some earlier) (at_i : slice_get txs i ≡ Some later) where
  precedes-is : precedes_in txs j i ≡ comes_before earlier later
  precedes-is = rw (at_j, at_i) refl

  pub one-more : (found : List ℕ) → found ≡ numbers_below j (λ k. precedes_in txs k i) → comes_before earlier later ≡ true
      → found ++ j ∷ [] ≡ numbers_below (j + 1) (λ k. precedes_in txs k i)
  one-more found so_far e = let next : j + 1 ≡ suc j = omega arith in rw (next, precedes-is, e, so_far) refl

  pub not-this : (found : List ℕ) → found ≡ numbers_below j (λ k. precedes_in txs k i) → comes_before earlier later ≡ false
      → found ≡ numbers_below (j + 1) (λ k. precedes_in txs k i)
  not-this found so_far e = let next : j + 1 ≡ suc j = omega arith in rw (next, precedes-is, e, append-nil (numbers_below j (λ k. precedes_in txs k i))) so_far

pub all-push : (batches : List (List TxShape)) (txs : List TxShape) → all_txs (batches ++ txs ∷ []) ≡ all_txs batches ++ txs
all-push [] txs = append-nil txs
all-push (first ∷ batches) txs = ap (λ more. first ++ more) (all-push batches txs) ∙ sym (append_assoc first (all_txs batches) txs)

pub all-more : (batches : List BatchShape) (i : ℕ) (batch : BatchShape) → i < length batches → batch ≡ get_or batches i batch
    → all_txs (txs_of (take (i + 1) batches)) ≡ all_txs (txs_of (take i batches)) ++ batch.txs
all-more batches i batch inside is =
    rw (take_more batches i batch inside, ← is, map_push (λ (b : BatchShape). b.txs) (take i batches) batch) (all-push (txs_of (take i batches)) batch.txs)

pub all-counted : (batches : List BatchShape) → length (all_txs (txs_of batches)) ≡ transactions_in batches
all-counted [] = refl
all-counted (batch ∷ batches) =
    rw (length-append batch.txs (all_txs (txs_of batches)), all-counted batches) (sym (sum_by-cons (λ (one : BatchShape). length one.txs) batch batches))

pub count-all : (batches : List BatchShape) (txs : List (Arc Tx Global)) → shapes_of txs ≡ all_txs (txs_of batches) → length txs ≡ transactions_in batches
count-all batches txs are = sym (length-map txs arc_value) ∙ (ap (λ (all : List TxShape). length all) are ∙ all-counted batches)

-- all batches were gone through
pub count-done : (batches items : List BatchShape) (i : ℕ) (txs : List (Arc Tx Global)) → items ≡ batches → length items ≤ i
    → shapes_of txs ≡ all_txs (txs_of (take i items)) → length txs ≡ transactions_in batches
count-done batches items i txs is over are =
    count-all batches txs (are ∙ ap (λ (all : List BatchShape). all_txs (txs_of all)) (take_all i items over ∙ is))
