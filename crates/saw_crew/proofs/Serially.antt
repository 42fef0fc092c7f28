-- How a list of batches goes on and ends.
use Rattle.std.proofs.Common.{◌≡◌, ℕ, ◌+◌, ◌<◌, ◌≤◌, List, [], ◌∷◌, ◌++◌, append_assoc, length, drop, get_or, add-one, drop-cons, refl, sym, ap}
use Rattle.std.proofs.Common.{subst, ◌∙◌, arith}
use Rattle.std.specs.Arc.{arc_value}
use Rattle.std.specs.Global.{Global}
use Rattle.std.specs.declared.sync.Arc.{Arc}
use Rattle.std.proofs.lemmas.List.{append-nil, length-map}
use Rattle.std.proofs.lemmas.List.Sums.{get_or-le-sum_by}
use Rattle.saw_address.specs.Maps.{StateMap}
use Rattle.saw_messages.specs.TxShapes.{BatchShape, TxShape}
use Rattle.saw_messages.specs.declared.tx.Tx.{Tx}
use Rattle.saw_context.specs.Outcome.{Processors}
use Rattle.saw_context.specs.Possible.{MayComeFrom, MayComeOfAll, MayComeOfBatch}
use Rattle.saw_context.specs.Serial.{failed_with, left_by}
use Rattle.saw_context.specs.declared.batch_result.BatchResult.{BatchResult}
use Rattle.std.specs.BTreeSet.{BTreeSet}
use Rattle.saw_crew.specs.Failing.{HoldsTxs, IsNext}
use Rattle.saw_plan.specs.BatchShapes.{shapes_of, transactions_in, txs_of}

pub txs_of-drop : (batches : List BatchShape) (i : ℕ) (batch : BatchShape) → i < length batches → batch ≡ get_or batches i batch
    → txs_of (drop i batches) ≡ batch.txs ∷ txs_of (drop (i + 1) batches)
txs_of-drop batches i batch below is =
    let cut : drop i batches ≡ get_or batches i batch ∷ drop (i + 1) batches = rw add-one (drop-cons batches i batch below) in
    ap txs_of cut ∙ ap (λ (b : BatchShape). b.txs ∷ txs_of (drop (i + 1) batches)) (sym is)

-- whatever may come of the rest over the map, these results before it may come of all over the start
pub record HasGone (processors : Processors) (start : StateMap) (all : List (List TxShape)) (before : List BatchResult) (failed : List TxShape)
    (m : StateMap) (rest : List (List TxShape)) : Type 0 where
  pub so_far : (others : List BatchResult) → MayComeFrom processors failed m rest others → MayComeOfAll processors start all (before ++ others)

module _ (processors : Processors) (start : StateMap) (all : List (List TxShape)) (before : List BatchResult) (failed : List TxShape) (m : StateMap) where
  -- one more result
  pub gone_more : (txs : List TxShape) (rest : List (List TxShape)) → HasGone processors start all before failed m (txs ∷ rest)
      → (result : BatchResult) (after : StateMap) → MayComeOfBatch processors failed m txs result
      → after ≡ left_by m result → HasGone processors start all (before ++ result ∷ []) (failed_with failed txs result) after rest
  gone_more txs rest gone result after may left = record {
    so_far = λ others come.
        subst (MayComeOfAll processors start all) (sym (append_assoc before (result ∷ []) others))
        (gone.so_far (result ∷ others) (
          result,
          others,
          may,
          subst
              (λ (n : StateMap). MayComeFrom processors (failed_with failed txs result) n rest others) left come,
          refl,
        ));
  }

  -- no more batches
  pub gone_all : (rest : List (List TxShape)) → rest ≡ [] → HasGone processors start all before failed m rest → MayComeOfAll processors start all before
  gone_all rest none gone =
      subst (MayComeOfAll processors start all) (append-nil before)
      (gone.so_far [] (subst (λ (batches : List (List TxShape)). MayComeFrom processors failed m batches []) (sym none) refl))

-- a batch has no more transactions than all batches
pub batch_within : (batches : List BatchShape) (i : ℕ) (batch : BatchShape) (txs : List (Arc Tx Global)) → i < length batches
    → batch ≡ get_or batches i batch → shapes_of txs ≡ batch.txs → (n : ℕ) → transactions_in batches < n → length txs < n
batch_within batches i batch txs below is same n few =
    let here : length (get_or batches i batch).txs ≤ transactions_in batches =
    get_or-le-sum_by (λ (b : BatchShape). length b.txs) batches i batch below in
    let counted : length batch.txs ≤ transactions_in batches =
    subst (λ (b : BatchShape). length b.txs ≤ transactions_in batches) (sym is) here in
    omega (arith, length-map txs arc_value, ap length same, counted, few)

-- one more batch was run
pub next_gone : (processors : Processors) (start : StateMap) (all : List (List TxShape)) (before after : List BatchResult) (others : List TxShape)
    (m m' : StateMap) (seen seen' : BTreeSet (List ℕ)) (txs : List TxShape) (rest : List (List TxShape))
    → (next : IsNext processors m seen txs before m' seen' after) → HoldsTxs seen others
    → HasGone processors start all before others m (txs ∷ rest) → HasGone processors start all after (failed_with others txs next.came) m' rest
next_gone processors start all before after others m m' seen seen' txs rest next holds gone =
    subst (λ results. HasGone processors start all results (failed_with others txs next.came) m' rest) (sym next.all)
    (gone_more processors start all before others m txs rest gone next.came m' (next.result others holds) next.left)
