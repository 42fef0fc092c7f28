-- The batches of one lane, one after another, and what came of all lanes.
use Rattle.std.proofs.Common.{◌≡◌, ◌⊎◌, inl, inr, ℕ, zero, suc, ◌+◌, ◌<◌, ◌≤◌, Bool, true, false, List, [], ◌∷◌, ◌++◌, length, length-append, drop, get_or, add-one, drop-cons, refl, sym, ap, ap₂, subst, ◌∙◌, arith}
use Rattle.std.specs.Prelude.{◌==◌, if◌then◌else◌, Option, Some, None, Result, Ok, Err, IfOk, IfSome}
use Rattle.saw_address.specs.Maps.{StateMap}
use Rattle.saw_messages.specs.TxShapes.{BatchShape, TxShape}
use Rattle.saw_context.specs.Lanes.{in_lane}
use Rattle.saw_context.specs.Outcome.{Processors}
use Rattle.saw_context.specs.Possible.{MayComeOfAll}
use Rattle.saw_context.specs.declared.batch_result.BatchResult.{BatchResult}
use Rattle.saw_plan.specs.BatchShapes.{txs_of}
use Rattle.saw_context.proofs.Lanes.{lanes_are_serial}
use Rattle.saw_lanes.specs.Lanes.{AreLanes, part_at}
use Rattle.saw_crew.specs.Lanes.{AreOfLanes, HaveCome}
use Rattle.saw_context.specs.Serial.{failed_with}
use Rattle.std.specs.BTreeSet.{BTreeSet}
use Rattle.std.proofs.lemmas.List.{drop_all}
use Rattle.saw_crew.specs.Failing.{HoldsTxs, IsNextIf}
use Rattle.saw_crew.proofs.Serially.{HasGone, gone_all, next_gone, txs_of-drop}

-- the batch at a place counts where the lane there is this one
lane-drop : (lane k : ℕ) (lanes : List ℕ) (batches : List BatchShape) (batch : BatchShape) → k < length batches → length lanes ≡ length batches
    → batch ≡ get_or batches k batch
    → in_lane lane (drop k lanes) (txs_of (drop k batches))
    ≡ (if get_or lanes k 0 == lane then batch.txs ∷ in_lane lane (drop (k + 1) lanes) (txs_of (drop (k + 1) batches)) else in_lane lane (drop (k + 1) lanes) (txs_of (drop (k + 1) batches)))
lane-drop lane k lanes batches batch below all is =
    let cut : drop k lanes ≡ get_or lanes k 0 ∷ drop (k + 1) lanes = rw add-one (drop-cons lanes k 0 (omega (arith, below, all))) in
    ap₂ (in_lane lane) cut (txs_of-drop batches k batch below is)

-- how a lane stands behind so many batches
pub record HasGoneTo (processors : Processors) (start : StateMap) (lane k : ℕ) (lanes : List ℕ) (batches : List BatchShape) (results : List BatchResult)
    (m : StateMap) (seen : BTreeSet (List ℕ)) : Type 0 where
  pub others : List TxShape
  pub failed : HoldsTxs seen others
  pub gone : HasGone processors start (in_lane lane lanes (txs_of batches)) results others m (in_lane lane (drop k lanes) (txs_of (drop k batches)))

-- one more batch
pub goes_on_to : (processors : Processors) (start : StateMap) (lane k : ℕ) (lanes : List ℕ) (batches : List BatchShape) (batch : BatchShape)
    (before after : List BatchResult) (m m' : StateMap) (seen seen' : BTreeSet (List ℕ)) → k < length batches → length lanes ≡ length batches
    → batch ≡ get_or batches k batch → HasGoneTo processors start lane k lanes batches before m seen
    → (here : Bool) → (get_or lanes k 0 == lane) ≡ here → IsNextIf here processors m seen batch.txs before m' seen' after
    → HasGoneTo processors start lane (k + 1) lanes batches after m' seen'
goes_on_to processors start lane k lanes batches batch before after m m' seen seen' below all is has true e next =
    let rest : List (List TxShape) = in_lane lane (drop (k + 1) lanes) (txs_of (drop (k + 1) batches)) in
    record {
      others = failed_with has.others batch.txs next.came;
      failed = next.failed has.others has.failed;
      gone = next_gone processors start (in_lane lane lanes (txs_of batches)) before after has.others m m' seen seen' batch.txs rest next has.failed
          (subst (HasGone processors start (in_lane lane lanes (txs_of batches)) before has.others m)
          (lane-drop lane k lanes batches batch below all is ∙ ap (λ here. if here then batch.txs ∷ rest else rest) e) has.gone);
    }
goes_on_to processors start lane k lanes batches batch before after m m' seen seen' below all is has false e next =
    let rest : List (List TxShape) = in_lane lane (drop (k + 1) lanes) (txs_of (drop (k + 1) batches)) in
    record {
      others = has.others;
      failed = subst (λ s. HoldsTxs s has.others) (sym next.1) has.failed;
      gone = subst (λ results. HasGone processors start (in_lane lane lanes (txs_of batches)) results has.others m' rest) (sym next.2)
          (subst (λ n. HasGone processors start (in_lane lane lanes (txs_of batches)) before has.others n rest) (sym next.0)
          (subst (HasGone processors start (in_lane lane lanes (txs_of batches)) before has.others m)
          (lane-drop lane k lanes batches batch below all is ∙ ap (λ here. if here then batch.txs ∷ rest else rest) e) has.gone));
    }

-- before the first batch
pub gone_to_none : (processors : Processors) (start : StateMap) (lane : ℕ) (lanes : List ℕ) (batches : List BatchShape) (m : StateMap) (seen : BTreeSet (List ℕ))
    (results : List BatchResult) → results ≡ [] → m ≡ start → HoldsTxs seen [] → HasGoneTo processors start lane 0 lanes batches results m seen
gone_to_none processors start lane lanes batches m seen results none same holds = record {
  others = [];
  failed = holds;
  gone = rw (none, same) (record { so_far = λ others come. come });
}

-- behind the last one
pub gone_to_all : (processors : Processors) (start : StateMap) (lane k : ℕ) (lanes : List ℕ) (batches : List BatchShape) (results : List BatchResult)
    (m : StateMap) (seen : BTreeSet (List ℕ)) → length batches ≤ k → HasGoneTo processors start lane k lanes batches results m seen
    → length lanes ≡ length batches → MayComeOfAll processors start (in_lane lane lanes (txs_of batches)) results
gone_to_all processors start lane k lanes batches results m seen end has all =
    gone_all processors start (in_lane lane lanes (txs_of batches)) results has.others m (in_lane lane (drop k lanes) (txs_of (drop k batches)))
    (ap (λ ls. in_lane lane ls (txs_of (drop k batches))) (drop_all k lanes (omega (arith, end, all)))) has.gone

module _ (processors : Processors) (m : StateMap) (lanes : List ℕ) (batches : List (List TxShape)) where
  come_of_both : (lane near : ℕ) (some others : List (List BatchResult)) → length some ≡ near → HaveCome processors m lanes batches lane some
      → HaveCome processors m lanes batches (lane + near) others → HaveCome processors m lanes batches lane (some ++ others)
  come_of_both lane near [] others long first rest = subst (λ n. HaveCome processors m lanes batches n others) (omega (arith, long)) rest
  come_of_both lane near (results ∷ some) others long first rest = (
    first.0,
    come_of_both (suc lane) (length some) some others refl first.1 (subst (λ n. HaveCome processors m lanes batches n others) (omega (arith, long)) rest),
  )

  -- one lane
  pub of_one : (lane count : ℕ) (results : List BatchResult) → 0 < count → count ≤ 1 → MayComeOfAll processors m (in_lane lane lanes batches) results
      → AreOfLanes processors m lanes batches lane count (results ∷ [])
  of_one lane count results some few comes = record { each = (comes, tt); all = omega (arith, some, few) }

  -- the lanes of two threads
  pub of_both : (lane near far : ℕ) (some others : List (List BatchResult)) → AreOfLanes processors m lanes batches lane near some
      → AreOfLanes processors m lanes batches (lane + near) far others → AreOfLanes processors m lanes batches lane (near + far) (some ++ others)
  of_both lane near far some others first rest = record {
    each = come_of_both lane near some others first.all first.each rest.each;
    all = length-append some others ∙ ap₂ (λ a b. a + b) first.all rest.all;
  }

-- a lane that has none of some items has none of others
none_in : {A B : Type 0} (lane : ℕ) (lanes : List ℕ) (some : List A) (others : List B) → length lanes ≡ length some → length lanes ≡ length others
    → in_lane lane lanes some ≡ [] → in_lane lane lanes others ≡ []
none_in lane [] some others long same none = refl
none_in lane (its ∷ lanes) [] others long same none = absurd (grind arith)
none_in lane (its ∷ lanes) (item ∷ some) [] long same none = refl
none_in lane (its ∷ lanes) (item ∷ some) (other ∷ others) long same none =
    go item (in_lane lane lanes some) other (in_lane lane lanes others) (its == lane) (none_in lane lanes some others (grind arith) (grind arith)) none
  where
    go : {A B : Type 0} (item : A) (some : List A) (other : B) (others : List B) (here : Bool) → (some ≡ [] → others ≡ [])
        → (if here then item ∷ some else some) ≡ [] → (if here then other ∷ others else others) ≡ []
    go item some other others true more none = absurd cc
    go item some other others false more none = more none

module _ (processors : Processors) (m : StateMap) (lanes : List ℕ) (batches : List (List TxShape)) where
  -- the results of one lane, which are none behind the last
  come_at : (first lane : ℕ) (came : List (List BatchResult)) → HaveCome processors m lanes batches first came
      → MayComeOfAll processors m (in_lane (first + lane) lanes batches) (part_at came lane) ⊎ (part_at came lane ≡ [])
  come_at first lane [] have = inr refl
  come_at first zero (results ∷ came) have =
      inl (subst (λ n. MayComeOfAll processors m (in_lane n lanes batches) results) (omega arith) have.0)
  come_at first (suc lane) (results ∷ came) have =
      subst (λ n. MayComeOfAll processors m (in_lane n lanes batches) (part_at came lane) ⊎ (part_at came lane ≡ [])) (omega arith)
      (come_at (suc first) lane came have.1)

  -- what came of each lane is put together
  pub lanes_come : (count : ℕ) (came : List (List BatchResult)) (results : List BatchResult) → AreLanes batches lanes
      → AreOfLanes processors m lanes batches 0 count came → length lanes ≡ length results
      → ((lane : ℕ) → in_lane lane lanes results ≡ part_at came lane) → MayComeOfAll processors m batches results
  lanes_come count came results are have long parts =
      lanes_are_serial processors m are.owner lanes batches results are.keep are.all long
      (λ lane. elim (come_at 0 lane came have.each) [
        | inl comes ↦ subst (MayComeOfAll processors m (in_lane lane lanes batches)) (sym (parts lane))
            (subst (λ n. MayComeOfAll processors m (in_lane n lanes batches) (part_at came lane)) (omega arith) comes)
        | inr none ↦ nothing lane (parts lane ∙ none)
      ])
    where
      nothing : (lane : ℕ) → in_lane lane lanes results ≡ [] → MayComeOfAll processors m (in_lane lane lanes batches) (in_lane lane lanes results)
      nothing lane none =
          subst (λ given. MayComeOfAll processors m given (in_lane lane lanes results)) (sym (none_in lane lanes results batches long are.all none))
          none

-- the same, where they may not have been put together
pub gathered_come : {E : Type 0} (processors : Processors) (m : StateMap) (lanes : List ℕ) (batches : List (List TxShape)) (count : ℕ)
    (came : List (List BatchResult)) (result : Result (Option (List BatchResult)) E) → AreLanes batches lanes
    → AreOfLanes processors m lanes batches 0 count came
    → IfOk result (λ found. IfSome found (λ items. length lanes ≡ length items))
    → IfOk result (λ found. IfSome found (λ items. (lane : ℕ) → in_lane lane lanes items ≡ part_at came lane))
    → IfOk result (λ found. IfSome found (λ results. MayComeOfAll processors m batches results))
gathered_come processors m lanes batches count came (Ok (Some results)) are have long parts = lanes_come processors m lanes batches count came results are have long parts
gathered_come processors m lanes batches count came (Ok None) are have long parts = tt
gathered_come processors m lanes batches count came (Err e) are have long parts = tt
