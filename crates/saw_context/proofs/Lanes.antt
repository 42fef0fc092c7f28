-- What may come of the batches of each lane alone may come of all of them.
use Rattle.std.proofs.Common.{◌≡◌, inl, inr, ℕ, true, false, List, [], ◌∷◌, length, bytes_eq, refl, sym, ap, subst, ◌∙◌, arith}
use Rattle.std.specs.Prelude.{◌==◌, if◌then◌else◌}
use Rattle.std.specs.List.{AllByRecursion, list_any}
use Rattle.std.proofs.lemmas.Bool.{cases_eq, eq-eqb, false_from_ne_true, ne_eqb}
use Rattle.std.proofs.lemmas.Slice.Eq.{bytes_eq-Decides}
use Rattle.saw_address.specs.Maps.{StateMap, is_address, value_at}
use Rattle.saw_messages.specs.TxShapes.{TxShape}
use Rattle.saw_messages.specs.declared.outcome.Change.{Change}
use Rattle.saw_messages.specs.declared.outcome.Outcome.{Outcome}
use Rattle.saw_messages.specs.declared.outcome.Outcome.TheVariants as outcomes
use Rattle.saw_messages.specs.declared.receipt.Event.{Event}
use Rattle.saw_context.specs.Conversation.{are_covering}
use Rattle.saw_context.specs.Lanes.{KeepToLanes, KeepsToLane, in_lane}
use Rattle.saw_context.specs.Outcome.{Processors, map_after}
use Rattle.saw_context.specs.Possible.{ThenOthers, MayCome, MayComeFrom, MayComeOfBatch}
use Rattle.saw_context.specs.Serial.{behind, failed_with, left_by, map_after_all, names_one}
use Rattle.saw_context.specs.declared.batch_result.BatchResult.{BatchResult}
use Rattle.saw_context.specs.declared.batch_result.BatchResult.TheVariants.{Applied, Failed}
use Rattle.saw_context.proofs.Each.{all_weaker}
use Rattle.saw_context.proofs.Kept.{access_kept}
use Rattle.saw_context.proofs.OnTop.{value_after, value_at-map_after, value_at_apart}

-- ---- one address of two maps

-- the same changes leave the same where there was the same
after_same : (m n : StateMap) (changes : List Change) (at : List ℕ) → value_at m at ≡ value_at n at
    → value_at (map_after m changes) at ≡ value_at (map_after n changes) at
after_same m n changes at same = value_at-map_after m changes at ∙ ap (value_after changes at) same ∙ sym (value_at-map_after n changes at)

after_all_same : (m n : StateMap) (outcomes : List Outcome) (at : List ℕ) → value_at m at ≡ value_at n at
    → value_at (map_after_all m outcomes) at ≡ value_at (map_after_all n outcomes) at
after_all_same m n [] at same = same
after_all_same m n (outcomes.Ok changes events ∷ others) at same =
    after_all_same (map_after m changes) (map_after n changes) others at (after_same m n changes at same)
after_all_same m n (outcomes.Invalid reason ∷ others) at same = after_all_same m n others at same

left_same : (m n : StateMap) (result : BatchResult) (at : List ℕ) → value_at m at ≡ value_at n at
    → value_at (left_by m result) at ≡ value_at (left_by n result) at
left_same m n (Applied outcomes) at same = after_all_same m n outcomes at same
left_same m n (Failed t reason) at same = same

-- whom a transaction names does not count where it names nobody
names_nobody : (tx : TxShape) (some others : List TxShape) → tx.header.dependencies ≡ [] → names_one tx some ≡ names_one tx others
names_nobody tx some others alone =
    ap (list_any (λ id. list_any (λ other. bytes_eq id other.id) some)) alone
    ∙ sym (ap (list_any (λ id. list_any (λ other. bytes_eq id other.id) others)) alone)

module _ (processors : Processors) (owner : List ℕ → ℕ) (lane : ℕ) where
  -- both maps have the same at each address of the lane
  abbrev AgreeHere : StateMap → StateMap → Type 0
  AgreeHere m n = (at : List ℕ) → is_address at ≡ true → owner at ≡ lane → value_at m at ≡ value_at n at

  -- a transaction of the lane may come to the same over maps that agree there
  comes_here : (tx : TxShape) (m n : StateMap) (some others : List TxShape) (outcome : Outcome) → KeepsToLane owner lane tx → AgreeHere m n
      → MayCome processors tx m (names_one tx some) outcome → MayCome processors tx n (names_one tx others) outcome
  comes_here tx m n some others outcome keeps agree may =
      subst (λ failed. MayCome processors tx n failed outcome) (names_nobody tx some others keeps.alone)
      ((access_kept processors tx m (names_one tx some) outcome may).inputs n (λ at is covered. agree at is (keeps.inputs at is covered)))

  -- what comes behind an outcome, if the rest may come over maps that agree there
  goes_here : (txs : List TxShape) (m n : StateMap) (some others : List TxShape) (result : BatchResult) (outcome : Outcome)
      → ((m n : StateMap) (rest : BatchResult) → AgreeHere m n → MayComeOfBatch processors some m txs rest → MayComeOfBatch processors others n txs rest)
      → AgreeHere m n → ThenOthers (λ left rest. MayComeOfBatch processors some left txs rest) m outcome result
      → ThenOthers (λ left rest. MayComeOfBatch processors others left txs rest) n outcome result
  goes_here txs m n some others result (outcomes.Ok changes events) later agree goes =
      (goes.0, later (map_after m changes) (map_after n changes) goes.0 (λ at is here. after_same m n changes at (agree at is here)) goes.1, goes.2)
  goes_here txs m n some others result (outcomes.Invalid reason) later agree goes = goes

  -- and so may a batch
  batch_here : (txs : List TxShape) (m n : StateMap) (some others : List TxShape) (result : BatchResult)
      → AllByRecursion (KeepsToLane owner lane) txs → AgreeHere m n
      → MayComeOfBatch processors some m txs result → MayComeOfBatch processors others n txs result
  batch_here [] m n some others result keep agree may = may
  batch_here (tx ∷ txs) m n some others result keep agree may = (
    may.0,
    comes_here tx m n some others may.0 keep.0 agree may.1,
    goes_here txs m n some others result may.0 (λ m n rest agree may. batch_here txs m n some others rest keep.1 agree may) agree may.2,
  )

  -- ---- addresses of other lanes

  -- changes at addresses of the lane leave one of another lane
  stays_after : (m : StateMap) (texts : List (List ℕ)) (changes : List Change) (at : List ℕ) → (owner at ≡ lane → ⊥)
      → ((other : List ℕ) → is_address other ≡ true → are_covering texts other ≡ true → owner other ≡ lane)
      → AllByRecursion (λ change. (are_covering texts change.address ≡ true) × (is_address change.address ≡ true)) changes
      → value_at (map_after m changes) at ≡ value_at m at
  stays_after m texts changes at elsewhere of_lane covered =
      value_at_apart m changes at
      (all_weaker _ (λ change. bytes_eq change.address at ≡ false)
      (λ change there. false_from_ne_true (bytes_eq change.address at)
      (λ same. elsewhere (ap owner (sym ((bytes_eq-Decides change.address at).0 same)) ∙ of_lane change.address there.1 there.0)))
      changes covered)

  -- what is left behind one more outcome
  behind_elsewhere : (m : StateMap) (changes : List Change) (events : List Event) (rest : BatchResult) (at : List ℕ)
      → value_at (map_after m changes) at ≡ value_at m at
      → value_at (left_by (map_after m changes) rest) at ≡ value_at (map_after m changes) at
      → value_at (left_by m (behind (outcomes.Ok changes events) rest)) at ≡ value_at m at
  behind_elsewhere m changes events (Applied outcomes) at first later = later ∙ first
  behind_elsewhere m changes events (Failed t reason) at first later = refl

  -- what is left behind an outcome of the lane, if the rest leaves the address
  goes_elsewhere : (tx : TxShape) (txs : List TxShape) (m : StateMap) (some : List TxShape) (result : BatchResult) (outcome : Outcome) (at : List ℕ)
      → ((n : StateMap) (rest : BatchResult) → MayComeOfBatch processors some n txs rest → value_at (left_by n rest) at ≡ value_at n at)
      → (owner at ≡ lane → ⊥) → KeepsToLane owner lane tx → MayCome processors tx m (names_one tx some) outcome
      → ThenOthers (λ left rest. MayComeOfBatch processors some left txs rest) m outcome result
      → value_at (left_by m result) at ≡ value_at m at
  goes_elsewhere tx txs m some result (outcomes.Ok changes events) at later elsewhere keep may goes =
      ap (λ came. value_at (left_by m came) at) goes.2
      ∙ behind_elsewhere m changes events goes.0 at
      (stays_after m tx.header.outputs changes at elsewhere keep.outputs
      ((access_kept processors tx m (names_one tx some) (outcomes.Ok changes events) may).outputs changes events refl))
      (later (map_after m changes) goes.0 goes.1)
  goes_elsewhere tx txs m some result (outcomes.Invalid reason) at later elsewhere keep may goes = ap (λ came. value_at (left_by m came) at) goes

  -- what a batch of the lane leaves has at such an address what was there
  left_elsewhere : (txs : List TxShape) (m : StateMap) (some : List TxShape) (result : BatchResult) (at : List ℕ) → (owner at ≡ lane → ⊥)
      → AllByRecursion (KeepsToLane owner lane) txs → MayComeOfBatch processors some m txs result
      → value_at (left_by m result) at ≡ value_at m at
  left_elsewhere [] m some result at elsewhere keep may = ap (λ came. value_at (left_by m came) at) may
  left_elsewhere (tx ∷ txs) m some result at elsewhere keep may =
      goes_elsewhere tx txs m some result may.0 at (λ n rest came. left_elsewhere txs n some rest at elsewhere keep.1 came) elsewhere keep.0 may.1 may.2

-- ---- all lanes

-- the first item is of its own lane
first_in : {A : Type 0} (lane : ℕ) (lanes : List ℕ) (item : A) (items : List A) → in_lane lane (lane ∷ lanes) (item ∷ items) ≡ item ∷ in_lane lane lanes items
first_in lane lanes item items = rw (eq-eqb lane lane refl) refl

-- and of no other
not_in : {A : Type 0} (its lane : ℕ) (lanes : List ℕ) (item : A) (items : List A) → (its ≡ lane → ⊥)
    → in_lane lane (its ∷ lanes) (item ∷ items) ≡ in_lane lane lanes items
not_in its lane lanes item items other = rw (ne_eqb its lane other) refl

same_parts : {A : Type 0} (x y : A) (xs ys : List A) → x ∷ xs ≡ y ∷ ys → (x ≡ y) × (xs ≡ ys)
same_parts x y xs ys same = (cc, cc)

-- a thing of each lane, with another one of this lane
abbrev with_lane : {A : Type 0} → (ℕ → A) → ℕ → A → ℕ → A
with_lane things its new lane = if its == lane then new else things lane

with_same : {A : Type 0} (things : ℕ → A) (its : ℕ) (new : A) → with_lane things its new its ≡ new
with_same things its new = rw (eq-eqb its its refl) refl

with_other : {A : Type 0} (things : ℕ → A) (its lane : ℕ) (new : A) → (its ≡ lane → ⊥) → with_lane things its new lane ≡ things lane
with_other things its lane new other = rw (ne_eqb its lane other) refl

module _ (processors : Processors) (owner : List ℕ → ℕ) where
  -- what may come of a lane whose first batch is known
  record Begins (failed : List TxShape) (m : StateMap) (txs : List TxShape) (batches : List (List TxShape)) (result : BatchResult)
      (results : List BatchResult) : Type 0 where
    first : MayComeOfBatch processors failed m txs result
    others : MayComeFrom processors (failed_with failed txs result) (left_by m result) batches results

  begins : (failed : List TxShape) (m : StateMap) (txs : List TxShape) (batches : List (List TxShape)) (result : BatchResult)
      (results : List BatchResult) → MayComeFrom processors failed m (txs ∷ batches) (result ∷ results) → Begins failed m txs batches result results
  begins failed m txs batches result results may =
      let parts = same_parts result may.0 results may.1 may.4 in
      record {
        first = subst (λ came. MayComeOfBatch processors failed m txs came) (sym parts.0) may.2;
        others = subst (λ came. MayComeFrom processors (failed_with failed txs came) (left_by m came) batches results) (sym parts.0)
            (subst (λ rest. MayComeFrom processors (failed_with failed txs may.0) (left_by m may.0) batches rest) (sym parts.1) may.3);
      }

  -- each address has in the map of its lane what it has in this one
  abbrev AgreeAll : (ℕ → StateMap) → StateMap → Type 0
  AgreeAll maps m = (at : List ℕ) → is_address at ≡ true → value_at (maps (owner at)) at ≡ value_at m at

  -- the same behind a batch of a lane
  agree_behind : (lane : ℕ) (maps : ℕ → StateMap) (m : StateMap) (failed : List TxShape) (txs : List TxShape) (result : BatchResult)
      → AllByRecursion (KeepsToLane owner lane) txs → MayComeOfBatch processors failed m txs result → AgreeAll maps m
      → AgreeAll (with_lane maps lane (left_by (maps lane) result)) (left_by m result)
  agree_behind lane maps m failed txs result keep may agree at is = elim (cases_eq lane (owner at)) [
    | inl here ↦ ap (λ n. value_at n at) (subst (λ k. with_lane maps lane (left_by (maps lane) result) k ≡ left_by (maps lane) result) here (with_same maps lane _))
        ∙ left_same (maps lane) m result at (ap (λ k. value_at (maps k) at) here ∙ agree at is)
    | inr other ↦ ap (λ n. value_at n at) (with_other maps lane (owner at) _ other) ∙ agree at is
        ∙ sym (left_elsewhere processors owner lane txs m failed result at (λ of_lane. other (sym of_lane)) keep may)
  ]

  from_lanes : (lanes : List ℕ) (batches : List (List TxShape)) (results : List BatchResult) (m : StateMap) (maps : ℕ → StateMap)
      (failed : List TxShape) (fails : ℕ → List TxShape)
      → KeepToLanes owner lanes batches → length lanes ≡ length batches → length lanes ≡ length results → AgreeAll maps m
      → ((lane : ℕ) → MayComeFrom processors (fails lane) (maps lane) (in_lane lane lanes batches) (in_lane lane lanes results))
      → MayComeFrom processors failed m batches results
  from_lanes [] [] [] m maps failed fails keep some same agree may = refl
  from_lanes [] (txs ∷ batches) results m maps failed fails keep some same agree may = absurd (grind arith)
  from_lanes [] [] (result ∷ results) m maps failed fails keep some same agree may = absurd (grind arith)
  from_lanes (lane ∷ lanes) [] results m maps failed fails keep some same agree may = absurd (grind arith)
  from_lanes (lane ∷ lanes) (txs ∷ batches) [] m maps failed fails keep some same agree may = absurd (grind arith)
  from_lanes (lane ∷ lanes) (txs ∷ batches) (result ∷ results) m maps failed fails keep some same agree may =
      let own = begins (fails lane) (maps lane) txs (in_lane lane lanes batches) result (in_lane lane lanes results)
      (subst (λ came. MayComeFrom processors (fails lane) (maps lane) (txs ∷ in_lane lane lanes batches) came) (first_in lane lanes result results)
      (subst (λ given. MayComeFrom processors (fails lane) (maps lane) given (in_lane lane (lane ∷ lanes) (result ∷ results)))
      (first_in lane lanes txs batches) (may lane))) in
      let first : MayComeOfBatch processors failed m txs result =
      batch_here processors owner lane txs (maps lane) m (fails lane) failed result keep.0
      (λ at is here. ap (λ k. value_at (maps k) at) (sym here) ∙ agree at is) own.first in (
        result,
        results,
        first,
        from_lanes lanes batches results (left_by m result) (with_lane maps lane (left_by (maps lane) result)) (failed_with failed txs result)
            (with_lane fails lane (failed_with (fails lane) txs result)) keep.1 (grind arith) (grind arith)
            (agree_behind lane maps m failed txs result keep.0 first agree) (others_of lane lanes txs batches result results maps fails own.others may),
        refl,
      )
    where
      others_of : (its : ℕ) (lanes : List ℕ) (txs : List TxShape) (batches : List (List TxShape)) (result : BatchResult) (results : List BatchResult)
          (maps : ℕ → StateMap) (fails : ℕ → List TxShape)
          → MayComeFrom processors (failed_with (fails its) txs result) (left_by (maps its) result) (in_lane its lanes batches) (in_lane its lanes results)
          → ((lane : ℕ) → MayComeFrom processors (fails lane) (maps lane) (in_lane lane (its ∷ lanes) (txs ∷ batches)) (in_lane lane (its ∷ lanes) (result ∷ results)))
          → (lane : ℕ) → MayComeFrom processors (with_lane fails its (failed_with (fails its) txs result) lane)
          (with_lane maps its (left_by (maps its) result) lane) (in_lane lane lanes batches) (in_lane lane lanes results)
      others_of its lanes txs batches result results maps fails own may lane = elim (cases_eq its lane) [
        | inl here ↦ subst (λ k. MayComeFrom processors (with_lane fails its (failed_with (fails its) txs result) k)
            (with_lane maps its (left_by (maps its) result) k) (in_lane k lanes batches) (in_lane k lanes results)) here
            (rw (with_same fails its (failed_with (fails its) txs result), with_same maps its (left_by (maps its) result)) own)
        | inr other ↦ rw (with_other fails its lane (failed_with (fails its) txs result) other, with_other maps its lane (left_by (maps its) result) other)
            (subst (λ came. MayComeFrom processors (fails lane) (maps lane) (in_lane lane lanes batches) came) (not_in its lane lanes result results other)
            (subst (λ given. MayComeFrom processors (fails lane) (maps lane) given (in_lane lane (its ∷ lanes) (result ∷ results)))
            (not_in its lane lanes txs batches other) (may lane)))
      ]

-- the law of lanes
pub lanes_are_serial : (processors : Processors) (m : StateMap) (owner : List ℕ → ℕ) (lanes : List ℕ) (batches : List (List TxShape))
    (results : List BatchResult) → KeepToLanes owner lanes batches → length lanes ≡ length batches → length lanes ≡ length results
    → ((lane : ℕ) → MayComeFrom processors [] m (in_lane lane lanes batches) (in_lane lane lanes results))
    → MayComeFrom processors [] m batches results
lanes_are_serial processors m owner lanes batches results keep some same may =
    from_lanes processors owner lanes batches results m (λ lane. m) [] (λ lane. []) keep some same (λ at is. refl) may
