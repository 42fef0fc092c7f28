-- What the slots of settled batches hold: their results, whatever moves come later.
use Rattle.std.specs.Prelude.{⊤}
use Rattle.std.proofs.Common.{◌≡◌, ℕ, zero, suc, ◌+◌, ◌<◌, ◌≤◌, true, false, List, [], ◌∷◌, ◌++◌, length, Option, Some, None, slice_get, inl, inr}
use Rattle.std.proofs.Common.{refl, sym, ap, subst, ◌∙◌, arith}
use Rattle.std.proofs.lemmas.Bool.{cases_lt}
use Rattle.saw_messages.specs.declared.outcome.Outcome.{Outcome}
use Rattle.saw_messages.specs.declared.outcome.Outcome.TheVariants.{Ok, Invalid}
use Rattle.saw_messages.specs.declared.outcome.Reason.{Reason}
use Rattle.saw_context.specs.declared.batch_result.BatchResult.{BatchResult}
use Rattle.saw_context.specs.declared.batch_result.BatchResult.TheVariants.{Applied, Failed}
use Rattle.saw_machine.specs.Orders.{Order}
use Rattle.saw_machine.specs.Machine.{AreLegal, Closed, Finish, GiveBack, Held, IsLegal, Move, Running, Slot, Slots, State, Take, Task, Waiting}
use Rattle.saw_machine.specs.Machine.{finished, front, front_at, holds_ok, next, put, run, settle, slots_after, start, task_in}
use Rattle.saw_machine.proofs.Counts.{IsPlaced, placed-more, total}
use Rattle.saw_machine.proofs.Fates.{fate-before, fate-task_in, fate-within}
use Rattle.saw_machine.proofs.Fronts.{Leads, front-leads, front-running}
use Rattle.saw_machine.proofs.Hits.{outside}
use Rattle.saw_machine.proofs.Inductions.{run-all, settle-all}
use Rattle.saw_machine.proofs.Moves.{given, mover}
use Rattle.saw_machine.proofs.Puts.{put-other, same_or}

-- the slot holds this outcome, and it is a valid one
pub record Holds (slot : Slot) (outcome : Outcome) : Type 0 where
  pub task : Task
  pub held : slot ≡ Held task outcome
  pub ok : holds_ok slot ≡ true

-- the slots from number n on hold these outcomes
abbrev pub AreHeld : Slots → ℕ → List Outcome → Type 0
AreHeld slots n [] = ⊤
AreHeld slots n (outcome ∷ outcomes) = Holds (slots n) outcome × AreHeld slots (suc n) outcomes

-- what the slots of a settled batch hold, numbered from n on, by its result
abbrev pub HoldsResult : Slots → ℕ → ℕ → BatchResult → Type 0
HoldsResult slots n size (Applied outcomes) = (length outcomes ≡ size) × AreHeld slots n outcomes
HoldsResult slots n size (Failed t reason) = (t < size) × ((j : ℕ) → n ≤ j → j < n + size → slots j ≡ Closed)

-- the same of settled batches, numbered from n on: the first of these sizes, one for each result
abbrev pub HoldResults : Slots → ℕ → List ℕ → List BatchResult → Type 0
HoldResults slots n sizes [] = ⊤
HoldResults slots n [] (result ∷ results) = ⊥
HoldResults slots n (size ∷ sizes) (result ∷ results) = HoldsResult slots n size result × HoldResults slots (n + size) sizes results

-- each outcome is held at its place
pub held-at : (slots : Slots) (n : ℕ) (outcomes : List Outcome) (k : ℕ) → AreHeld slots n outcomes → k < length outcomes
    → (outcome : Outcome) × (slice_get outcomes k ≡ Some outcome) × Holds (slots (n + k)) outcome
held-at slots n [] k held less = absurd (omega arith)
held-at slots n (outcome ∷ outcomes) zero held less = let here : n + 0 ≡ n = omega arith in (outcome, refl, rw here held.0)
held-at slots n (outcome ∷ outcomes) (suc k) held less =
    let here : n + suc k ≡ suc n + k = omega arith in
    rw here (held-at slots (suc n) outcomes k held.1 (omega arith))

-- ---- slots that agree on them

-- outcomes that are held stay so in slots that are the same there
held-same : (slots others : Slots) (n : ℕ) (outcomes : List Outcome) → ((j : ℕ) → n ≤ j → j < n + length outcomes → others j ≡ slots j)
    → AreHeld slots n outcomes → AreHeld others n outcomes
held-same slots others n [] same held = tt
held-same slots others n (outcome ∷ outcomes) same held =
    let here : others n ≡ slots n = same n (omega arith) (omega arith) in (
      record { task = held.0.task; held = here ∙ held.0.held; ok = ap holds_ok here ∙ held.0.ok },
      held-same slots others (suc n) outcomes (λ j from less. same j (omega arith) (omega arith)) held.1,
    )

-- so does what a batch holds
result-same : (slots others : Slots) (n size : ℕ) (result : BatchResult) → ((j : ℕ) → j < n + size → others j ≡ slots j)
    → HoldsResult slots n size result → HoldsResult others n size result
result-same slots others n size (Applied outcomes) same holds =
    let many = holds.0 in (holds.0, held-same slots others n outcomes (λ j from less. same j (omega arith)) holds.1)
result-same slots others n size (Failed t reason) same holds = (holds.0, λ j from less. same j less ∙ holds.1 j from less)

-- and what settled batches hold, in slots that are the same below their end
results-same : (slots others : Slots) (n m : ℕ) (settled rest : List ℕ) (results : List BatchResult) → length settled ≡ length results → m ≡ n + total settled
    → ((j : ℕ) → j < m → others j ≡ slots j) → HoldResults slots n (settled ++ rest) results → HoldResults others n (settled ++ rest) results
results-same slots others n m [] rest [] each to same hold = tt
results-same slots others n m [] rest (result ∷ results) each to same hold = absurd (grind arith)
results-same slots others n m (size ∷ settled) rest [] each to same hold = absurd (grind arith)
results-same slots others n m (size ∷ settled) rest (result ∷ results) each to same hold = (
  result-same slots others n size result (λ j less. same j (omega arith)) hold.0,
  results-same slots others (n + size) m settled rest results (grind arith) (omega arith) same hold.1,
)

-- one more settled batch
results-more : (slots : Slots) (n m : ℕ) (settled : List ℕ) (size : ℕ) (rest : List ℕ) (results : List BatchResult) (result : BatchResult)
    → length settled ≡ length results → m ≡ n + total settled → HoldResults slots n (settled ++ size ∷ rest) results → HoldsResult slots m size result
    → HoldResults slots n (settled ++ size ∷ rest) (results ++ result ∷ [])
results-more slots n m [] size rest [] result each to hold holds = let here : m ≡ n = omega arith in (rw here at holds, tt)
results-more slots n m [] size rest (one ∷ results) result each to hold holds = absurd (grind arith)
results-more slots n m (first ∷ settled) size rest [] result each to hold holds = absurd (grind arith)
results-more slots n m (first ∷ settled) size rest (one ∷ results) result each to hold holds =
    (hold.0, results-more slots (n + first) m settled size rest results result (grind arith) (omega arith) hold.1 holds)

-- ---- one batch settles

-- a batch that may be applied holds its outcomes
front-held : (slots : Slots) (n size : ℕ) (outcomes : List Outcome) → front slots n size ≡ Some (Applied outcomes)
    → HoldsResult slots n size (Applied outcomes)
front-held slots n zero outcomes e = let none : outcomes ≡ [] = cc in rw none (refl, tt)
front-held slots n (suc size) outcomes e =
    let leads : Leads slots n size outcomes = front-leads slots n size outcomes e in
    let later : HoldsResult slots (suc n) size (Applied leads.others) = front-held slots (suc n) size leads.others leads.onward in
    rw leads.is (ap suc later.0, (record { task = leads.task; held = leads.held; ok = rw leads.held refl }, later.1))

-- the invalid one of a failed batch is a member
front-failed : (slots : Slots) (n size t : ℕ) (reason : Reason) → front slots n size ≡ Some (Failed t reason) → t < size
front-failed slots n zero t reason e = absurd cc
front-failed slots n (suc size) t reason e =
    go (slots n) (front slots (suc n) size) refl e (λ t reason e. front-failed slots (suc n) size t reason e)
  where
    go : (slot : Slot) (others : Option BatchResult) → front slots (suc n) size ≡ others → front_at slot others ≡ Some (Failed t reason)
        → ((t : ℕ) (reason : Reason) → front slots (suc n) size ≡ Some (Failed t reason) → t < size) → t < suc size
    go Waiting others onward e later = absurd cc
    go (Running k task) others onward e later = absurd cc
    go (Held task (Ok changes events)) None onward e later = absurd cc
    go (Held task (Ok changes events)) (Some (Applied outcomes)) onward e later = absurd cc
    go (Held task (Ok changes events)) (Some (Failed k why)) onward e later =
        let less = later k why onward in
        let same : t ≡ suc k = cc in
        omega arith
    go (Held task (Invalid why)) others onward e later = let same : t ≡ 0 = cc in omega arith
    go Closed others onward e later = absurd cc

-- the slots that its result leaves hold it
after-holds : (order : Order) (slots : Slots) (first size : ℕ) (result : BatchResult) → front slots first size ≡ Some result
    → HoldsResult (slots_after order first size result slots) first size result
after-holds order slots first size (Applied outcomes) e = front-held slots first size outcomes e
after-holds order slots first size (Failed t reason) e =
    (front-failed slots first size t reason e, λ j from less. fate-within order first size t reason slots j from less)

-- slots below the batch stay
pub after-below : (order : Order) (slots : Slots) (first size : ℕ) (result : BatchResult) (j : ℕ) → j < first
    → slots_after order first size result slots j ≡ slots j
after-below order slots first size (Applied outcomes) j less = refl
after-below order slots first size (Failed t reason) j less = fate-before order first size t reason slots j less

-- what runs is unsettled
abbrev pub AreUnsettled : Slots → ℕ → Type 0
AreUnsettled slots first = (i n : ℕ) (task : Task) → slots i ≡ Running n task → first ≤ i

-- what runs once a batch has settled comes after it
after-unsettled : (order : Order) (slots : Slots) (first size : ℕ) (result : BatchResult) → front slots first size ≡ Some result → AreUnsettled slots first
    → AreUnsettled (slots_after order first size result slots) (first + size)
after-unsettled order slots first size (Applied outcomes) e running i n task runs = elim (cases_lt i (first + size)) [
  | inl less ↦ absurd (front-running slots first size i n task outcomes e (running i n task runs) less runs)
  | inr late ↦ late
]
after-unsettled order slots first size (Failed t reason) e running i n task runs =
    let stays = fate-task_in order first size t reason slots i task (ap task_in runs) in
    outside first size i stays.0 (running i n task (sym stays.2 ∙ runs))

-- ---- states

-- the results are of the first batches, their slots hold them, and nothing of them runs
pub record IsSettled (sizes : List ℕ) (slots : Slots) (results : List BatchResult) (first : ℕ) (rest : List ℕ) : Type 0 where
  pub placed : IsPlaced sizes results first rest
  pub hold : HoldResults slots 0 sizes results
  pub running : AreUnsettled slots first

-- the same of a state
abbrev pub SettledState : List ℕ → State → Type 0
SettledState sizes st = IsSettled sizes st.slots st.results st.first st.rest

-- what settled batches hold depends on the slots below the first unsettled number alone
hold-below : (sizes : List ℕ) (slots others : Slots) (results : List BatchResult) (first : ℕ) (rest : List ℕ) → IsPlaced sizes results first rest
    → ((j : ℕ) → j < first → others j ≡ slots j) → HoldResults slots 0 sizes results → HoldResults others 0 sizes results
hold-below sizes slots others results first rest placed same hold =
    let to = placed.start in
    subst (λ (sizes : List ℕ). HoldResults others 0 sizes results) placed.whole
    (results-same slots others 0 first placed.settled rest results placed.each (omega arith) same
    (subst (λ (sizes : List ℕ). HoldResults slots 0 sizes results) (sym placed.whole) hold))

-- one more settled batch, where the settled ones come first
hold-more : (sizes : List ℕ) (slots : Slots) (results : List BatchResult) (first size : ℕ) (rest : List ℕ) (result : BatchResult)
    → IsPlaced sizes results first (size ∷ rest) → HoldResults slots 0 sizes results → HoldsResult slots first size result
    → HoldResults slots 0 sizes (results ++ result ∷ [])
hold-more sizes slots results first size rest result placed hold holds =
    let to = placed.start in
    subst (λ (sizes : List ℕ). HoldResults slots 0 sizes (results ++ result ∷ [])) placed.whole
    (results-more slots 0 first placed.settled size rest results result placed.each (omega arith)
    (subst (λ (sizes : List ℕ). HoldResults slots 0 sizes results) (sym placed.whole) hold) holds)

-- one batch settles
settled-next : (sizes : List ℕ) (order : Order) (slots : Slots) (results : List BatchResult) (first size : ℕ) (rest : List ℕ) (result : BatchResult)
    → front slots first size ≡ Some result → IsSettled sizes slots results first (size ∷ rest)
    → IsSettled sizes (slots_after order first size result slots) (results ++ result ∷ []) (first + size) rest
settled-next sizes order slots results first size rest result e settled =
    let afterwards : Slots = slots_after order first size result slots in
    record {
      placed = placed-more sizes results first size rest result settled.placed;
      hold =
          hold-more sizes afterwards results first size rest result settled.placed
          (hold-below sizes slots afterwards results first (size ∷ rest) settled.placed (after-below order slots first size result) settled.hold)
          (after-holds order slots first size result e);
      running = after-unsettled order slots first size result e settled.running;
    }

-- all settle that can
pub settled-settle : (sizes : List ℕ) (order : Order) (slots : Slots) (attempts : ℕ → ℕ) (results : List BatchResult) (first : ℕ) (rest : List ℕ)
    → IsSettled sizes slots results first rest → SettledState sizes (settle order slots attempts results first rest)
settled-settle sizes order slots attempts results first rest settled =
    settle-all order attempts (SettledState sizes)
    (λ slots results first size rest result e here. settled-next sizes order slots results first size rest result e here)
    slots results first rest settled

-- a slot of an unsettled batch gets another content
settled-put : (sizes : List ℕ) (slots : Slots) (results : List BatchResult) (first : ℕ) (rest : List ℕ) (i : ℕ) (slot : Slot) → first ≤ i
    → IsSettled sizes slots results first rest → IsSettled sizes (put slots i slot) results first rest
settled-put sizes slots results first rest i slot from settled = record {
  placed = settled.placed;
  hold =
      hold-below sizes slots (put slots i slot) results first rest settled.placed
      (λ j less. put-other slots i slot j (λ here. absurd (omega arith))) settled.hold;
  running = λ j n task runs. elim (same_or j i) [
    | inl here ↦ rw here from
    | inr other ↦ settled.running j n task (rw (put-other slots i slot j other) at runs)
  ];
}

-- ---- moves

-- a legal move is of an unsettled transaction
pub mover-unsettled : (order : Order) (st : State) (move : Move) → AreUnsettled st.slots st.first → IsLegal order st move → st.first ≤ mover move
mover-unsettled order st (Take i) running ready = ready.unsettled
mover-unsettled order st (Finish i n outcome true) running (task, runs, declared) = running i n task runs
mover-unsettled order st (Finish i n outcome false) running (task, runs) = running i n task runs
mover-unsettled order st (GiveBack i n) running (task, runs) = running i n task runs

-- one legal move
pub settled-move : (sizes : List ℕ) (order : Order) (st : State) (move : Move) → SettledState sizes st → IsLegal order st move
    → SettledState sizes (next order st move)
settled-move sizes order st move settled legal =
    go move (settled-put sizes st.slots st.results st.first st.rest (mover move) (given order st move)
    (mover-unsettled order st move settled.running legal) settled)
  where
    go : (move : Move) → IsSettled sizes (put st.slots (mover move) (given order st move)) st.results st.first st.rest
        → SettledState sizes (next order st move)
    go (Take i) settled = settled
    go (Finish i n outcome true) settled =
        settled-settle sizes order (put st.slots i (finished (st.slots i) outcome)) st.attempts st.results st.first st.rest settled
    go (Finish i n outcome false) settled = settled
    go (GiveBack i n) settled = settled

-- of each state that a start leads to
pub settled-runs : (order : Order) (sizes : List ℕ) (moves : List Move) → AreLegal order (start order sizes) moves
    → SettledState sizes (run order (start order sizes) moves)
settled-runs order sizes moves legal =
    run-all order (SettledState sizes) (λ st move settled legal. settled-move sizes order st move settled legal) (start order sizes) moves
    (settled-settle sizes order (λ i. Waiting) (λ i. 0) [] 0 sizes
    (record { placed = record { settled = []; whole = refl; start = refl; each = refl }; hold = tt; running = λ i n task e. absurd cc })) legal

-- ---- settled slots stay

-- a number that is settled before is settled now, and its slot is as it was
abbrev IsBelow : Slots → ℕ → State → Type 0
IsBelow slots j st = (j < st.first) × (st.slots j ≡ slots j)

-- settling leaves settled slots as they are
settle-below : (order : Order) (slots : Slots) (attempts : ℕ → ℕ) (results : List BatchResult) (first : ℕ) (rest : List ℕ) (j : ℕ) → j < first
    → IsBelow slots j (settle order slots attempts results first rest)
settle-below order slots attempts results first rest j less =
    settle-all order attempts (IsBelow slots j)
    (λ others results first size rest result e (under, same). (omega arith, after-below order others first size result j under ∙ same))
    slots results first rest (less, refl)

-- so does a legal move
pub move-below : (order : Order) (st : State) (move : Move) (j : ℕ) → AreUnsettled st.slots st.first → IsLegal order st move → j < st.first
    → (j < (next order st move).first) × ((next order st move).slots j ≡ st.slots j)
move-below order st move j running legal less = go move (mover-unsettled order st move running legal)
  where
    stays : (i : ℕ) (slot : Slot) → st.first ≤ i → put st.slots i slot j ≡ st.slots j
    stays i slot from = put-other st.slots i slot j (λ here. absurd (omega arith))

    go : (move : Move) → st.first ≤ mover move → (j < (next order st move).first) × ((next order st move).slots j ≡ st.slots j)
    go (Take i) from = (less, stays i (given order st (Take i)) from)
    go (Finish i n outcome true) from =
        let below = settle-below order (put st.slots i (finished (st.slots i) outcome)) st.attempts st.results st.first st.rest j less in
        (below.0, below.1 ∙ stays i (finished (st.slots i) outcome) from)
    go (Finish i n outcome false) from = (less, stays i Waiting from)
    go (GiveBack i n) from = (less, stays i Waiting from)

-- whatever moves come later
pub run-below : (sizes : List ℕ) (order : Order) (st : State) (moves : List Move) (j : ℕ) → SettledState sizes st → AreLegal order st moves → j < st.first
    → (run order st moves).slots j ≡ st.slots j
run-below sizes order st [] j settled legal less = refl
run-below sizes order st (move ∷ moves) j settled legal less =
    let below = move-below order st move j settled.running legal.0 less in
    run-below sizes order (next order st move) moves j (settled-move sizes order st move settled legal.0) legal.1 below.0 ∙ below.1
