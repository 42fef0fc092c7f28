-- What is left to do, which falls as a transaction is taken and finished.
use Rattle.std.proofs.Common.{◌≡◌, ℕ, zero, suc, ◌+◌, ◌<◌, ◌≤◌, true, List, [], ◌∷◌, ◌++◌, length, sum, Option, Some, None, ◌⊎◌, inl, inr, refl, sym, ap, ◌∙◌, arith}
use Rattle.saw_context.specs.declared.batch_result.BatchResult.{BatchResult}
use Rattle.saw_context.specs.declared.batch_result.BatchResult.TheVariants.{Applied, Failed}
use Rattle.saw_messages.specs.declared.outcome.Outcome.{Outcome}
use Rattle.saw_machine.specs.Laws.{IsQuiet}
use Rattle.saw_machine.specs.Orders.{Order}
use Rattle.saw_machine.specs.Machine.{Closed, Finish, Held, IsReady, Running, Slot, Slots, State, Take, Task, Waiting, again, finished, front, next, put, settle, slots_after, start, task_of}
use Rattle.saw_machine.proofs.Fates.{Closes, Stays, WaitsAgain, fate}
use Rattle.saw_machine.proofs.Inductions.{settle-all, state}
use Rattle.saw_machine.proofs.Puts.{put-other, put-same, same_or}
use Rattle.saw_machine.proofs.Spans.{SpansState}

-- ---- how many wait

abbrev one_if_waiting : Slot → ℕ
one_if_waiting Waiting = 1
one_if_waiting (Running n task) = 0
one_if_waiting (Held task outcome) = 0
one_if_waiting Closed = 0

abbrev waiting_below : Slots → ℕ → ℕ
waiting_below slots zero = 0
waiting_below slots (suc n) = one_if_waiting (slots n) + waiting_below slots n

one-waits : (slot : Slot) → one_if_waiting slot ≤ 1
one-waits Waiting = omega arith
one-waits (Running n task) = omega arith
one-waits (Held task outcome) = omega arith
one-waits Closed = omega arith

few-wait : (slots : Slots) (n : ℕ) → waiting_below slots n ≤ n
few-wait slots zero = omega arith
few-wait slots (suc n) =
    let one = one-waits (slots n) in
    let few = few-wait slots n in
    omega arith

-- a slot at or above the bound does not count
waiting-above : (slots : Slots) (i : ℕ) (slot : Slot) (n : ℕ) → n ≤ i → waiting_below (put slots i slot) n ≡ waiting_below slots n
waiting-above slots i slot zero above = refl
waiting-above slots i slot (suc n) above =
    rw (put-other slots i slot n (λ here. absurd (omega arith)), waiting-above slots i slot n (omega arith)) refl

-- one below it counts in place of what was there
waiting-put : (slots : Slots) (i : ℕ) (slot : Slot) (n : ℕ) → i < n
    → waiting_below (put slots i slot) n + one_if_waiting (slots i) ≡ waiting_below slots n + one_if_waiting slot
waiting-put slots i slot zero less = absurd (omega arith)
waiting-put slots i slot (suc n) less = elim (same_or n i) [
  | inl here ↦ rw (here, put-same slots i slot, waiting-above slots i slot i (omega arith)) (omega arith)
  | inr other ↦
      let more : waiting_below (put slots i slot) n + one_if_waiting (slots i) ≡ waiting_below slots n + one_if_waiting slot
      = waiting-put slots i slot n (below other) in
      rw (put-other slots i slot n other) (omega arith)
]
  where
    below : (n ≡ i → ⊥) → i < n
    below other = elim (cases i n less) [ inl l ↦ l | inr e ↦ absurd (other e) ]
      where
        cases : (i n : ℕ) → i < suc n → (i < n) ⊎ (n ≡ i)
        cases zero zero l = inr refl
        cases zero (suc n) l = inl (omega arith)
        cases (suc i) zero l = absurd (omega arith)
        cases (suc i) (suc n) l = elim (cases i n (omega arith)) [ inl l ↦ inl (omega arith) | inr e ↦ inr (ap suc e) ]

-- ---- settling

-- each unsettled batch counts more than all that may wait
abbrev weight : ℕ → List ℕ → ℕ
weight last [] = 0
weight last (size ∷ rest) = suc last + weight last rest

weight-less : (last : ℕ) (fewer more : List ℕ) → length fewer < length more → suc last + weight last fewer ≤ weight last more
weight-less last fewer [] less = absurd (omega arith)
weight-less last [] (size ∷ more) less = omega arith
weight-less last (other ∷ fewer) (size ∷ more) less =
    let below : suc last + weight last fewer ≤ weight last more = weight-less last fewer more (omega arith) in
    omega arith

settle-shorter : (order : Order) (slots : Slots) (attempts : ℕ → ℕ) (results : List BatchResult) (first : ℕ) (rest : List ℕ)
    → length (settle order slots attempts results first rest).rest ≤ length rest
settle-shorter order slots attempts results first rest =
    settle-all order attempts (λ st. length st.rest ≤ length rest)
    (λ slots results first size others result e here. omega (arith, here)) slots results first rest (omega arith)

-- nothing settles, or there are fewer unsettled batches
settle-or : (order : Order) (slots : Slots) (attempts : ℕ → ℕ) (results : List BatchResult) (first : ℕ) (rest : List ℕ)
    → (settle order slots attempts results first rest ≡ state slots attempts results first rest)
    ⊎ (length (settle order slots attempts results first rest).rest < length rest)
settle-or order slots attempts results first [] = inl refl
settle-or order slots attempts results first (size ∷ rest) = go (front slots first size) refl
  where
    go : (found : Option BatchResult) → front slots first size ≡ found
        → (settle order slots attempts results first (size ∷ rest) ≡ state slots attempts results first (size ∷ rest))
        ⊎ (length (settle order slots attempts results first (size ∷ rest)).rest < length (size ∷ rest))
    go None e = inl (rw e refl)
    go (Some result) e =
        let few = settle-shorter order (slots_after order first size result slots) attempts (results ++ result ∷ []) (first + size) rest in
        inr (rw e (omega (arith, few)))

-- nothing begins to run
again-waits : (slot : Slot) (n : ℕ) (task : Task) → again slot ≡ Running n task → ⊥
again-waits Waiting n task e = absurd cc
again-waits (Running m other) n task e = absurd cc
again-waits (Held other outcome) n task e = absurd cc
again-waits Closed n task e = absurd cc

settle-quiet : (order : Order) (slots : Slots) (attempts : ℕ → ℕ) (results : List BatchResult) (first : ℕ) (rest : List ℕ)
    → IsQuiet (state slots attempts results first rest) → IsQuiet (settle order slots attempts results first rest)
settle-quiet order slots attempts results first rest quiet =
    settle-all order attempts IsQuiet (λ slots results first size rest result e here. after result slots first size here) slots results first rest quiet
  where
    after : (result : BatchResult) (slots : Slots) (first size : ℕ) → ((i n : ℕ) (task : Task) → slots i ≡ Running n task → ⊥)
        → (i n : ℕ) (task : Task) → slots_after order first size result slots i ≡ Running n task → ⊥
    after (Applied outcomes) slots first size quiet i n task e = quiet i n task e
    after (Failed t reason) slots first size quiet i n task e = elim (fate order first size t reason slots i) [
      | Closes is f ↦ absurd (closed (sym f ∙ e))
      | WaitsAgain out hit f ↦ absurd (again-waits (slots i) n task (sym f ∙ e))
      | Stays out safe f ↦ quiet i n task (sym f ∙ e)
    ]
      where
        closed : Closed ≡ Running n task → ⊥
        closed e = absurd cc

-- nothing runs at the start
pub start-quiet : (order : Order) (sizes : List ℕ) → IsQuiet (start order sizes)
start-quiet order sizes = settle-quiet order (λ i. Waiting) (λ i. 0) [] 0 sizes (λ i n task e. absurd (apart n task e))
  where
    apart : (n : ℕ) (task : Task) → Waiting ≡ Running n task → ⊥
    apart n task e = absurd cc

-- ---- a transaction is taken and finished

abbrev pub left_of : ℕ → State → ℕ
left_of last st = weight last st.rest + waiting_below st.slots last

-- the state once i was taken and has ended with a result that agrees
abbrev pub turned : Order → State → ℕ → ℕ → Outcome → State
turned order st i n outcome = next order (next order st (Take i)) (Finish i n outcome true)

module _ (order : Order) (st : State) (i n : ℕ) (outcome : Outcome) where
  abbrev taken : Slots
  taken = put st.slots i (Running (st.attempts i) (task_of order st.slots i))

  ended : finished (taken i) outcome ≡ Held (task_of order st.slots i) outcome
  ended = rw (put-same st.slots i (Running (st.attempts i) (task_of order st.slots i))) refl

  abbrev held : Slots
  held = put taken i (finished (taken i) outcome)

  pub turn-quiet : IsQuiet st → IsQuiet (turned order st i n outcome)
  turn-quiet quiet =
      settle-quiet order held (next order st (Take i)).attempts st.results st.first st.rest
      (λ j m task e. elim (same_or j i) [
        | inl here ↦ absurd (runs m task (sym ended ∙ (sym (put-same taken i (finished (taken i) outcome)) ∙ (ap (λ (k : ℕ). held k) (sym here) ∙ e))))
        | inr other ↦ quiet j m task (sym (put-other st.slots i (Running (st.attempts i) (task_of order st.slots i)) j other) ∙ (sym (put-other taken i (finished (taken i) outcome) j other) ∙ e))
      ])
    where
      runs : (m : ℕ) (task : Task) → Held (task_of order st.slots i) outcome ≡ Running m task → ⊥
      runs m task e = absurd cc

  fewer-wait : (last : ℕ) → i < last → st.slots i ≡ Waiting → waiting_below held last + 1 ≡ waiting_below st.slots last
  fewer-wait last inside waits =
      let one : waiting_below taken last + one_if_waiting (st.slots i) ≡ waiting_below st.slots last + 0
      = waiting-put st.slots i (Running (st.attempts i) (task_of order st.slots i)) last inside in
      let two : waiting_below held last + one_if_waiting (taken i) ≡ waiting_below taken last + one_if_waiting (finished (taken i) outcome)
      = waiting-put taken i (finished (taken i) outcome) last inside in
      let was : one_if_waiting (st.slots i) ≡ 1 = ap one_if_waiting waits in
      let now : one_if_waiting (taken i) ≡ 0 = ap one_if_waiting (put-same st.slots i (Running (st.attempts i) (task_of order st.slots i))) in
      let then : one_if_waiting (finished (taken i) outcome) ≡ 0 = ap one_if_waiting ended in
      omega arith

  pub left-falls : (last : ℕ) → SpansState last st → IsReady order st i → left_of last (turned order st i n outcome) < left_of last st
  left-falls last spans ready =
      let end : st.first + sum st.rest ≡ last = spans.end in
      let inside : i < st.first + sum st.rest = ready.inside in
      let fewer = fewer-wait last (omega arith) ready.waiting in
      elim (settle-or order held (next order st (Take i)).attempts st.results st.first st.rest) [
        | inl same ↦ rw same (omega (arith, fewer))
        | inr less ↦
            let below = weight-less last (turned order st i n outcome).rest st.rest less in
            let few = few-wait (turned order st i n outcome).slots last in
            omega (arith, below, few)
      ]
