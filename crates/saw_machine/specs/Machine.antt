-- The scheduling machine: transactions are taken, finished and given back in any order, and batches settle in theirs.
use Rattle.std.specs.Prelude.{◌≡◌, ℕ, zero, suc, ◌+◌, ◌<◌, ◌≤◌, Bool, true, false, ◌&&◌, ◌==◌, nat_le, nat_lt, if◌then◌else◌, List, [], ◌∷◌, ◌++◌, Option, Some, None, sum, option_map, ⊤}
use Rattle.saw_messages.specs.declared.outcome.Outcome.{Outcome}
use Rattle.saw_messages.specs.declared.outcome.Outcome.TheVariants.{Ok, Invalid}
use Rattle.saw_context.specs.Serial.{behind}
use Rattle.saw_context.specs.Views.{layered}
use Rattle.saw_context.specs.declared.batch_result.BatchResult.{BatchResult}
use Rattle.saw_context.specs.declared.batch_result.BatchResult.TheVariants.{Applied, Failed}
use Rattle.saw_context.specs.declared.view.ViewEntry.{ViewEntry}
use Rattle.saw_machine.specs.Orders.{IsDeclared, Map, Order, any_below, changed, made_by, stands}
use Rattle.saw_machine.specs.Serial.{names_failed, within}

-- ---- slots

-- what earlier transactions left at each address, with the number of the one that did
abbrev pub View : Type 0
View = List ℕ → Option ViewEntry

-- what a transaction is run over
pub record Task : Type 0 where
  pub view : View
  pub failed : Bool  -- a dependency of it failed

-- what is known of a transaction
pub data Slot : Type 0 where
  Waiting : Slot
  Running : ℕ → Task → Slot  -- the attempt
  Held : Task → Outcome → Slot
  Closed : Slot  -- its batch failed

abbrev pub Slots : Type 0
Slots = ℕ → Slot

-- the change that a slot's transaction has made at an address
abbrev pub made : Slot → List ℕ → Option (Option (List ℕ))
made Waiting at = None
made (Running n task) at = None
made (Held task outcome) at = made_by outcome at
made Closed at = None

abbrev pub holds_ok : Slot → Bool
holds_ok Waiting = false
holds_ok (Running n task) = false
holds_ok (Held task (Ok changes events)) = true
holds_ok (Held task (Invalid reason)) = false
holds_ok Closed = false

abbrev pub holds_invalid : Slot → Bool
holds_invalid Waiting = false
holds_invalid (Running n task) = false
holds_invalid (Held task (Ok changes events)) = false
holds_invalid (Held task (Invalid reason)) = true
holds_invalid Closed = false

abbrev pub is_closed : Slot → Bool
is_closed Waiting = false
is_closed (Running n task) = false
is_closed (Held task outcome) = false
is_closed Closed = true

abbrev pub task_in : Slot → Option Task
task_in Waiting = None
task_in (Running n task) = Some task
task_in (Held task outcome) = Some task
task_in Closed = None

-- the failed transactions
abbrev pub closed_in : Slots → ℕ → Bool
closed_in slots j = is_closed (slots j)

-- the slots with another at i
abbrev pub put : Slots → ℕ → Slot → Slots
put slots i slot j = if j == i then slot else slots j

-- ---- views

-- a change of transaction n, where there is one, else the older entry
abbrev pub seen : ℕ → Option (Option (List ℕ)) → Option ViewEntry → Option ViewEntry
seen n None older = older
seen n (Some value) older = Some (record { index = n; value = value })

-- the last change at an address among the numbers below n that i stands on
abbrev pub view_below : Order → Slots → ℕ → ℕ → View
view_below order slots i zero at = None
view_below order slots i (suc n) at =
    seen n (if stands order.precedes i n then made (slots n) at else None) (view_below order slots i n at)

-- the view of i: that of the addresses which an input of it covers
abbrev pub view_of : Order → Slots → ℕ → View
view_of order slots i at = if order.reads i at then view_below order slots i i at else None

abbrev pub task_of : Order → Slots → ℕ → Task
task_of order slots i = record { view = view_of order slots i; failed = names_failed order (closed_in slots) i }

-- the map with a view on top
abbrev pub over : Map → View → Map
over base view at = layered (view at) (base at)

-- the map that the slots below n show
abbrev pub look : Map → Slots → ℕ → Map
look base slots zero at = base at
look base slots (suc n) at = changed (made (slots n) at) (look base slots n at)

-- ---- states

pub record State : Type 0 where
  pub slots : Slots
  pub attempts : ℕ → ℕ  -- how often each was taken
  pub results : List BatchResult  -- of the settled batches
  pub first : ℕ  -- the first number of an unsettled batch
  pub rest : List ℕ  -- the sizes of the unsettled batches

-- the first number of i's batch, among batches of these sizes from n on
abbrev pub own_start : ℕ → List ℕ → ℕ → ℕ
own_start n [] i = n
own_start n (size ∷ sizes) i = if nat_lt i (n + size) then n else own_start (n + size) sizes i

-- each of those that precede i, in an unsettled batch, holds Ok
abbrev pub ArePredsOk : (ℕ → ℕ → Bool) → Slots → ℕ → ℕ → Type 0
ArePredsOk precedes slots first i = (j : ℕ) → first ≤ j → j < i → precedes j i ≡ true → holds_ok (slots j) ≡ true

-- i waits in an unsettled batch, what precedes it in one holds Ok, and no earlier member of its batch holds Invalid
pub record IsReadyBy (precedes : ℕ → ℕ → Bool) (st : State) (i : ℕ) : Type 0 where
  pub waiting : st.slots i ≡ Waiting
  pub unsettled : st.first ≤ i
  pub inside : i < st.first + sum st.rest
  pub preds : ArePredsOk precedes st.slots st.first i
  pub mates : (j : ℕ) → own_start st.first st.rest i ≤ j → j < i → holds_invalid (st.slots j) ≡ false

-- i may be taken
abbrev pub IsReady : Order → State → ℕ → Type 0
IsReady order st i = IsReadyBy order.precedes st i

-- the attempt n of i runs
abbrev pub Runs : State → ℕ → ℕ → Task → Type 0
Runs st i n task = st.slots i ≡ Running n task

-- ---- settling

-- what the members from n on hold, where they hold enough for a result
abbrev pub front_at : Slot → Option BatchResult → Option BatchResult
front_at Waiting others = None
front_at (Running n task) others = None
front_at (Held task (Ok changes events)) others = option_map (behind (Ok changes events)) others
front_at (Held task (Invalid reason)) others = Some (Failed 0 reason)
front_at Closed others = None

abbrev pub front : Slots → ℕ → ℕ → Option BatchResult
front slots n zero = Some (Applied [])
front slots n (suc size) = front_at (slots n) (front slots (suc n) size)

-- j comes after the batch and stands on one of its members
abbrev pub is_hit : (ℕ → ℕ → Bool) → ℕ → ℕ → ℕ → Bool
is_hit precedes n size j = nat_le (n + size) j && any_below (n + size) (λ k. within n size k && stands precedes j k)

abbrev pub again : Slot → Slot
again Waiting = Waiting
again (Running n task) = Waiting
again (Held task outcome) = Waiting
again Closed = Closed

-- a member is closed, and what is hit waits again
abbrev pub failed_slot : Bool → Bool → Slot → Slot
failed_slot true hit slot = Closed
failed_slot false true slot = again slot
failed_slot false false slot = slot

abbrev pub slots_after : Order → ℕ → ℕ → BatchResult → Slots → Slots
slots_after order n size (Applied outcomes) slots j = slots j
slots_after order n size (Failed t reason) slots j = failed_slot (within n size j) (is_hit order.precedes n size j) (slots j)

abbrev pub by_front : Option BatchResult → State → (BatchResult → State) → State
by_front None stay on = stay
by_front (Some result) stay on = on result

-- batches settle in order while the first unsettled one has a result
abbrev pub settle : Order → Slots → (ℕ → ℕ) → List BatchResult → ℕ → List ℕ → State
settle order slots attempts results first [] =
    record { slots = slots; attempts = attempts; results = results; first = first; rest = [] }
settle order slots attempts results first (size ∷ rest) =
    by_front (front slots first size)
    (record { slots = slots; attempts = attempts; results = results; first = first; rest = size ∷ rest })
    (λ result. settle order (slots_after order first size result slots) attempts (results ++ result ∷ []) (first + size) rest)

-- ---- moves

pub data Move : Type 0 where
  Take : ℕ → Move
  Finish : ℕ → ℕ → Outcome → Bool → Move  -- number, attempt, outcome, whether it agrees with the task
  GiveBack : ℕ → ℕ → Move  -- number, attempt

-- the slot once its running task is finished with a result that agrees
abbrev pub finished : Slot → Outcome → Slot
finished Waiting outcome = Waiting
finished (Running n task) outcome = Held task outcome
finished (Held task held) outcome = Held task held
finished Closed outcome = Closed

abbrev pub next : Order → State → Move → State
next order st (Take i) = record st {
  slots = put st.slots i (Running (st.attempts i) (task_of order st.slots i));
  attempts = λ j. if j == i then suc (st.attempts j) else st.attempts j;
}
next order st (Finish i n outcome true) =
    settle order (put st.slots i (finished (st.slots i) outcome)) st.attempts st.results st.first st.rest
next order st (Finish i n outcome false) = record st { slots = put st.slots i Waiting }
next order st (GiveBack i n) = record st { slots = put st.slots i Waiting }

-- all wait; leading batches without transactions settle at once
abbrev pub start : Order → List ℕ → State
start order sizes = settle order (λ i. Waiting) (λ i. 0) [] 0 sizes

abbrev pub run : Order → State → List Move → State
run order st [] = st
run order st (move ∷ moves) = run order (next order st move) moves

-- a move that may happen: what is taken is ready, what is ended runs
abbrev pub IsLegal : Order → State → Move → Type 0
IsLegal order st (Take i) = IsReady order st i
IsLegal order st (Finish i n outcome true) = (task : Task) × Runs st i n task × IsDeclared order i outcome
IsLegal order st (Finish i n outcome false) = (task : Task) × Runs st i n task
IsLegal order st (GiveBack i n) = (task : Task) × Runs st i n task

abbrev pub AreLegal : Order → State → List Move → Type 0
AreLegal order st [] = ⊤
AreLegal order st (move ∷ moves) = IsLegal order st move × AreLegal order (next order st move) moves
