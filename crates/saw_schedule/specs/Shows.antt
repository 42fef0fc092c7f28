-- When a queue shows the state of the machine.
use Rattle.std.specs.Prelude.{◌≡◌, ◌<◌, ◌≤◌, ◌+◌, ◌==◌, ℕ, Bool, true, false, List, length, get_or, sum}
use Rattle.std.specs.List.{between, list_any}
use Rattle.saw_messages.specs.declared.outcome.Outcome.{Outcome}
use Rattle.saw_messages.specs.declared.outcome.Outcome.TheVariants.{Ok, Invalid}
use Rattle.saw_machine.specs.Machine.{Slot, Waiting, Running, Held, Closed, State, own_start}
use Rattle.saw_machine.specs.Orders.{AreEdgesOf, Order}
use Rattle.saw_ready.specs.Edges.{IsAt, begin, finish, target}
use Rattle.saw_ready.specs.Queues.{Waits}
use Rattle.saw_ready.specs.declared.edges.Edges.{Edges}
use Rattle.saw_ready.specs.declared.slot_state.SlotState.{SlotState}
use Rattle.saw_ready.specs.declared.slot_state.SlotState.TheVariants as marks

abbrev pub mark_by : Outcome → SlotState
mark_by (Ok changes events) = marks.Valid
mark_by (Invalid reason) = marks.Invalid

abbrev pub mark_of : Slot → SlotState
mark_of Waiting = marks.Waiting
mark_of (Running n task) = marks.Running
mark_of (Held task outcome) = mark_by outcome
mark_of Closed = marks.Closed

abbrev pub is_closed_mark : SlotState → Bool
is_closed_mark marks.Waiting = false
is_closed_mark marks.Running = false
is_closed_mark marks.Valid = false
is_closed_mark marks.Invalid = false
is_closed_mark marks.Closed = true

-- the numbers that belong to i
abbrev pub targets_of : Edges → ℕ → List ℕ
targets_of edges i = between (begin edges i) (finish edges i) edges.to.items

-- j is one of them
abbrev pub is_edge : Edges → ℕ → ℕ → Bool
is_edge edges j i = list_any (λ target. target == j) (targets_of edges i)

-- each slot has its mark, all pairs of the precedence follow from the edges, which lead to earlier ones, and each
-- unsettled transaction has the first number of its batch
pub record ShowsMachine (order : Order) (st : State) (q : Waits) : Type 0 where
  pub first : q.first ≡ st.first
  pub count : length q.marks ≡ st.first + sum st.rest
  pub marks : (i : ℕ) → i < length q.marks → get_or q.marks i marks.Waiting ≡ mark_of (st.slots i)
  pub within : (i : ℕ) → i < length q.marks → finish q.preds i ≤ length q.preds.to.items
  pub earlier : (i p : ℕ) → i < length q.marks → IsAt q.preds i p → target q.preds p < i
  pub edges : AreEdgesOf order.precedes (is_edge q.preds)
  pub starts : (i : ℕ) → st.first ≤ i → i < length q.marks → get_or q.starts i 0 ≡ own_start st.first st.rest i
