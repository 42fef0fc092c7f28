-- Each move puts one slot.
use Rattle.std.proofs.Common.{◌≡◌, ℕ, true, false, refl, subst}
use Rattle.saw_machine.specs.Orders.{IsDeclared, Order}
use Rattle.saw_machine.specs.Machine.{Finish, GiveBack, Held, IsLegal, Move, Running, Runs, Slot, State, Take, Task, Waiting, finished, task_of}
use Rattle.saw_machine.specs.Laws.{KeepsTask}
use Rattle.saw_machine.proofs.Kept.{Keeps, MayPut}

-- the transaction of a move
abbrev pub mover : Move → ℕ
mover (Take i) = i
mover (Finish i n outcome agrees) = i
mover (GiveBack i n) = i

-- what the move puts into its slot
abbrev pub given : Order → State → Move → Slot
given order st (Take i) = Running (st.attempts i) (task_of order st.slots i)
given order st (Finish i n outcome true) = finished (st.slots i) outcome
given order st (Finish i n outcome false) = Waiting
given order st (GiveBack i n) = Waiting

waits-puts : (order : Order) (st : State) (i n : ℕ) (task : Task) → Keeps order st.slots st.first → Runs st i n task → MayPut order st.slots st.first i Waiting
waits-puts order st i n task keeps runs = record {
  unsettled = keeps.running i n task runs;
  was_open = rw runs refl;
  as_closed = rw runs refl;
  task = λ other e. absurd cc;
  declared = λ at value e. absurd cc;
}

pub move-puts : (order : Order) (st : State) (move : Move) → Keeps order st.slots st.first → IsLegal order st move
    → MayPut order st.slots st.first (mover move) (given order st move)
move-puts order st (Take i) keeps ready = record {
  unsettled = ready.unsettled;
  was_open = rw ready.waiting refl;
  as_closed = rw ready.waiting refl;
  task = λ task e.
      let same : task_of order st.slots i ≡ task = cc in
      subst (KeepsTask order st.slots st.first i) same (record { preds = ready.preds; view = λ at. refl; failed = refl });
  declared = λ at value e. absurd cc;
}
move-puts order st (Finish i n outcome true) keeps (task, runs, declared) = rw runs (held task runs declared)
  where
    held : (task : Task) → Runs st i n task → IsDeclared order i outcome → MayPut order st.slots st.first i (Held task outcome)
    held task runs declared = record {
      unsettled = keeps.running i n task runs;
      was_open = rw runs refl;
      as_closed = rw runs refl;
      task = λ other e.
          let same : task ≡ other = cc in
          subst (KeepsTask order st.slots st.first i) same (keeps.tasks i task (keeps.running i n task runs) (rw runs refl));
      declared = declared;
    }
move-puts order st (Finish i n outcome false) keeps (task, runs) = waits-puts order st i n task keeps runs
move-puts order st (GiveBack i n) keeps (task, runs) = waits-puts order st i n task keeps runs
