-- Every list of legal moves keeps what is kept.
use Rattle.std.proofs.Common.{ℕ, true, false, List, []}
use Rattle.saw_context.specs.declared.batch_result.BatchResult.{BatchResult}
use Rattle.saw_machine.specs.Orders.{AreMeetings, Order}
use Rattle.saw_machine.specs.Machine.{AreLegal, Finish, GiveBack, IsLegal, Move, Slots, State, Take, Waiting, next, put, run, settle, start}
use Rattle.saw_machine.specs.Laws.{IsLawful, StatesAreLawful}
use Rattle.saw_machine.proofs.Inductions.{run-all, settle-all}
use Rattle.saw_machine.proofs.Kept.{Keeps, is_kept, keep-put, keeps_of}
use Rattle.saw_machine.proofs.Moves.{given, mover, move-puts}
use Rattle.saw_machine.proofs.Settling.{keep-front}

-- the same of a state
abbrev KeepsState : Order → State → Type 0
KeepsState order st = Keeps order st.slots st.first

keep-settle : (order : Order) (slots : Slots) (attempts : ℕ → ℕ) (results : List BatchResult) (first : ℕ) (rest : List ℕ) → AreMeetings order
    → Keeps order slots first → KeepsState order (settle order slots attempts results first rest)
keep-settle order slots attempts results first rest meetings keeps =
    settle-all order attempts (KeepsState order) (λ slots results first size rest result e here. keep-front order slots first size result meetings e here)
    slots results first rest keeps

keep-move : (order : Order) (st : State) (move : Move) → AreMeetings order → KeepsState order st → IsLegal order st move
    → KeepsState order (next order st move)
keep-move order st move meetings keeps legal =
    go move (keep-put order st.slots st.first (mover move) (given order st move) meetings (move-puts order st move keeps legal) keeps)
  where
    go : (move : Move) → Keeps order (put st.slots (mover move) (given order st move)) st.first → KeepsState order (next order st move)
    go (Take i) keeps = keeps
    go (Finish i n outcome true) keeps =
        keep-settle order (put st.slots i (given order st (Finish i n outcome true))) st.attempts st.results st.first st.rest meetings keeps
    go (Finish i n outcome false) keeps = keeps
    go (GiveBack i n) keeps = keeps

pub kept-start : (order : Order) (sizes : List ℕ) → AreMeetings order → IsLawful order (start order sizes)
kept-start order sizes meetings =
    is_kept order (start order sizes)
    (keep-settle order (λ i. Waiting) (λ i. 0) [] 0 sizes meetings
    (record { tasks = λ i task from e. absurd cc; running = λ i n task e. absurd cc; declared = λ j at value e. absurd cc }))

pub kept-move : (order : Order) (st : State) (move : Move) → AreMeetings order → IsLawful order st → IsLegal order st move
    → IsLawful order (next order st move)
kept-move order st move meetings kept legal = is_kept order (next order st move) (keep-move order st move meetings (keeps_of order st kept) legal)

pub kept-run : (order : Order) (st : State) (moves : List Move) → AreMeetings order → IsLawful order st → AreLegal order st moves
    → IsLawful order (run order st moves)
kept-run order st moves meetings kept legal =
    run-all order (IsLawful order) (λ st move kept legal. kept-move order st move meetings kept legal) st moves kept legal

pub states-are-lawful : StatesAreLawful
states-are-lawful order sizes moves meetings legal = kept-run order (start order sizes) moves meetings (kept-start order sizes meetings) legal
