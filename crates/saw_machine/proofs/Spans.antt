-- The unsettled batches end with the last transaction, and behind it all slots wait.
use Rattle.std.proofs.Common.{◌≡◌, ℕ, ◌+◌, ◌<◌, ◌≤◌, true, false, List, [], ◌∷◌, inl, inr, refl, sym, ap, ◌∙◌, arith, sum}
use Rattle.std.proofs.lemmas.Bool.{cases_lt}
use Rattle.std.proofs.lemmas.List.Sums.{sum_by-cons}
use Rattle.saw_context.specs.declared.batch_result.BatchResult.{BatchResult}
use Rattle.saw_context.specs.declared.batch_result.BatchResult.TheVariants.{Applied, Failed}
use Rattle.saw_machine.specs.Orders.{Order}
use Rattle.saw_machine.specs.Machine.{AreLegal, Finish, GiveBack, IsLegal, Move, Running, Slot, Slots, State, Take, Task, Waiting}
use Rattle.saw_machine.specs.Machine.{again, finished, next, put, run, settle, slots_after, start}
use Rattle.saw_machine.proofs.Fates.{Closes, Stays, WaitsAgain, fate}
use Rattle.saw_machine.proofs.Hits.{within-is}
use Rattle.saw_machine.proofs.Inductions.{run-all, settle-all}
use Rattle.saw_machine.proofs.Moves.{given}
use Rattle.saw_machine.proofs.Puts.{put-other}

-- the unsettled batches, of these sizes from first on, end before this number, and from there on all slots wait
pub record SpansTo (last : ℕ) (slots : Slots) (first : ℕ) (rest : List ℕ) : Type 0 where
  pub end : first + sum rest ≡ last
  pub beyond : (j : ℕ) → last ≤ j → slots j ≡ Waiting

-- the same of a state
abbrev pub SpansState : ℕ → State → Type 0
SpansState last st = SpansTo last st.slots st.first st.rest

-- what waits behind a batch waits once it has settled
after-beyond : (order : Order) (slots : Slots) (first size : ℕ) (result : BatchResult) (j : ℕ) → first + size ≤ j → slots j ≡ Waiting
    → slots_after order first size result slots j ≡ Waiting
after-beyond order slots first size (Applied outcomes) j late waits = waits
after-beyond order slots first size (Failed t reason) j late waits = elim (fate order first size t reason slots j) [
  | Closes is e ↦ let less = (within-is first size j is).1 in absurd (omega arith)
  | WaitsAgain out hit e ↦ e ∙ ap again waits
  | Stays out safe e ↦ e ∙ waits
]

-- all batches settle that can
settle-spans : (last : ℕ) (order : Order) (slots : Slots) (attempts : ℕ → ℕ) (results : List BatchResult) (first : ℕ) (rest : List ℕ)
    → SpansTo last slots first rest → SpansState last (settle order slots attempts results first rest)
settle-spans last order slots attempts results first rest spans =
    settle-all order attempts (SpansState last)
    (λ slots results first size rest result e here.
    let more : sum (size ∷ rest) ≡ size + sum rest = sum_by-cons (λ x. x) size rest in
    let end : first + sum (size ∷ rest) ≡ last = here.end in
    record { end = omega arith; beyond = λ j late. after-beyond order slots first size result j (omega arith) (here.beyond j late) })
    slots results first rest spans

-- a slot below the end gets another content
put-spans : (last : ℕ) (slots : Slots) (first : ℕ) (rest : List ℕ) (i : ℕ) (slot : Slot) → i < last → SpansTo last slots first rest
    → SpansTo last (put slots i slot) first rest
put-spans last slots first rest i slot inside spans = record {
  end = spans.end;
  beyond = λ j late. put-other slots i slot j (λ here. absurd (omega arith)) ∙ spans.beyond j late;
}

-- what runs has a number below
running-inside : (last : ℕ) (st : State) (i n : ℕ) (task : Task) → SpansState last st → st.slots i ≡ Running n task → i < last
running-inside last st i n task spans runs = elim (cases_lt i last) [
  | inl less ↦ less
  | inr late ↦ absurd (apart (sym (spans.beyond i late) ∙ runs))
]
  where
    apart : Waiting ≡ Running n task → ⊥
    apart e = cc

-- one legal move
pub spans-move : (last : ℕ) (order : Order) (st : State) (move : Move) → SpansState last st → IsLegal order st move → SpansState last (next order st move)
spans-move last order st (Take i) spans ready =
    let inside = ready.inside in
    let end = spans.end in
    put-spans last st.slots st.first st.rest i (given order st (Take i)) (omega arith) spans
spans-move last order st (Finish i n outcome true) spans (task, runs, declared) =
    settle-spans last order (put st.slots i (finished (st.slots i) outcome)) st.attempts st.results st.first st.rest
    (put-spans last st.slots st.first st.rest i (finished (st.slots i) outcome) (running-inside last st i n task spans runs) spans)
spans-move last order st (Finish i n outcome false) spans (task, runs) =
    put-spans last st.slots st.first st.rest i Waiting (running-inside last st i n task spans runs) spans
spans-move last order st (GiveBack i n) spans (task, runs) =
    put-spans last st.slots st.first st.rest i Waiting (running-inside last st i n task spans runs) spans

-- the start
pub spans-start : (order : Order) (sizes : List ℕ) → SpansState (sum sizes) (start order sizes)
spans-start order sizes =
    settle-spans (sum sizes) order (λ i. Waiting) (λ i. 0) [] 0 sizes (record { end = omega arith; beyond = λ j late. refl })

-- of each state that a start leads to
pub spans-runs : (order : Order) (sizes : List ℕ) (moves : List Move) → AreLegal order (start order sizes) moves
    → SpansState (sum sizes) (run order (start order sizes) moves)
spans-runs order sizes moves legal =
    run-all order (SpansState (sum sizes)) (λ st move spans legal. spans-move (sum sizes) order st move spans legal) (start order sizes) moves
    (spans-start order sizes) legal
