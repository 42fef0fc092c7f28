-- Between two takes of one transaction something disturbs it.
use Rattle.std.proofs.Common.{◌≡◌, ℕ, ◌+◌, Bool, true, false, ◌&&◌, List, [], ◌∷◌, ◌++◌, Some, inl, inr, refl, sym, ap, ◌∙◌}
use Rattle.std.proofs.lemmas.Bool.{cases_Bool, eq-eqb, or_left, or_parts, or_right, true≢false}
use Rattle.saw_messages.specs.declared.outcome.Outcome.{Outcome}
use Rattle.saw_context.specs.declared.batch_result.BatchResult.{BatchResult}
use Rattle.saw_context.specs.declared.batch_result.BatchResult.TheVariants.{Applied, Failed}
use Rattle.saw_machine.specs.Orders.{Order}
use Rattle.saw_machine.specs.Machine.{AreLegal, Closed, Finish, GiveBack, Held, Move, Running, Slot, Slots, State, Take, Waiting}
use Rattle.saw_machine.specs.Machine.{finished, front, is_hit, next, put, settle, slots_after}
use Rattle.saw_machine.specs.Laws.{NoNeedlessRerun, disturbs, hits, is_failed, some_disturbs}
use Rattle.saw_machine.proofs.Fates.{Closes, Stays, WaitsAgain, fate}
use Rattle.saw_machine.proofs.Inductions.{settle-all, state}
use Rattle.saw_machine.proofs.Moves.{given}
use Rattle.saw_machine.proofs.Puts.{put-other, put-same, same_or}

-- whether it may be taken next
abbrev pub is_waiting : Slot → Bool
is_waiting Waiting = true
is_waiting (Running n task) = false
is_waiting (Held task outcome) = false
is_waiting Closed = false

put-busy : (slots : Slots) (j i : ℕ) (slot : Slot) → is_waiting (slots i) ≡ false → (i ≡ j → is_waiting slot ≡ false) → is_waiting (put slots j slot i) ≡ false
put-busy slots j i slot busy stays = elim (same_or i j) [
  | inl here ↦ rw (here, put-same slots j slot) (stays here)
  | inr other ↦ rw (put-other slots j slot i other) busy
]

-- ---- batches settle

after-busy : (order : Order) (i : ℕ) (slots : Slots) (first size : ℕ) (result : BatchResult) → is_waiting (slots i) ≡ false
    → (is_failed result && is_hit order.precedes first size i) ≡ false → is_waiting (slots_after order first size result slots i) ≡ false
after-busy order i slots first size (Applied outcomes) busy safe = busy
after-busy order i slots first size (Failed t reason) busy safe = elim (fate order first size t reason slots i) [
  | Closes is e ↦ rw e refl
  | WaitsAgain out hit e ↦ absurd (true≢false (sym hit ∙ safe))
  | Stays out unhit e ↦ rw e busy
]

-- i does not wait, and no batch that settles from here on hits it
abbrev IsSafe : Order → ℕ → State → Type 0
IsSafe order i st = (is_waiting (st.slots i) ≡ false) × (hits order i st.slots st.first st.rest ≡ false)

settle-busy : (order : Order) (i : ℕ) (slots : Slots) (attempts : ℕ → ℕ) (results : List BatchResult) (first : ℕ) (rest : List ℕ)
    → is_waiting (slots i) ≡ false → hits order i slots first rest ≡ false
    → is_waiting ((settle order slots attempts results first rest).slots i) ≡ false
settle-busy order i slots attempts results first rest busy safe =
    (settle-all order attempts (IsSafe order i) more slots results first rest (busy, safe)).0
  where
    more : (slots : Slots) (results : List BatchResult) (first size : ℕ) (rest : List ℕ) (result : BatchResult) → front slots first size ≡ Some result
        → IsSafe order i (state slots attempts results first (size ∷ rest))
        → IsSafe order i (state (slots_after order first size result slots) attempts (results ++ result ∷ []) (first + size) rest)
    more slots results first size rest result e (busy, safe) =
        let parts = or_parts (is_failed result && is_hit order.precedes first size i) _ (rw e at safe) in
        (after-busy order i slots first size result busy parts.0, parts.1)

-- ---- moves

finished-busy : (slot : Slot) (outcome : Outcome) → is_waiting slot ≡ false → is_waiting (finished slot outcome) ≡ false
finished-busy Waiting outcome busy = busy
finished-busy (Running n task) outcome busy = refl
finished-busy (Held task held) outcome busy = refl
finished-busy Closed outcome busy = refl

move-busy : (order : Order) (i : ℕ) (st : State) (move : Move) → is_waiting (st.slots i) ≡ false → disturbs order i st move ≡ false
    → is_waiting ((next order st move).slots i) ≡ false
move-busy order i st (Take j) busy safe = put-busy st.slots j i (given order st (Take j)) busy (λ here. refl)
move-busy order i st (Finish j n outcome true) busy safe =
    settle-busy order i (put st.slots j (finished (st.slots j) outcome)) st.attempts st.results st.first st.rest
    (put-busy st.slots j i (finished (st.slots j) outcome) busy (λ here. finished-busy (st.slots j) outcome (rw here at busy))) safe
move-busy order i st (Finish j n outcome false) busy safe = put-busy st.slots j i Waiting busy (λ here. absurd (true≢false (sym (eq-eqb i j here) ∙ safe)))
move-busy order i st (GiveBack j n) busy safe = put-busy st.slots j i Waiting busy (λ here. absurd (true≢false (sym (eq-eqb i j here) ∙ safe)))

run-busy : (order : Order) (i : ℕ) (st : State) (moves : List Move) → is_waiting (st.slots i) ≡ false → AreLegal order st (moves ++ Take i ∷ [])
    → some_disturbs order i st moves ≡ true
run-busy order i st [] busy legal = absurd (true≢false (sym (ap is_waiting legal.0.waiting) ∙ busy))
run-busy order i st (move ∷ moves) busy legal = elim (cases_Bool (disturbs order i st move)) [
  | inl is ↦ or_left (disturbs order i st move) _ is
  | inr safe ↦ or_right (disturbs order i st move) _ (run-busy order i (next order st move) moves (move-busy order i st move busy safe) legal.1)
]

pub no-needless-rerun : NoNeedlessRerun
no-needless-rerun order st i moves legal =
    run-busy order i (next order st (Take i)) moves (ap is_waiting (put-same st.slots i (given order st (Take i)))) legal.1
