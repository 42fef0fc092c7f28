-- What settling keeps, and what every list of legal moves keeps.
use Rattle.std.proofs.Common.{◌≡◌, ℕ, ◌+◌, List, [], ◌∷◌, ◌++◌, Option, Some, None, refl}
use Rattle.saw_context.specs.declared.batch_result.BatchResult.{BatchResult}
use Rattle.saw_machine.specs.Orders.{Order}
use Rattle.saw_machine.specs.Machine.{AreLegal, IsLegal, Move, Slots, State, front, next, run, settle, slots_after}

-- a state by its parts
abbrev pub state : Slots → (ℕ → ℕ) → List BatchResult → ℕ → List ℕ → State
state slots attempts results first rest = record { slots = slots; attempts = attempts; results = results; first = first; rest = rest }

-- the state once its first batch has this result
abbrev pub settled : Order → Slots → (ℕ → ℕ) → List BatchResult → ℕ → ℕ → List ℕ → BatchResult → State
settled order slots attempts results first size rest result =
    state (slots_after order first size result slots) attempts (results ++ result ∷ []) (first + size) rest

-- where P is kept as the first batch settles, it is kept as all settle that can
module _ (order : Order) (attempts : ℕ → ℕ) (P : State → Type 0)
    (more : (slots : Slots) (results : List BatchResult) (first size : ℕ) (rest : List ℕ) (result : BatchResult) → front slots first size ≡ Some result
    → P (state slots attempts results first (size ∷ rest)) → P (settled order slots attempts results first size rest result)) where
  pub settle-all : (slots : Slots) (results : List BatchResult) (first : ℕ) (rest : List ℕ)
      → P (state slots attempts results first rest) → P (settle order slots attempts results first rest)
  settle-all slots results first [] here = here
  settle-all slots results first (size ∷ rest) here =
      go (front slots first size) refl (λ result. settle-all (slots_after order first size result slots) (results ++ result ∷ []) (first + size) rest)
    where
      go : (found : Option BatchResult) → front slots first size ≡ found
          → ((result : BatchResult) → P (settled order slots attempts results first size rest result)
          → P (settle order (slots_after order first size result slots) attempts (results ++ result ∷ []) (first + size) rest))
          → P (settle order slots attempts results first (size ∷ rest))
      go None e onward = rw e here
      go (Some result) e onward = rw e (onward result (more slots results first size rest result e here))

-- where each legal move keeps P, a list of them does
module _ (order : Order) (P : State → Type 0) (more : (st : State) (move : Move) → P st → IsLegal order st move → P (next order st move)) where
  pub run-all : (st : State) (moves : List Move) → P st → AreLegal order st moves → P (run order st moves)
  run-all st [] here legal = here
  run-all st (move ∷ moves) here legal = run-all (next order st move) moves (more st move here legal.0) legal.1
