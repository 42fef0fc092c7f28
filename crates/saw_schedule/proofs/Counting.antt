-- How many marks are Running.
use Rattle.std.proofs.Common.{◌≡◌, ◌<◌, ◌≤◌, ◌+◌, ℕ, zero, suc, List, [], ◌∷◌, length, get_or, set, arith}
use Rattle.std.proofs.lemmas.List.Sums.{sum_by-cons}
use Rattle.saw_ready.specs.declared.slot_state.SlotState.{SlotState}
use Rattle.saw_ready.specs.declared.slot_state.SlotState.TheVariants.{Waiting}
use Rattle.saw_schedule.specs.Inside.{one_if_running, running_in}

pub count-cons : (m : SlotState) (ms : List SlotState) → running_in (m ∷ ms) ≡ one_if_running m + running_in ms
count-cons m ms = sum_by-cons one_if_running m ms

-- where each mark that is Running was so before there are no more of them
pub count-less : (new old : List SlotState) → length new ≡ length old
    → ((i : ℕ) → i < length new → one_if_running (get_or new i Waiting) ≤ one_if_running (get_or old i Waiting)) → running_in new ≤ running_in old
count-less [] old long each = omega arith
count-less (m ∷ new) [] long each = absurd (grind arith)
count-less (m ∷ new) (n ∷ old) long each =
    let here : one_if_running m ≤ one_if_running n = each 0 (omega arith) in
    let more : running_in new ≤ running_in old = count-less new old (grind arith) (λ i less. each (suc i) (omega (arith, less))) in
    omega (arith, here, more, count-cons m new, count-cons n old)

-- another mark at one place
pub count-set : (ms : List SlotState) (i : ℕ) (m : SlotState) → i < length ms → running_in (set ms i m) + one_if_running (get_or ms i Waiting) ≡ running_in ms + one_if_running m
count-set [] i m inside = absurd (omega arith)
count-set (n ∷ ms) zero m inside = omega (arith, count-cons m ms, count-cons n ms)
count-set (n ∷ ms) (suc i) m inside =
    let more : running_in (set ms i m) + one_if_running (get_or ms i Waiting) ≡ running_in ms + one_if_running m = count-set ms i m (omega arith) in
    omega (arith, more, count-cons n (set ms i m), count-cons n ms)
