-- Members of one batch.
use Rattle.std.proofs.Common.{◌≡◌, ◌<◌, ◌≤◌, ℕ, List, length, get_or, arith}
use Rattle.saw_ready.specs.Layouts.{AreStarts}

-- what stands between the start of k's batch and k belongs to it
pub mate-of : (starts : List ℕ) (j k : ℕ) → AreStarts starts → k < length starts → get_or starts k 0 ≤ j → j ≤ k
    → get_or starts j 0 ≡ get_or starts k 0
mate-of starts j k are lt low high =
    let a = are.rising j k high lt in
    let b = are.rising (get_or starts k 0) j low (omega (arith, high, lt)) in
    let c = are.own k lt in
    omega (arith, a, b, c)

-- a member doesn't stand before the start of its batch
pub member-low : (starts : List ℕ) (j k : ℕ) → AreStarts starts → j < length starts → get_or starts j 0 ≡ get_or starts k 0
    → get_or starts k 0 ≤ j
member-low starts j k are lt e = let a = are.low j lt in omega (arith, a, e)

-- the start of whatever comes after the end of a batch comes after it too
pub start-after : (starts : List ℕ) (end k : ℕ) → AreStarts starts → (end < length starts → end ≤ get_or starts end 0) → end ≤ k
    → k < length starts → end ≤ get_or starts k 0
start-after starts end k are ends le lt =
    let a = are.rising end k le lt in
    let b = ends (omega (arith, le, lt)) in
    omega (arith, a, b)
