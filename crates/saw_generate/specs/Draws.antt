-- The numbers that are drawn: a linear congruential generator of 64 bits, of which the upper 31 are shown.
use Rattle.std.specs.Prelude.{ℕ, zero, suc, ◌+◌, ◌*◌, ◌/◌, ◌%◌, ◌^◌}

abbrev pub next_state : ℕ → ℕ
next_state s = (s * 6364136223846793005 + 1442695040888963407) % 2 ^ 64

-- the state after so many draws
unfoldable pub state_after : ℕ → ℕ → ℕ
state_after start zero = start
state_after start (suc n) = next_state (state_after start n)

-- the draw at a place, from 0 on
abbrev pub draw_at : ℕ → ℕ → ℕ
draw_at start place = state_after start (suc place) / 2 ^ 33
