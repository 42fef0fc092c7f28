-- Claims in the order of their numbers, of which equal ones are of one lane.
use Rattle.std.specs.Prelude.{ℕ, Bool, true, ◌&&◌, ◌||◌, nat_lt, ◌==◌, List, [], ◌∷◌, if◌then◌else◌, slice_index}

-- the lane of a batch; behind the last one it is 0
abbrev pub lane_at : List ℕ → ℕ → ℕ
lane_at lanes batch = slice_index lanes batch

-- the numbers do not fall, and where one stays, so does the lane
abbrev pub stays_apart : ℕ → ℕ → ℕ → ℕ → Bool
stays_apart number lane next its = nat_lt number next || (next == number && its == lane)

-- each claim stays apart from the one before it, the first from this number and lane
abbrev pub are_apart : List ℕ → ℕ → ℕ → List (ℕ × ℕ) → Bool
are_apart lanes number lane [] = true
are_apart lanes number lane (claim ∷ claims) = stays_apart number lane claim.0 (lane_at lanes claim.1)
    && are_apart lanes claim.0 (lane_at lanes claim.1) claims

-- the lane of the last claim whose number is not greater
abbrev pub lane_of_number : List ℕ → ℕ → List (ℕ × ℕ) → ℕ → ℕ
lane_of_number lanes lane [] number = lane
lane_of_number lanes lane (claim ∷ claims) number = if nat_lt number claim.0 then lane else lane_of_number lanes (lane_at lanes claim.1) claims number
