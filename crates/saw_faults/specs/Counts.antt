-- A count of faults never falls, and a count of 64 bits stays at its last value.
use Rattle.std.specs.Prelude.{◌⊎◌, ◌↔◌, ℕ, ◌+◌, ◌-◌, ◌^◌, ◌<◌, ◌≤◌, min}

-- the value at which a count stays
abbrev pub last_count : ℕ
last_count = 2 ^ 64 - 1

-- the count rose, or it stands at its last value
abbrev pub Rose : ℕ → ℕ → Type 0
Rose before after = min (before + 1) last_count ≤ after

-- a rise in a part of a run, before and after which the count did not fall, is a rise in the run
abbrev pub RiseIsKept : Type 0
RiseIsKept = (first before after last : ℕ) → first ≤ before → Rose before after → after ≤ last → Rose first last

-- a rise is a greater count, or one that stands at its last value
abbrev pub RiseIsSeen : Type 0
RiseIsSeen = (before after : ℕ) → Rose before after ↔ ((before < after) ⊎ (last_count ≤ after))
