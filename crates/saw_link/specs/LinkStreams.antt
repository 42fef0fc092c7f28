-- What a link over a stream of bytes hands out, and when its count rises.
use Rattle.std.specs.Prelude.{◌≡◌, ◌+◌, ℕ, List, Option, Some, None, option_map, Result, Ok, Err, MatchResult, min}
use Rattle.std.specs.Global.{Vec}
use Rattle.saw_faults.specs.Counts.{last_count}
use Rattle.saw_io.specs.Frame.{frame_at}
use Rattle.saw_io.specs.declared.fault.FrameFault.{FrameFault}
use Rattle.saw_link.specs.declared.fault.LinkFault.{LinkFault}
use Rattle.saw_link.specs.declared.fault.LinkFault.TheVariants.{Failed, OutOfMemory}

-- what is handed out is the frame at the front of the bytes, and the bytes behind it are left; where no bytes are told
-- nothing is said
abbrev pub Hands : Option (List ℕ) → Option (List ℕ) → Option (Vec ℕ) → Type 0
Hands None after found = Unit {0}
Hands (Some bytes) after found = (rest : List ℕ) × (after ≡ Some rest) × (frame_at 8388608 bytes ≡ Ok (option_map (λ frame. frame.items) found, rest))

-- the bytes begin with a frame that is cut, or longer than a link allows
abbrev pub IsBroken : Option (List ℕ) → Type 0
IsBroken None = Unit {0}
IsBroken (Some bytes) = (fault : FrameFault) × (frame_at 8388608 bytes ≡ Err fault)

-- a failure is counted, up to the last count, and nothing else is
abbrev pub counted_by : LinkFault → ℕ → ℕ
counted_by Failed faults = min (faults + 1) last_count
counted_by OutOfMemory faults = faults

abbrev pub Counts : {T : Type 0} → Result T LinkFault → ℕ → ℕ → Type 0
Counts result before after = MatchResult result (λ got. after ≡ before) (λ fault. after ≡ counted_by fault before)
