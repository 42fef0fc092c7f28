-- How a block stream is cut into frames.
use Rattle.std.specs.Prelude.{◌≡◌, ℕ, zero, suc, List, [], ◌∷◌, length, Option, Some, None, Ok, Err, ◌==◌, if◌then◌else◌}
use Rattle.saw_io.specs.Frame.{Reading, frame_at}
use Rattle.saw_report.specs.RunFaults.{fault_of_frame}
use Rattle.saw_report.specs.declared.run_fault.RunFault.{RunFault}
use Rattle.saw_report.specs.declared.run_fault.RunFault.TheVariants.{Frames}
use Rattle.saw_top.specs.Limits.{max_length, max_frames}

-- the contents of the whole frames, and what stands behind them: nothing, or what is no frame
pub record Stream : Type 0 where
  pub frames : List (List ℕ)
  pub fault : Option RunFault

abbrev pub no_frames : Option RunFault → Stream
no_frames fault = record { frames = []; fault = fault }

-- one more frame before the others
abbrev pub before : List ℕ → Stream → Stream
before content others = record { frames = content ∷ others.frames; fault = others.fault }

-- by what the bytes have at their front
abbrev pub by_reading : (List ℕ → Stream) → Reading → Stream
by_reading others (Ok (None, rest)) = no_frames None
by_reading others (Ok (Some content, rest)) = before content (others rest)
by_reading others (Err e) = no_frames (Some (fault_of_frame e))

-- The stream of bytes in which so many frames may begin. Where none may begin any more, one byte is a fault,
-- whatever stands behind it.
unfoldable pub stream_from : ℕ → List ℕ → Stream
stream_from zero bytes = no_frames (if length bytes == 0 then None else Some Frames)
stream_from (suc more) bytes = by_reading (stream_from more) (frame_at max_length bytes)

abbrev pub stream_of : List ℕ → Stream
stream_of bytes = stream_from max_frames bytes

-- the bytes begin with these whole frames, and the rest stands behind them
abbrev pub Reads : List (List ℕ) → List ℕ → List ℕ → Type 0
Reads [] bytes rest = bytes ≡ rest
Reads (content ∷ frames) bytes rest = (behind : List ℕ) × (frame_at max_length bytes ≡ Ok (Some content, behind)) × Reads frames behind rest
