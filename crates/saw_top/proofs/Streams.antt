-- Whole frames at the front of a stream.
use Rattle.std.proofs.Common.{◌≡◌, ℕ, zero, suc, ◌+◌, ◌-◌, ◌<◌, ◌≤◌, ◌==◌, Bool, true, false, cond, List, [], ◌∷◌, ◌++◌, drop, length, take, Option, Some, None, Ok, Err}
use Rattle.std.proofs.Common.{refl, sym, ap, ◌∙◌, arith}
use Rattle.std.specs.Prelude.{if◌then◌else◌, nat_lt}
use Rattle.std.specs.Int.{from_be_bytes, w32}
use Rattle.std.specs.Io.KnownBytes.{Consumes, IsAtEnd}
use Rattle.saw_io.specs.Frame.{Reading, content_at, frame_at}
use Rattle.saw_io.specs.declared.fault.FrameFault.{FrameFault}
use Rattle.saw_io.specs.declared.fault.FrameFault.TheVariants as frames
use Rattle.saw_report.specs.RunFaults.{fault_of_frame}
use Rattle.saw_top.specs.Stream.{Stream, no_frames, before, by_reading, stream_from, Reads}
use Rattle.saw_report.specs.declared.run_fault.RunFault.{RunFault}
use Rattle.saw_report.specs.declared.run_fault.RunFault.TheVariants.{Frames}
use Rattle.saw_top.specs.Limits.{max_length}

-- ---- frames

pub Reads-push : (frames : List (List ℕ)) (bytes rest behind content : List ℕ) → Reads frames bytes rest → frame_at max_length rest ≡ Ok (Some content, behind)
    → Reads (frames ++ content ∷ []) bytes behind
Reads-push [] bytes rest behind content same is = (behind, ap (frame_at max_length) same ∙ is, refl)
Reads-push (first ∷ frames) bytes rest behind content reads is = (reads.0, reads.1, Reads-push frames reads.0 rest behind content reads.2 is)

-- frames before the others
abbrev pub all_before : List (List ℕ) → Stream → Stream
all_before frames others = record { frames = frames ++ others.frames; fault = others.fault }

pub stream_behind : (frames : List (List ℕ)) (more : ℕ) (bytes rest : List ℕ) → Reads frames bytes rest
    → stream_from (length frames + more) bytes ≡ all_before frames (stream_from more rest)
unfolding stream_from
stream_behind [] more bytes rest same = let none : 0 + more ≡ more = omega arith in rw (none, same) refl
stream_behind (content ∷ frames) more bytes rest reads =
    let count : length (content ∷ frames) + more ≡ suc (length frames + more) = omega arith in
    ap (λ n. stream_from n bytes) count ∙ ap (by_reading (stream_from (length frames + more))) reads.1
    ∙ ap (before content) (stream_behind frames more reads.0 rest reads.2)

-- what the stream is, by what stands behind so many frames
module _ (max : ℕ) (frames : List (List ℕ)) (bytes rest : List ℕ) (reads : Reads frames bytes rest) where
  stands_behind : (more : ℕ) → length frames + more ≡ max → stream_from max bytes ≡ all_before frames (stream_from more rest)
  stands_behind more count = ap (λ n. stream_from n bytes) (sym count) ∙ stream_behind frames more bytes rest reads

  module _ (below : length frames < max) where
    one_more : length frames + suc (max - length frames - 1) ≡ max
    one_more = omega arith

    pub stream_ended : (behind : List ℕ) → frame_at max_length rest ≡ Ok (None, behind) → stream_from max bytes ≡ all_before frames (no_frames None)
    unfolding stream_from
    stream_ended behind is = stands_behind (suc (max - length frames - 1)) one_more
        ∙ ap (λ r. all_before frames (by_reading (stream_from (max - length frames - 1)) r)) is

    pub stream_faulty : (e : FrameFault) → frame_at max_length rest ≡ Err e → stream_from max bytes ≡ all_before frames (no_frames (Some (fault_of_frame e)))
    unfolding stream_from
    stream_faulty e is = stands_behind (suc (max - length frames - 1)) one_more
        ∙ ap (λ r. all_before frames (by_reading (stream_from (max - length frames - 1)) r)) is

    pub stream_goes_on : (content behind : List ℕ) → frame_at max_length rest ≡ Ok (Some content, behind)
        → stream_from max bytes ≡ all_before frames (before content (stream_from (max - length frames - 1) behind))
    unfolding stream_from
    stream_goes_on content behind is = stands_behind (suc (max - length frames - 1)) one_more
        ∙ ap (λ r. all_before frames (by_reading (stream_from (max - length frames - 1)) r)) is

  -- where no frame may begin any more
  module _ (over : max ≤ length frames) (fits : length frames ≤ max) where
    none_left : length frames + 0 ≡ max
    none_left = omega arith

    last : stream_from max bytes ≡ all_before frames (no_frames (cond (length rest == 0) None (Some Frames)))
    unfolding stream_from
    last = stands_behind 0 none_left

    pub stream_full : (length rest == 0) ≡ true → stream_from max bytes ≡ all_before frames (no_frames None)
    stream_full is = last ∙ ap (λ b. all_before frames (no_frames (cond b None (Some Frames)))) is

    pub stream_too_many : (length rest == 0) ≡ false → stream_from max bytes ≡ all_before frames (no_frames (Some Frames))
    stream_too_many is = last ∙ ap (λ b. all_before frames (no_frames (cond b None (Some Frames)))) is

  -- some frames may begin still
  pub stream_some : length frames ≤ max → (others : List (List ℕ)) × (fault : Option RunFault)
      × (stream_from max bytes ≡ all_before frames (record { frames = others; fault = fault }))
  stream_some fits =
      let more = stream_from (max - length frames) rest in
      (more.frames, more.fault, stands_behind (max - length frames) (omega arith))

-- ---- the end of the bytes

empty : (bytes : List ℕ) → true ≡ (length bytes == 0) → bytes ≡ []
empty [] none = refl
empty (first ∷ others) none = absurd (grind (arith, none))

-- whether there is a frame, or a fault
abbrev has_some : Reading → Bool
has_some (Ok (Some content, rest)) = true
has_some (Ok (None, rest)) = false
has_some (Err e) = true

-- what stands behind a frame
abbrev left_of : Reading → List ℕ
left_of (Ok (next, rest)) = rest
left_of (Err e) = []

some_at : (limit n : ℕ) (bytes : List ℕ) → has_some (content_at limit n bytes) ≡ true
unfolding content_at
some_at limit n bytes = by_tests (nat_lt limit n) (nat_lt (length bytes) n)
  where
    by_tests : (long cut : Bool) → (let whole : Reading = Ok (Some (take n bytes), drop n bytes) in
        has_some (if long then Err (frames.TooLong n) else (if cut then Err (frames.Truncated (length bytes) n) else whole)) ≡ true)
    by_tests true cut = refl
    by_tests false true = refl
    by_tests false false = refl

-- where there is no frame there are no bytes
pub nothing_at : (limit : ℕ) (bytes behind : List ℕ) → frame_at limit bytes ≡ Ok (None, behind) → (bytes ≡ []) × (behind ≡ [])
unfolding frame_at
nothing_at limit bytes behind is =
    by_tests (length bytes == 0) (nat_lt (length bytes) 4) (content_at limit (from_be_bytes w32 (take 4 bytes)) (drop 4 bytes)) refl
    (some_at limit (from_be_bytes w32 (take 4 bytes)) (drop 4 bytes)) is
  where
    by_tests : (none cut : Bool) (at : Reading) → none ≡ (length bytes == 0) → has_some at ≡ true → (let nothing : Reading = Ok (None, []) in
        let ended : Reading = Ok (None, behind) in
        (if none then nothing else (if cut then Err (frames.Truncated (length bytes) 4) else at)) ≡ ended)
        → (bytes ≡ []) × (behind ≡ [])
    by_tests true cut at none some is = (empty bytes none, sym (ap left_of is))
    by_tests false true at none some is = let never : true ≡ false = ap has_some is in absurd cc
    by_tests false false at none some is = let never : true ≡ false = sym some ∙ ap has_some is in absurd cc

-- behind the last of the bytes is their end
pub at_end : (rest : List ℕ) (next : Option (List ℕ)) (taken : List ℕ) → true ≡ (length rest == 0) → Consumes (Some rest) next taken → IsAtEnd next
at_end rest None taken none consumed = absurd consumed
at_end rest (Some others) [] none consumed = sym consumed ∙ empty rest none
at_end rest (Some others) (first ∷ taken) none consumed = let nothing = empty rest none in absurd cc

-- a stream without fault is whole frames
pub whole_read : (more : ℕ) (bytes : List ℕ) → (stream_from more bytes).fault ≡ None → Reads (stream_from more bytes).frames bytes []
unfolding stream_from
whole_read zero bytes fine = by_test (length bytes == 0) refl fine
  where
    by_test : (none : Bool) → none ≡ (length bytes == 0) → (if none then None else Some Frames) ≡ None → bytes ≡ []
    by_test true none fine = empty bytes none
    by_test false none fine = absurd cc
whole_read (suc more) bytes fine = by_front (whole_read more) (frame_at max_length bytes) refl fine
  where
    by_front : ((rest : List ℕ) → (stream_from more rest).fault ≡ None → Reads (stream_from more rest).frames rest [])
        → (reading : Reading) → frame_at max_length bytes ≡ reading → (by_reading (stream_from more) reading).fault ≡ None
        → Reads (by_reading (stream_from more) reading).frames bytes []
    by_front others (Ok (None, rest)) is fine = (nothing_at max_length bytes rest is).0
    by_front others (Ok (Some content, rest)) is fine = (rest, is, others rest fine)
    by_front others (Err e) is fine = absurd cc
