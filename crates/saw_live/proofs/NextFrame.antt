-- What is read of a source's next frame.
use Rattle.std.proofs.Common.{◌≡◌, ◌==◌, ℕ, Bool, true, false, List, [], ◌∷◌, length, take, drop, Option, Some, None, Result, Ok, Err, refl, sym, ap, ◌∙◌, inl, arith}
use Rattle.std.specs.Prelude.{IfSome, nat_lt, if◌then◌else◌}
use Rattle.std.specs.Int.{from_be_bytes, w32}
use Rattle.std.specs.Global.{Vec}
use Rattle.std.proofs.lemmas.List.{append-nil}
use Rattle.std.proofs.KnownBytes.{Appends-nil}
use Rattle.saw_io.specs.Frame.{FaultOf, FrameGives, Reading, Takes, content_at, frame_at}
use Rattle.saw_io.specs.declared.fault.FrameFault.{FrameFault}
use Rattle.saw_io.specs.declared.fault.FrameFault.TheVariants as frames
use Rattle.saw_live.specs.Faults.{fault_of_frame}
use Rattle.saw_live.specs.Serving.{IsFault, ServesNext, moment}
use Rattle.saw_live.specs.Words.{Head}

empty : (bytes : List ℕ) → true ≡ (length bytes == 0) → bytes ≡ []
empty [] none = refl
empty (first ∷ others) none = absurd (grind (arith, none))

-- whether there is a frame, or a fault
abbrev has_some : Reading → Bool
has_some (Ok (Some content, rest)) = true
has_some (Ok (None, rest)) = false
has_some (Err e) = true

-- what stands behind a frame
abbrev left_of : Reading → List ℕ
left_of (Ok (next, rest)) = rest
left_of (Err e) = []

some_at : (limit n : ℕ) (bytes : List ℕ) → has_some (content_at limit n bytes) ≡ true
unfolding content_at
some_at limit n bytes = by_tests (nat_lt limit n) (nat_lt (length bytes) n)
  where
    by_tests : (long cut : Bool) → (let whole : Reading = Ok (Some (take n bytes), drop n bytes) in
        has_some (if long then Err (frames.TooLong n) else (if cut then Err (frames.Truncated (length bytes) n) else whole)) ≡ true)
    by_tests true cut = refl
    by_tests false true = refl
    by_tests false false = refl

-- where there is no frame there are no bytes
pub nothing_at : (limit : ℕ) (bytes behind : List ℕ) → frame_at limit bytes ≡ Ok (None, behind) → (bytes ≡ []) × (behind ≡ [])
unfolding frame_at
nothing_at limit bytes behind is =
    by_tests (length bytes == 0) (nat_lt (length bytes) 4) (content_at limit (from_be_bytes w32 (take 4 bytes)) (drop 4 bytes)) refl
    (some_at limit (from_be_bytes w32 (take 4 bytes)) (drop 4 bytes)) is
  where
    by_tests : (none cut : Bool) (at : Reading) → none ≡ (length bytes == 0) → has_some at ≡ true → (let nothing : Reading = Ok (None, []) in
        let ended : Reading = Ok (None, behind) in
        (if none then nothing else (if cut then Err (frames.Truncated (length bytes) 4) else at)) ≡ ended)
        → (bytes ≡ []) × (behind ≡ [])
    by_tests true cut at none some is = (empty bytes none, sym (ap left_of is))
    by_tests false true at none some is = let never : true ≡ false = ap has_some is in absurd cc
    by_tests false false at none some is = let never : true ≡ false = sym some ∙ ap has_some is in absurd cc

gave_fault : (old new : Option (List ℕ)) (result : Result (Option (Vec ℕ)) FrameFault) (e : FrameFault) → result ≡ Err e → FrameGives 70 old new result
    → IfSome old (λ bytes. FaultOf e (frame_at 70 bytes))
gave_fault None new result e is gives = tt
gave_fault (Some bytes) new result e is gives = rw is at gives

module _ (hash : List ℕ → List ℕ) where
  -- a fault of reading is one of the reader
  pub read_fault : (old new written : Option (List ℕ)) (heads : List Head) (result : Result (Option (Vec ℕ)) FrameFault) (e : FrameFault)
      → result ≡ Err e → FrameGives 70 old new result → (taken : List ℕ) → Takes e taken new
      → IsFault hash (moment old written heads) (moment new written heads) (fault_of_frame e)
  read_fault old new written heads result (frames.Truncated have want) is gives taken takes = (
    by_bytes old (gave_fault old new result (frames.Truncated have want) is gives),
    takes.1,
    refl,
    refl,
  )
    where
      by_bytes : (old : Option (List ℕ)) → IfSome old (λ bytes. FaultOf (frames.Truncated have want) (frame_at 70 bytes))
          → IfSome old (λ bytes. (have : ℕ) × (want : ℕ) × (frame_at 70 bytes ≡ Err (frames.Truncated have want)))
      by_bytes None fault = tt
      by_bytes (Some bytes) fault = (have, want, fault)
  read_fault old new written heads result (frames.TooLong n) is gives taken takes =
      (gave_fault old new result (frames.TooLong n) is gives, refl, refl)
  read_fault old new written heads result frames.ReadFailed is gives taken takes = inl (refl, ([], sym (append-nil heads)))
  read_fault old new written heads result frames.OutOfMemory is gives taken takes = inl (refl, ([], sym (append-nil heads)))

  -- a source without a frame has ended
  pub read_none : (old new written : Option (List ℕ)) (heads : List Head) (result : Result (Option (Vec ℕ)) FrameFault)
      → result ≡ Ok None → FrameGives 70 old new result → ServesNext hash (moment old written heads) (moment new written heads) false
  read_none None new written heads result is gives = (tt, record { reads = tt; answers = refl; writes = Appends-nil written })
  read_none (Some bytes) new written heads result is gives =
      let given = rw is at gives in
      let none = nothing_at 70 bytes given.0 given.2 in
      (none.0, record { reads = given.1 ∙ ap (λ rest. Some rest) (none.1 ∙ sym none.0); answers = refl; writes = Appends-nil written })
