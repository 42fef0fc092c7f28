-- The frames of a stream, one after another.
use Rattle.std.proofs.Common.{◌≡◌, ℕ, ◌+◌, ◌-◌, ◌<◌, ◌≤◌, List, [], ◌++◌, length, take, Option, sym, ap, subst, ◌∙◌, arith}
use Rattle.std.specs.Io.KnownBytes.{Appends}
use Rattle.std.specs.List.{flat_map, range_with_len}
use Rattle.std.proofs.KnownBytes.{Appends-trans}
use Rattle.std.proofs.Math.Seq.{take-append-add}
use Rattle.std.proofs.lemmas.Grind.{flat_map-append}
use Rattle.std.proofs.lemmas.List.{append-nil, take-append-le, take_all}
use Rattle.std.proofs.lemmas.List.Concat.{flat_map-cons}
use Rattle.saw_io.specs.Frame.{frame}
use Rattle.saw_generate.proofs.Places.{range_split}

module _ (content : ℕ → List ℕ) where
  -- the frames of so many blocks from one on
  abbrev pub frames_from : ℕ → ℕ → List ℕ
  frames_from first count = flat_map (λ b. frame (content b)) (range_with_len first count)

  split_at : (first count more : ℕ) → frames_from first (count + more) ≡ frames_from first count ++ frames_from (first + count) more
  split_at first count more =
      ap (flat_map (λ b. frame (content b))) (range_split first count more)
      ∙ flat_map-append (λ b. frame (content b)) (range_with_len first count) (range_with_len (first + count) more)

  one_frame : (b : ℕ) → frames_from b 1 ≡ frame (content b)
  one_frame b = flat_map-cons (λ b. frame (content b)) b [] ∙ append-nil (frame (content b))

  from_start : (b more : ℕ) → frames_from 0 (b + more) ≡ frames_from 0 b ++ frames_from b more
  from_start b more =
      let same : 0 + b ≡ b = omega arith in
      split_at 0 b more ∙ ap (λ n. frames_from 0 b ++ frames_from n more) same

  -- one frame more
  pub frames_more : (b : ℕ) → frames_from 0 (b + 1) ≡ frames_from 0 b ++ frame (content b)
  frames_more b = from_start b 1 ∙ ap (λ (l : List ℕ). frames_from 0 b ++ l) (one_frame b)

  pub written_more : (b : ℕ) (shown : List ℕ) (old mid new : Option (List ℕ)) → Appends old mid (frames_from 0 b) → shown ≡ content b
      → Appends mid new (frame shown) → Appends old new (frames_from 0 (b + 1))
  written_more b shown old mid new first is next =
      subst (Appends old new) (sym (frames_more b))
      (Appends-trans old mid new (frames_from 0 b) (frame (content b)) first (subst (λ (l : List ℕ). Appends mid new (frame l)) is next))

  module _ (b count : ℕ) (less : b < count) (old mid : Option (List ℕ)) (first : Appends old mid (frames_from 0 b)) where
    whole : frames_from 0 count ≡ frames_from 0 b ++ (frame (content b) ++ frames_from (b + 1) (count - (b + 1)))
    whole =
        let parts : b + (1 + (count - (b + 1))) ≡ count = omega (arith, less) in
        ap (frames_from 0) (sym parts) ∙ from_start b (1 + (count - (b + 1)))
        ∙ ap (λ (l : List ℕ). frames_from 0 b ++ l) (split_at b 1 (count - (b + 1)) ∙ ap (λ (l : List ℕ). l ++ frames_from (b + 1) (count - (b + 1))) (one_frame b))

    -- no more than these were written
    pub before_cut : (k : ℕ) × Appends old mid (take k (frames_from 0 count))
    before_cut =
        let rest = frame (content b) ++ frames_from (b + 1) (count - (b + 1)) in
        let n = length (frames_from 0 b) in
        (n, subst (Appends old mid) (sym (ap (take n) whole ∙ take-append-le n (frames_from 0 b) rest (omega arith) ∙ take_all n (frames_from 0 b) (omega arith))) first)

    -- a part of the frame was written
    pub frame_cut : (shown : List ℕ) (new : Option (List ℕ)) → shown ≡ content b → (n : ℕ) × (n < length (frame shown)) × Appends mid new (take n (frame shown))
        → (k : ℕ) × Appends old new (take k (frames_from 0 count))
    frame_cut shown new is cut =
        let next = frame (content b) in
        let rest = frames_from (b + 1) (count - (b + 1)) in
        let n = length (frames_from 0 b) in
        let few : cut.0 ≤ length next = subst (λ (l : List ℕ). cut.0 ≤ length (frame l)) is (omega (arith, cut.1)) in
        let part : Appends mid new (take cut.0 next) = subst (λ (l : List ℕ). Appends mid new (take cut.0 (frame l))) is cut.2 in
        let front : take (n + cut.0) (frames_from 0 count) ≡ frames_from 0 b ++ take cut.0 next =
        ap (take (n + cut.0)) whole ∙ take-append-add (frames_from 0 b) (next ++ rest) cut.0
        ∙ ap (λ (l : List ℕ). frames_from 0 b ++ l) (take-append-le cut.0 next rest few) in
        (n + cut.0, subst (Appends old new) (sym front) (Appends-trans old mid new (frames_from 0 b) (take cut.0 next) first part))
