-- The frames that a peer in memory hands out.
use Rattle.std.proofs.Common.{◌≡◌, ◌<◌, ◌+◌, ℕ, zero, suc, List, [], ◌∷◌, length, map, drop, get_or, ap, sym, ◌∙◌, add-one, arith}
use Rattle.std.specs.Global.{Vec}

-- the first of the frames to come, and the others
comes_first : (frames : List (Vec ℕ)) (at : ℕ) (frame : Vec ℕ) → at < length frames → frame ≡ get_or frames at frame
    → drop at (map (λ one. one.items) frames) ≡ frame.items ∷ drop (suc at) (map (λ one. one.items) frames)
comes_first [] at frame below is = absurd (omega arith)
comes_first (one ∷ frames) zero frame below is =
    let here : frame ≡ one = is in
    ap (λ (q : Vec ℕ). q.items ∷ map (λ (one : Vec ℕ). one.items) frames) (sym here)
comes_first (one ∷ frames) (suc at) frame below is = comes_first frames at frame (omega arith) is

-- the same of a copy of it
pub copy_comes_first : (frames : List (Vec ℕ)) (at : ℕ) (frame copy : Vec ℕ) (before : List (List ℕ)) → before ≡ drop at (map (λ one. one.items) frames)
    → at < length frames → frame ≡ get_or frames at frame → copy.items ≡ frame.items → before ≡ copy.items ∷ drop (at + 1) (map (λ one. one.items) frames)
copy_comes_first frames at frame copy before before_is below is same = rw (same, add-one) (before_is ∙ comes_first frames at frame below is)
