-- Bytes that still begin what was added to them.
use Rattle.std.proofs.Common.{◌≡◌, ℕ, ◌≤◌, List, ◌++◌, length, take, sym, ap, ◌∙◌, arith}
use Rattle.std.proofs.lemmas.List.{length-take, take-append-le, take_all, take-take}

long_enough : (old new : List ℕ) → take (length old) new ≡ old → length old ≤ length new
long_enough old new e = omega (arith, length-take (length old) new, ap (λ (v : List ℕ). length v) e)

pub begins_more : (old new more : List ℕ) → take (length old) new ≡ old → take (length old) (new ++ more) ≡ old
begins_more old new more e = let le = long_enough old new e in take-append-le (length old) new more le ∙ e

pub begins_self : (old : List ℕ) → take (length old) old ≡ old
begins_self old = take_all (length old) old (omega arith)

pub begins_trans : (a b c : List ℕ) → take (length a) b ≡ a → take (length b) c ≡ b → take (length a) c ≡ a
begins_trans a b c e f =
    let le = long_enough a b e in
    let both : take (length a) (take (length b) c) ≡ take (length a) c = take-take (length a) (length b) c le in
    sym both ∙ ap (take (length a)) f ∙ e
