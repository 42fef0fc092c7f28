-- The entries of an answer, one by one.
use Rattle.std.proofs.Common.{◌≡◌, ◌<◌, ℕ, zero, suc, List, [], ◌∷◌, ◌++◌, length, take, min, get_or, ap, refl, arith, rules}
use Rattle.saw_link.specs.SentFrames.{entries_of}

pub entries_push : (texts bodies : List (List ℕ)) (i : ℕ) (text body : List ℕ) → i < length texts → i < length bodies → text ≡ get_or texts i text
    → body ≡ get_or bodies i body
    → take i (entries_of texts bodies) ++ record { address = text; body = body } ∷ [] ≡ take (suc i) (entries_of texts bodies)
entries_push [] bodies i text body below other first second = absurd (omega arith)
entries_push (t ∷ texts) [] i text body below other first second = absurd (omega arith)
entries_push (t ∷ texts) (b ∷ bodies) zero text body below other first second = let e : text ≡ t = first in let f : body ≡ b = second in rw (e, f) refl
entries_push (t ∷ texts) (b ∷ bodies) (suc i) text body below other first second =
    ap (λ made. record { address = t; body = b } ∷ made) (entries_push texts bodies i text body (omega arith) (omega arith) first second)

pub entries_whole : (texts bodies : List (List ℕ)) (n : ℕ) → n ≡ min (length texts) (length bodies) → take n (entries_of texts bodies) ≡ entries_of texts bodies
entries_whole [] bodies n is = search rules
entries_whole (text ∷ texts) [] n is = search rules
entries_whole (text ∷ texts) (body ∷ bodies) zero is = absurd (omega arith)
entries_whole (text ∷ texts) (body ∷ bodies) (suc n) is =
    ap (λ made. record { address = text; body = body } ∷ made) (entries_whole texts bodies n (omega arith))
