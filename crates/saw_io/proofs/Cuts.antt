-- What was written of one text behind another.
use Rattle.std.proofs.Common.{◌≡◌, ◌<◌, ℕ, ◌+◌, List, ◌++◌, length, take, Option, sym, subst}
use Rattle.std.proofs.Common.{length-append, arith}
use Rattle.std.specs.Io.KnownBytes.{Appends}
use Rattle.std.proofs.KnownBytes.{Appends-nil, Appends-trans}
use Rattle.std.proofs.Math.Seq.{take-append-add}
use Rattle.std.proofs.lemmas.List.{take-append-le}

-- a prefix of a text, but not all of it
abbrev pub WroteLess : List ℕ → Option (List ℕ) → Option (List ℕ) → Type 0
WroteLess text old new = (n : ℕ) × (n < length text) × Appends old new (take n text)

-- nothing was written
pub nothing_cut : (text : List ℕ) (old : Option (List ℕ)) → 0 < length text → WroteLess text old old
nothing_cut text old some = (0, some, Appends-nil old)

-- a part of the first was written, as it was shown
pub first_cut : (first rest shown : List ℕ) (old new : Option (List ℕ)) → shown ≡ first → WroteLess shown old new → WroteLess (first ++ rest) old new
first_cut first rest shown old new same cut =
    let less : cut.0 < length first = subst (λ (l : List ℕ). cut.0 < length l) same cut.1 in
    let wrote : Appends old new (take cut.0 first) = subst (λ (l : List ℕ). Appends old new (take cut.0 l)) same cut.2 in
    (cut.0, omega (arith, less, length-append first rest), subst (Appends old new) (sym (take-append-le cut.0 first rest (omega (arith, less)))) wrote)

-- all of the first was, and a part of the other
pub rest_cut : (first rest shown : List ℕ) (old mid new : Option (List ℕ)) → shown ≡ first → Appends old mid shown → WroteLess rest mid new
    → WroteLess (first ++ rest) old new
rest_cut first rest shown old mid new same wrote cut =
    let all : Appends old mid first = subst (Appends old mid) same wrote in
    let less = cut.1 in (
      length first + cut.0,
      omega (arith, less, length-append first rest),
      subst (Appends old new) (sym (take-append-add first rest cut.0)) (Appends-trans old mid new first (take cut.0 rest) all cut.2),
    )
