-- Lists of new pieces.
use Rattle.std.proofs.Common.{◌≡◌, ℕ, List, [], ◌∷◌, ◌++◌, sym, ap, ◌∙◌, subst, Option, inl, inr}
use Rattle.saw_runs.specs.Entries.{Entry, AreNamed, IsAmong, IsRead, IsReadOr, IsWhole, entry_hash}
use Rattle.saw_runs.specs.declared.pieces.NewPiece.{NewPiece}

pub among_left : (xs ys : List NewPiece) (h : List ℕ) (entry : Entry) → IsAmong xs h entry → IsAmong (xs ++ ys) h entry
among_left [] ys h entry a = absurd a
among_left (x ∷ xs) ys h entry a = elim a [ inl here ↦ inl here | inr rest ↦ inr (among_left xs ys h entry rest) ]

pub among_right : (xs ys : List NewPiece) (h : List ℕ) (entry : Entry) → IsAmong ys h entry → IsAmong (xs ++ ys) h entry
among_right [] ys h entry a = a
among_right (x ∷ xs) ys h entry a = inr (among_right xs ys h entry a)

pub named_both : (hash : List ℕ → List ℕ) (xs ys : List NewPiece) → AreNamed hash xs → AreNamed hash ys → AreNamed hash (xs ++ ys)
named_both hash [] ys h k = k
named_both hash (x ∷ xs) ys h k = (h.0, named_both hash xs ys h.1 k)

pub read_left : (read : List ℕ → Option Entry) (xs ys : List NewPiece) (h : List ℕ) (entry : Entry) → IsReadOr read xs h entry → IsReadOr read (xs ++ ys) h entry
read_left read xs ys h entry k = elim k [ inl old ↦ inl old | inr new ↦ inr (among_left xs ys h entry new) ]

pub read_right : (read : List ℕ → Option Entry) (xs ys : List NewPiece) (h : List ℕ) (entry : Entry) → IsReadOr read ys h entry → IsReadOr read (xs ++ ys) h entry
read_right read xs ys h entry k = elim k [ inl old ↦ inl old | inr new ↦ inr (among_right xs ys h entry new) ]

pub read_old : (read : List ℕ → Option Entry) (xs : List NewPiece) (h : List ℕ) (entry : Entry) → IsRead read h entry → IsReadOr read xs h entry
read_old read xs h entry k = inl k

-- each has its hash and is whole
pub among_named : (hash : List ℕ → List ℕ) (xs : List NewPiece) (h : List ℕ) (entry : Entry) → AreNamed hash xs → IsAmong xs h entry
    → (h ≡ entry_hash hash entry) × IsWhole entry
among_named hash [] h entry named a = absurd a
among_named hash (x ∷ xs) h entry named a = elim a [
  | inl here ↦ (sym here.0 ∙ named.0.0 ∙ ap (entry_hash hash) here.1, subst IsWhole here.1 named.0.1)
  | inr rest ↦ among_named hash xs h entry named.1 rest
]
