-- New pieces that are pieces of a map, one after another.
use Rattle.std.proofs.Common.{◌≡◌, ◌≢◌, ℕ, suc, true, List, [], ◌∷◌, ◌++◌, length, refl, sym, ap, ◌∙◌, subst, arith, append_assoc, inl, inr}
use Rattle.std.proofs.lemmas.List.{append-nil}
use Rattle.saw_address.specs.Maps.{Entries}
use Rattle.saw_node.specs.Nodes.{Shape}
use Rattle.saw_node.specs.Trees.{has_under, next_bytes, node_at}
use Rattle.saw_runs.specs.Entries.{Entry, IsAmong, entry_of}
use Rattle.saw_runs.specs.Entries.Entry.{OfNode, OfRun}
use Rattle.saw_runs.specs.Pieces.{EachIs, IsPieceAt, IsPieceBelow, IsTop}
use Rattle.saw_runs.specs.Told.{IsTold}
use Rattle.saw_runs.specs.declared.pieces.NewPiece.{NewPiece}
use Rattle.saw_runs.proofs.Among.{among_left}
use Rattle.saw_runs.proofs.Local.{Agree, Agree-longer, has_under-Agree, node_at-Agree}
use Rattle.saw_runs.proofs.Telling.{IsTold-Agree, IsTold-more, next_bytes-Agree}

-- ---- lists

module _ (P Q : List NewPiece → Entry → Type 0) where
  -- what follows of each
  pub each_map : ((e : List NewPiece) (entry : Entry) → P e entry → Q e entry) → (earlier news : List NewPiece) → EachIs P earlier news → EachIs Q earlier news
  unfolding EachIs
  each_map f earlier [] each = tt
  each_map f earlier (n ∷ news) each = (f earlier (entry_of n.piece) each.0, each_map f (earlier ++ n ∷ []) news each.1)

  -- behind others
  pub each_behind : (xs : List NewPiece) → ((e : List NewPiece) (entry : Entry) → P e entry → Q (xs ++ e) entry) → (earlier news : List NewPiece)
      → EachIs P earlier news → EachIs Q (xs ++ earlier) news
  unfolding EachIs
  each_behind xs f earlier [] each = tt
  each_behind xs f earlier (n ∷ news) each = (
    f earlier (entry_of n.piece) each.0,
    subst (λ e. EachIs Q e news) (sym (append_assoc xs earlier (n ∷ []))) (each_behind xs f (earlier ++ n ∷ []) news each.1),
  )

  pub each_after : (xs : List NewPiece) → ((e : List NewPiece) (entry : Entry) → P e entry → Q (xs ++ e) entry) → (news : List NewPiece)
      → EachIs P [] news → EachIs Q xs news
  each_after xs f news each = subst (λ e. EachIs Q e news) (append-nil xs) (each_behind xs f [] news each)

pub each_both : (P : List NewPiece → Entry → Type 0) (earlier xs ys : List NewPiece) → EachIs P earlier xs → EachIs P (earlier ++ xs) ys
    → EachIs P earlier (xs ++ ys)
unfolding EachIs
each_both P earlier [] ys first second = subst (λ e. EachIs P e ys) (append-nil earlier) second
each_both P earlier (x ∷ xs) ys first second = (
  first.0,
  each_both P (earlier ++ x ∷ []) xs ys first.1 (subst (λ e. EachIs P e ys) (sym (append_assoc earlier (x ∷ []) xs)) second),
)

-- one of them, by those before it
pub each_among : (P : List NewPiece → Entry → Type 0) (earlier news : List NewPiece) (h : List ℕ) (entry : Entry) → EachIs P earlier news
    → IsAmong news h entry
    → (before : List NewPiece) × ((x : List ℕ) (e : Entry) → IsAmong before x e → IsAmong (earlier ++ news) x e) × P before entry
unfolding EachIs
each_among P earlier [] h entry each among = absurd among
each_among P earlier (n ∷ news) h entry each among = elim among [
  | inl here ↦ (earlier, among_left earlier (n ∷ news), subst (P earlier) here.1 each.0)
  | inr rest ↦
      let found = each_among P (earlier ++ n ∷ []) news h entry each.1 rest in
      (found.0, (λ x e is. subst (λ xs. IsAmong xs x e) (append_assoc earlier (n ∷ []) news) (found.1 x e is)), found.2)
]

pub each_split : (P : List NewPiece → Entry → Type 0) (earlier xs ys : List NewPiece) (n : NewPiece) → EachIs P earlier (xs ++ n ∷ ys)
    → P (earlier ++ xs) (entry_of n.piece)
unfolding EachIs
each_split P earlier [] ys n each = subst (λ e. P e (entry_of n.piece)) (sym (append-nil earlier)) each.0
each_split P earlier (x ∷ xs) ys n each =
    subst (λ e. P e (entry_of n.piece)) (append_assoc earlier (x ∷ []) xs) (each_split P (earlier ++ x ∷ []) xs ys n each.1)

-- ---- pieces

module _ (hash : List ℕ → List ℕ) where
  piece_more : (R S : List ℕ → Entry → Type 0) → ((h : List ℕ) (e : Entry) → R h e → S h e) → (es : Entries) (levels : ℕ) (place : List ℕ) (entry : Entry)
      → IsPieceAt hash R es levels place entry → IsPieceAt hash S es levels place entry
  piece_more R S more es levels place (OfNode shape) piece = piece
  piece_more R S more es levels place (OfRun path bottom) piece = (piece.0, IsTold-more hash R S more es levels place path bottom piece.1)

  piece_Agree : (R : List ℕ → Entry → Type 0) (es fs : Entries) (levels : ℕ) (place : List ℕ) (entry : Entry) → Agree es fs place
      → IsPieceAt hash R es levels place entry → IsPieceAt hash R fs levels place entry
  piece_Agree R es fs levels place (OfNode shape) same piece =
      (sym (has_under-Agree es fs place same) ∙ piece.0, piece.1 ∙ node_at-Agree hash es fs levels place same)
  piece_Agree R es fs levels place (OfRun path bottom) same piece =
      (sym (has_under-Agree es fs place same) ∙ piece.0, IsTold-Agree hash R es fs levels place path bottom same piece.1)

  -- where more is kept
  pub below_more : (R S : List ℕ → Entry → Type 0) → ((h : List ℕ) (e : Entry) → R h e → S h e) → (es : Entries) (levels : ℕ) (place : List ℕ) (entry : Entry)
      → IsPieceBelow hash R es levels place entry → IsPieceBelow hash S es levels place entry
  below_more R S more es levels place entry below = record {
    left = below.left;
    rest = below.rest;
    deep = below.deep;
    is = piece_more R S more es below.left (place ++ below.rest) entry below.is;
    top = below.top;
  }

  top_Agree : (es fs : Entries) (place rest : List ℕ) (entry : Entry) → Agree es fs place → IsTop es place rest entry → IsTop fs place rest entry
  top_Agree es fs place rest (OfNode shape) same top = tt
  top_Agree es fs place rest (OfRun path bottom) same top = elim top [
    | inl root ↦ inl root
    | inr fork ↦ inr (
      fork.0,
      fork.1,
      fork.2,
      subst (λ bs. length bs ≢ 1) (next_bytes-Agree es fs (place ++ fork.0) (Agree-longer es fs place fork.0 same)) fork.3,
    )
  ]

  -- of each map that agrees below the place
  pub below_Agree : (R : List ℕ → Entry → Type 0) (es fs : Entries) (levels : ℕ) (place : List ℕ) (entry : Entry) → Agree es fs place
      → IsPieceBelow hash R es levels place entry → IsPieceBelow hash R fs levels place entry
  below_Agree R es fs levels place entry same below = record {
    left = below.left;
    rest = below.rest;
    deep = below.deep;
    is = piece_Agree R es fs below.left (place ++ below.rest) entry (Agree-longer es fs place below.rest same) below.is;
    top = top_Agree es fs place below.rest entry same below.top;
  }

  top_child : (es : Entries) (place rest : List ℕ) (b : ℕ) (entry : Entry) → IsTop es (place ++ b ∷ []) rest entry → IsTop es place (b ∷ rest) entry
  top_child es place rest b (OfNode shape) top = tt
  top_child es place rest b (OfRun path bottom) top = elim top [
    | inl root ↦ absurd (not_empty place (root ∙ refl))
    | inr fork ↦ inr (
      b ∷ fork.0,
      fork.1,
      ap (λ bs. b ∷ bs) fork.2,
      subst (λ p. length (next_bytes es p) ≢ 1) (append_assoc place (b ∷ []) fork.0) fork.3,
    )
  ]
    where
      not_empty : (p : List ℕ) → (p ++ b ∷ []) ++ rest ≡ [] → ⊥
      not_empty [] e = cc
      not_empty (x ∷ p) e = cc

  -- what lies below a child lies below the node
  pub below_child : (R : List ℕ → Entry → Type 0) (es : Entries) (levels : ℕ) (place : List ℕ) (b : ℕ) (entry : Entry)
      → IsPieceBelow hash R es levels (place ++ b ∷ []) entry → IsPieceBelow hash R es (suc levels) place entry
  below_child R es levels place b entry below =
      let d = below.deep in
      record {
        left = below.left;
        rest = b ∷ below.rest;
        deep = omega (arith, d);
        is = subst (λ p. IsPieceAt hash R es below.left p entry) (append_assoc place (b ∷ []) below.rest) below.is;
        top = top_child es place below.rest b entry below.top;
      }

  -- the node at the place
  pub node_here : (R : List ℕ → Entry → Type 0) (es : Entries) (levels : ℕ) (place : List ℕ) (shape : Shape) → has_under es place ≡ true
      → shape ≡ node_at hash es levels place → IsPieceBelow hash R es levels place (OfNode shape)
  node_here R es levels place shape met is = record {
    left = levels;
    rest = [];
    deep = omega arith;
    is = subst (λ p. IsPieceAt hash R es levels p (OfNode shape)) (sym (append-nil place)) (met, is);
    top = tt;
  }

  -- a run below a byte of a node that has not one child
  pub run_below : (R : List ℕ → Entry → Type 0) (es : Entries) (levels : ℕ) (place : List ℕ) (b : ℕ) (path bottom : List ℕ)
      → has_under es (place ++ b ∷ []) ≡ true → IsTold hash R es levels (place ++ b ∷ []) path bottom → length (next_bytes es place) ≢ 1
      → IsPieceBelow hash R es (suc levels) place (OfRun path bottom)
  run_below R es levels place b path bottom met told fork = record {
    left = levels;
    rest = b ∷ [];
    deep = omega arith;
    is = (met, told);
    top = inr ([], b, refl, subst (λ p. length (next_bytes es p) ≢ 1) (sym (append-nil place)) fork);
  }
