-- The kids of a fork are closed one by one.
use Rattle.std.proofs.Common.{◌≡◌, ℕ, ◌+◌, ◌<◌, List, [], ◌∷◌, ◌++◌, length, take, get_or, refl, sym, ap, ◌∙◌, subst, append_assoc, inl, inr}
use Rattle.std.specs.List.{AllByRecursion}
use Rattle.std.proofs.lemmas.List.{append-nil, map-append, take_more}
use Rattle.saw_node.specs.Nodes.{pair_of}
use Rattle.saw_node.specs.declared.node.Child.{Child}
use Rattle.saw_runs.specs.Runs.{hash_up}
use Rattle.saw_runs.specs.Entries.{AreNamed, Entry, entry_hash, entry_of}
use Rattle.saw_runs.specs.Entries.Entry.{OfRun}
use Rattle.saw_runs.specs.Changes.{Closes, ClosesAll, IsClosed, IsRunOf, IsRunOfOne}
use Rattle.saw_runs.specs.Pieces.{EachIs}
use Rattle.saw_runs.specs.Lowers.{hashed_pair, lower_hash}
use Rattle.saw_runs.specs.declared.lowers.Lower.{Lower}
use Rattle.saw_runs.specs.declared.lowers.Lower.TheVariants.{Held, Made}
use Rattle.saw_runs.specs.declared.lowers.Kid.{Kid}
use Rattle.saw_runs.specs.declared.pieces.NewPiece.{NewPiece}
use Rattle.saw_runs.proofs.Among.{among_left, among_right, named_both}
use Rattle.saw_runs.proofs.Piecing.{each_after, each_both, each_map}

-- what one part adds
pub record ClosesOne (hash : List ℕ → List ℕ) (lower : Lower) (answer : List ℕ) (old new : List NewPiece) : Type 0 where
  pub news : List NewPiece
  pub grown : new ≡ old ++ news
  pub named : AreNamed hash news
  pub is : answer ≡ lower_hash hash lower
  pub closed : IsClosed hash news lower
  pub runs : EachIs (λ before entry. IsRunOf lower entry) [] news

-- a new piece is among those that it is added to
pub here_is : (hash : List ℕ → List ℕ) (made : NewPiece) (path bottom : List ℕ) → entry_of made.piece ≡ OfRun path bottom
    → made.hash ≡ entry_hash hash (entry_of made.piece) → made.hash ≡ hash_up hash path bottom
here_is hash made path bottom is named = named ∙ ap (entry_hash hash) is

pub closes_one : (hash : List ℕ → List ℕ) (lower : Lower) (answer : List ℕ) (old new : List NewPiece) → Closes hash lower answer old new → ClosesOne hash lower answer old new
unfolding EachIs
closes_one hash (Held h) answer old new c = record { news = []; grown = c.1 ∙ sym (append-nil old); named = tt; is = c.0; closed = tt; runs = tt }
closes_one hash (Made run) answer old new c = elim c [
  | inl end ↦ record {
    news = [];
    grown = end.2 ∙ sym (append-nil old);
    named = tt;
    is = end.1 ∙ sym (ap (λ p. hash_up hash p run.bottom) end.0);
    closed = inl end.0;
    runs = tt;
  }
  | inr adds ↦
      let named = here_is hash adds.made run.path.items run.bottom adds.is adds.named in
      record {
        news = adds.made ∷ [];
        grown = adds.more;
        named = ((adds.named, adds.whole), tt);
        is = adds.here ∙ named;
        closed = inr (inl (named, adds.is));
        runs = ((run, refl, adds.is), tt);
      }
]

pub closed_left : (hash : List ℕ → List ℕ) (xs ys : List NewPiece) (lower : Lower) → IsClosed hash xs lower → IsClosed hash (xs ++ ys) lower
closed_left hash xs ys (Held h) c = tt
closed_left hash xs ys (Made run) c = elim c [ inl end ↦ inl end | inr new ↦ inr (among_left xs ys _ _ new) ]

closed_right : (hash : List ℕ → List ℕ) (xs ys : List NewPiece) (lower : Lower) → IsClosed hash ys lower → IsClosed hash (xs ++ ys) lower
closed_right hash xs ys (Held h) c = tt
closed_right hash xs ys (Made run) c = elim c [ inl end ↦ inl end | inr new ↦ inr (among_right xs ys _ _ new) ]

-- the kids before, and one more
all_closed : (hash : List ℕ → List ℕ) (xs ys : List NewPiece) (kids : List Kid) (kid : Kid) → AllByRecursion (λ kid. IsClosed hash xs kid.lower) kids
    → IsClosed hash ys kid.lower → AllByRecursion (λ kid. IsClosed hash (xs ++ ys) kid.lower) (kids ++ kid ∷ [])
all_closed hash xs ys [] kid all one = (closed_right hash xs ys kid.lower one, tt)
all_closed hash xs ys (k ∷ kids) kid all one = (closed_left hash xs ys k.lower all.0, all_closed hash xs ys kids kid all.1 one)

run_left : (xs ys : List Kid) (entry : Entry) → IsRunOfOne xs entry → IsRunOfOne (xs ++ ys) entry
run_left [] ys entry one = absurd one
run_left (x ∷ xs) ys entry one = elim one [ inl here ↦ inl here | inr rest ↦ inr (run_left xs ys entry rest) ]

run_right : (xs ys : List Kid) (entry : Entry) → IsRunOfOne ys entry → IsRunOfOne (xs ++ ys) entry
run_right [] ys entry one = one
run_right (x ∷ xs) ys entry one = inr (run_right xs ys entry one)

pub closes_none : (hash : List ℕ → List ℕ) (old : List NewPiece) → ClosesAll hash [] [] old old
unfolding EachIs
closes_none hash old = record { news = []; grown = sym (append-nil old); named = tt; pairs = refl; closed = tt; runs = tt }

pub closes_more : (hash : List ℕ → List ℕ) (kids : List Kid) (i : ℕ) (kid : Kid) (children : List Child) (child : Child) (answer : List ℕ)
    (old mid new : List NewPiece) → kid ≡ get_or kids i kid → i < length kids → pair_of child ≡ (kid.byte, answer) → Closes hash kid.lower answer mid new
    → ClosesAll hash (take i kids) children old mid → ClosesAll hash (take (i + 1) kids) (children ++ child ∷ []) old new
closes_more hash kids i kid children child answer old mid new is lt child_is closes all =
    let one = closes_one hash kid.lower answer mid new closes in
    let more : take (i + 1) kids ≡ take i kids ++ kid ∷ [] = take_more kids i kid lt ∙ ap (λ (k : Kid). take i kids ++ k ∷ []) (sym is) in
    let whole : ClosesAll hash (take i kids ++ kid ∷ []) (children ++ child ∷ []) old new = record {
      news = all.news ++ one.news;
      grown = one.grown ∙ ap (λ xs. xs ++ one.news) all.grown ∙ append_assoc old all.news one.news;
      named = named_both hash all.news one.news all.named one.named;
      pairs = map-append pair_of children (child ∷ []) ∙ (λ j. all.pairs j ++ (child_is ∙ ap (paired kid.byte) one.is) j ∷ [])
          ∙ sym (map-append (hashed_pair hash) (take i kids) (kid ∷ []));
      closed = all_closed hash all.news one.news (take i kids) kid all.closed one.closed;
      runs = each_both (λ before entry. IsRunOfOne (take i kids ++ kid ∷ []) entry) [] all.news one.news
          (each_map _ _ (λ e entry run. run_left (take i kids) (kid ∷ []) entry run) [] all.news all.runs)
          (each_after _ _ all.news (λ e entry run. run_right (take i kids) (kid ∷ []) entry (inl run)) one.news one.runs);
    } in
    subst (λ ks. ClosesAll hash ks (children ++ child ∷ []) old new) (sym more) whole
  where
    paired : ℕ → List ℕ → ℕ × List ℕ
    paired b h = (b, h)
