-- The root after changes.
use Rattle.std.proofs.Common.{◌≡◌, ℕ, true, false, List, [], ◌∷◌, ◌++◌, refl, sym, ap, ◌∙◌, subst, append_assoc, Option, Some, None, inl, inr}
use Rattle.std.specs.List.{AllByRecursion}
use Rattle.std.specs.FinMap as finite
use Rattle.std.specs.Ordering.{nat_cmp}
use Rattle.std.specs.Cmp.Lexicographic.{slice_cmp}
use Rattle.std.proofs.lemmas.Bool.{both_ways, false_from_ne_true}
use Rattle.std.proofs.lemmas.List.{append-nil}
use Rattle.saw_address.specs.Maps.{StateMap, no_entries}
use Rattle.saw_address.specs.Prefixes.{covers}
use Rattle.saw_context.specs.Changed.{AreRising}
use Rattle.saw_context.specs.Outcome.{map_after}
use Rattle.saw_messages.specs.declared.outcome.Change.{Change}
use Rattle.saw_node.specs.Nodes.{encoding_of}
use Rattle.saw_node.specs.Trees.{has_under, root_of_map}
use Rattle.saw_runs.specs.Places.{Fits, FitsSome}
use Rattle.saw_runs.specs.Places.{AreOfAddresses}
use Rattle.saw_runs.proofs.Changed.{addressed_after}
use Rattle.saw_runs.proofs.Local.{Agree, has_from_value, node_at-Agree}
use Rattle.saw_runs.proofs.Nexts.{none_of}
use Rattle.saw_runs.specs.Runs.{hash_up}
use Rattle.saw_runs.specs.Entries.{Entry, IsRead, IsReadOr}
use Rattle.saw_runs.specs.Entries.Entry.{OfRun}
use Rattle.saw_runs.specs.Told.{hash_at, IsRootOf, IsTold, IsToldBy}
use Rattle.saw_runs.specs.Lowers.{IsOpened}
use Rattle.saw_runs.specs.Changes.{ChangesBelow, ChangesRoot, ClosesRoot, IsRunOf, StandsWith}
use Rattle.saw_runs.specs.Pieces.{EachIs, IsPieceBelow}
use Rattle.saw_runs.specs.declared.run.Run.{Run}
use Rattle.saw_runs.specs.declared.pieces.NewPiece.{NewPiece}
use Rattle.saw_runs.specs.declared.lowers.Lower.TheVariants.{Held, Made}
use Rattle.saw_runs.proofs.Among.{among_right, named_both, read_left, read_old}
use Rattle.saw_runs.proofs.Closing.{ClosesOne, closes_one}
use Rattle.saw_runs.proofs.Finishing.{made_told}
use Rattle.saw_runs.proofs.Fors.{held_reads}
use Rattle.saw_runs.proofs.Piecing.{below_more, each_after, each_both}
use Rattle.saw_runs.proofs.Telling.{IsTold-more, IsToldBy-Agree, IsToldBy-more, told_hash}

all_under : (changes : List Change) → AllByRecursion (λ change. covers [] change.address ≡ true) changes
all_under [] = tt
all_under (x ∷ changes) = (refl, all_under changes)

pub fits_root : (changes : List Change) → AreOfAddresses changes → AreRising changes → Fits 35 [] changes
fits_root changes are rising = record { deep = refl; under = all_under changes; are = are; rising = rising }

pub fits_some : (changes : List Change) → AreOfAddresses changes → AreRising changes → FitsSome 35 changes
fits_some changes are rising = record { place = []; fits = fits_root changes are rising }

-- a map without addresses has what the empty one has
nothing_anywhere : (m : StateMap) → has_under (finite.entries m) [] ≡ false → Agree (finite.entries no_entries) (finite.entries m) []
nothing_anywhere m unmet q h =
    sym (finite.get-entries no_entries q) ∙ finite.get-empty (slice_cmp nat_cmp) q
    ∙ sym (none_of _ (false_from_ne_true _ (λ some. both_ways _ unmet (has_from_value (finite.entries m) [] q refl some))))

module _ (hash : List ℕ → List ℕ) (read : List ℕ → Option Entry) where
  -- what a root told is told where more is kept
  pub root_stays : (R S : List ℕ → Entry → Type 0) → ((h : List ℕ) (e : Entry) → R h e → S h e) → (m : StateMap) (root : List ℕ) → IsRootOf hash R m root
      → IsRootOf hash S m root
  root_stays R S more m root is = record { named = is.named; told = IsToldBy-more hash R S more (finite.entries m) 35 [] root is.told; are = is.are }

  pub not_changed : (empty root : List ℕ) (changes : List Change) (old : List NewPiece) → changes ≡ []
      → ChangesRoot hash read empty root changes root old old
  unfolding EachIs
  not_changed empty root changes old none = record {
    news = [];
    grown = sym (append-nil old);
    named = tt;
    told = λ m is_root is_empty are. record {
      is = subst (λ cs. IsRootOf hash (IsReadOr read []) (map_after m cs) root) (sym none) (root_stays (IsRead read) (IsReadOr read []) (read_old read []) m root is_root);
      only = tt;
    };
  }

  run_root : (m : StateMap) (run : Run) (answer : List ℕ) (before : List NewPiece) (old new : List NewPiece)
      → (one : ClosesOne hash (Made run) answer old new)
      → IsTold hash (IsReadOr read before) (finite.entries m) 35 [] run.path.items run.bottom
      → (answer ≡ root_of_map hash m) × IsToldBy hash (IsReadOr read (before ++ one.news)) (finite.entries m) 35 [] answer
  run_root m run answer before old new one told =
      let R = IsReadOr read (before ++ one.news) in
      let more : IsTold hash (IsReadOr read (before ++ one.news)) (finite.entries m) 35 [] run.path.items run.bottom =
      IsTold-more hash (IsReadOr read before) (IsReadOr read (before ++ one.news)) (read_left read before one.news) (finite.entries m) 35 [] run.path.items run.bottom told in
      let named : answer ≡ hash_at hash (IsReadOr read before) (finite.entries m) 35 [] = one.is ∙ told_hash hash (IsReadOr read before) (finite.entries m) 35 [] run.path.items run.bottom told in (
        named,
        subst (IsToldBy hash (IsReadOr read (before ++ one.news)) (finite.entries m) 35 []) (sym named)
            (made_told hash read (IsReadOr read (before ++ one.news)) (finite.entries m) 35 [] run.path.items run.bottom more
            (elim one.closed [
              | inl none ↦ inl none
              | inr new ↦ inr (inr (among_right before one.news (hash_up hash run.path.items run.bottom) (OfRun run.path.items run.bottom) new))
            ])),
      )

  -- the run from the root is a piece
  root_piece : (m : StateMap) (run : Run) (before e : List NewPiece) (entry : Entry) → has_under (finite.entries m) [] ≡ true
      → IsTold hash (IsReadOr read before) (finite.entries m) 35 [] run.path.items run.bottom → IsRunOf (Made run) entry
      → IsPieceBelow hash (IsReadOr read (before ++ e)) (finite.entries m) 35 [] entry
  root_piece m run before e entry met told made =
      let same : run ≡ made.0 = run_is made.1 in
      below_more hash (IsReadOr read before) (IsReadOr read (before ++ e)) (read_left read before e) (finite.entries m) 35 [] entry
      (subst (IsPieceBelow hash (IsReadOr read before) (finite.entries m) 35 []) (ap (λ (r : Run). OfRun r.path.items r.bottom) same ∙ sym made.2)
      (record { left = 35; rest = []; deep = refl; is = (met, told); top = inl refl }))
    where
      run_is : {r : Run} → Made run ≡ Made r → run ≡ r
      run_is e = cc

  pub changed : (empty root : List ℕ) (changes : List Change) (path : List ℕ) (bottom : Option (List ℕ)) (run : Option Run) (answer : List ℕ)
      (old mid new : List NewPiece) → AreRising changes → IsOpened read (Some (Held root)) path bottom
      → ChangesBelow hash read changes 35 path bottom run old mid → ClosesRoot hash empty run answer mid new
      → ChangesRoot hash read empty root changes answer old new
  changed empty root changes path bottom None answer old mid new rising opens below closes = record {
    news = below.news;
    grown = closes.1 ∙ below.grown;
    named = below.named;
    told = λ m is_root is_empty are.
        let stands : StandsWith hash read (finite.entries (map_after m changes)) 35 [] None below.news =
        below.told m [] is_root.are (fits_root changes are rising) (held_reads hash read (finite.entries m) 35 [] root path bottom opens is_root.told) in
        let same = nothing_anywhere (map_after m changes) stands.stands in
        let whole : IsRootOf hash (IsReadOr read below.news) (map_after m changes) empty = record {
          named = is_empty.named ∙ ap (λ node. hash (encoding_of node)) (node_at-Agree hash _ _ 35 [] same);
          told = IsToldBy-Agree hash (IsReadOr read below.news) _ (finite.entries (map_after m changes)) 35 [] empty same
              (IsToldBy-more hash (IsRead read) (IsReadOr read below.news) (read_old read below.news) (finite.entries no_entries) 35 [] empty is_empty.told);
          are = addressed_after m changes are is_root.are;
        } in
        record { is = subst (IsRootOf hash (IsReadOr read below.news) (map_after m changes)) (sym closes.0) whole; only = stands.only };
  }
  changed empty root changes path bottom (Some run) answer old mid new rising opens below closes =
      let one = closes_one hash (Made run) answer mid new closes in
      record {
        news = below.news ++ one.news;
        grown = one.grown ∙ ap (λ xs. xs ++ one.news) below.grown ∙ append_assoc old below.news one.news;
        named = named_both hash below.news one.news below.named one.named;
        told = λ m is_root is_empty are.
            let stands = below.told m [] is_root.are (fits_root changes are rising) (held_reads hash read (finite.entries m) 35 [] root path bottom opens is_root.told) in
            let both = run_root (map_after m changes) run answer below.news mid new one stands.stands.1 in
            record {
              is = record { named = both.0; told = both.1; are = addressed_after m changes are is_root.are };
              only = each_both _ [] below.news one.news stands.only
                  (each_after (λ e entry. IsRunOf (Made run) entry)
                  (λ e entry. IsPieceBelow hash (IsReadOr read e) (finite.entries (map_after m changes)) 35 [] entry) below.news
                  (λ e entry made. root_piece (map_after m changes) run below.news e entry stands.stands.0 stands.stands.1 made) one.news one.runs);
            };
      }
