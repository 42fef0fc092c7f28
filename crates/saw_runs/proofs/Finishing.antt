-- A node from its kids: nothing, a run that goes on, or a fork.
use Rattle.std.proofs.Common.{◌≡◌, ◌≢◌, ◌⊎◌, ℕ, suc, ◌<◌, ◌≤◌, true, false, cond, List, [], ◌∷◌, ◌++◌, length, map, get_or, refl, sym, ap, ◌∙◌, subst, arith, append_assoc, Option, Some, None, inl, inr}
use Rattle.std.specs.Option.{option_map}
use Rattle.std.specs.List.{AllByRecursion}
use Rattle.std.specs.List.Sorted.{IsStrictlySortedBy}
use Rattle.std.specs.Ordering.{nat_cmp}
use Rattle.std.specs.FinMap as finite
use Rattle.std.proofs.lemmas.Bool.{true≢false, eq-eqb, false_from_ne_true}
use Rattle.std.proofs.lemmas.List.{append-nil, length-map}
use Rattle.saw_address.specs.Maps.{Entries}
use Rattle.saw_node.specs.Nodes.{Shape, encoding_of, pair_of}
use Rattle.saw_node.specs.Trees.{has_under, next_bytes, all_bytes, node_at}
use Rattle.saw_node.specs.declared.node.Child.{Child}
use Rattle.saw_runs.proofs.Nexts.{next_met}
use Rattle.saw_runs.proofs.Local.{has_under-shorter, node_with}
use Rattle.saw_runs.specs.Runs.{hash_up}
use Rattle.saw_runs.specs.Entries.{Entry, IsAmong, IsRead, IsReadOr, IsWhole, entry_hash}
use Rattle.saw_runs.specs.Entries.Entry.{OfNode, OfRun}
use Rattle.saw_runs.specs.Told.{hash_at, IsTold, IsToldBy}
use Rattle.saw_runs.specs.Tables.{at_byte}
use Rattle.saw_runs.specs.Lowers.{AreFor, IsFor, Stands, hashed_pair, kid_pair, lower_hash}
use Rattle.saw_runs.specs.Pieces.{EachIs, IsPieceBelow}
use Rattle.saw_runs.specs.Changes.{IsRunOf, IsRunOfOne, AddsPiece, ClosesAll, Finishes, OpensOnlyKid, IsClosed}
use Rattle.saw_runs.specs.declared.run.Run.{Run}
use Rattle.saw_runs.specs.declared.pieces.NewPiece.{NewPiece}
use Rattle.saw_runs.specs.declared.lowers.Lower.{Lower}
use Rattle.saw_runs.specs.declared.lowers.Lower.TheVariants.{Held, Made}
use Rattle.saw_runs.specs.declared.lowers.Kid.{Kid}
use Rattle.saw_runs.proofs.Among.{among_right, named_both, read_left, read_old}
use Rattle.saw_runs.proofs.Closing.{closed_left}
use Rattle.saw_runs.proofs.Fors.{for_some, next_first, opened_told}
use Rattle.saw_runs.proofs.Tabled.{all_in_table, at_byte-table, bytes-table, map-table, table-filter, table-same, table_is}
use Rattle.saw_runs.proofs.Piecing.{below_more, each_after, each_both, node_here, run_below}
use Rattle.saw_runs.proofs.Telling.{IsTold-more, IsToldBy-more, told_hash, told_short}

-- ---- bytes of kids

abbrev kid_bytes : List Kid → List ℕ
kid_bytes kids = map (λ kid. kid.byte) kids

paired_bytes : (kids : List Kid) → map (λ (e : ℕ × Lower). e.0) (map kid_pair kids) ≡ kid_bytes kids
paired_bytes [] = refl
paired_bytes (kid ∷ kids) = ap (λ bs. kid.byte ∷ bs) (paired_bytes kids)

child_bytes_are : (children : List Child) → map (λ (p : ℕ × List ℕ). p.0) (map pair_of children) ≡ map (λ child. child.byte) children
child_bytes_are [] = refl
child_bytes_are (child ∷ children) = ap (λ bs. child.byte ∷ bs) (child_bytes_are children)

hashed_bytes : (hash : List ℕ → List ℕ) (kids : List Kid) → map (λ (p : ℕ × List ℕ). p.0) (map (hashed_pair hash) kids) ≡ kid_bytes kids
hashed_bytes hash [] = refl
hashed_bytes hash (kid ∷ kids) = ap (λ bs. kid.byte ∷ bs) (hashed_bytes hash kids)

pub children_rise : (hash : List ℕ → List ℕ) (kids : List Kid) (children : List Child) (old new : List NewPiece) → ClosesAll hash kids children old new
    → IsStrictlySortedBy nat_cmp (map (λ kid. kid.byte) kids) → IsStrictlySortedBy nat_cmp (map (λ child. child.byte) children)
children_rise hash kids children old new all rising =
    subst (IsStrictlySortedBy nat_cmp) (sym (sym (child_bytes_are children) ∙ ap (map (λ (p : ℕ × List ℕ). p.0)) all.pairs ∙ hashed_bytes hash kids)) rising

child_count : (hash : List ℕ → List ℕ) (kids : List Kid) (children : List Child) (old new : List NewPiece) → ClosesAll hash kids children old new
    → length (map pair_of children) ≡ length (kid_bytes kids)
child_count hash kids children old new all =
    sym (length-map (map pair_of children) (λ (p : ℕ × List ℕ). p.0))
    ∙ ap length (ap (map (λ (p : ℕ × List ℕ). p.0)) all.pairs ∙ hashed_bytes hash kids)

hashed_pairs : (hash : List ℕ → List ℕ) (kids : List Kid) → map (hashed_pair hash) kids ≡ map (λ (e : ℕ × Lower). (e.0, lower_hash hash e.1)) (map kid_pair kids)
hashed_pairs hash [] = refl
hashed_pairs hash (kid ∷ kids) = ap (λ ps. hashed_pair hash kid ∷ ps) (hashed_pairs hash kids)

closed_pairs : (hash : List ℕ → List ℕ) (news : List NewPiece) (kids : List Kid) → AllByRecursion (λ kid. IsClosed hash news kid.lower) kids
    → AllByRecursion (λ (e : ℕ × Lower). IsClosed hash news e.1) (map kid_pair kids)
closed_pairs hash news [] all = tt
closed_pairs hash news (kid ∷ kids) all = (all.0, closed_pairs hash news kids all.1)

module _ (hash : List ℕ → List ℕ) (Old R : List ℕ → Entry → Type 0) (es : Entries) (levels : ℕ) (place : List ℕ) where
  -- the bytes that follow the place are those of the kids
  next_bytes_are : (kids : List Kid) → AreFor hash Old R es levels place kids → next_bytes es place ≡ kid_bytes kids
  unfolding all_bytes
  next_bytes_are kids for =
      sym (bytes-table for.at (λ b. has_under es (place ++ b ∷ [])) 0 256 (λ c low high. for_some hash Old R es levels (place ++ c ∷ []) (for.at c) (for.each c (omega (arith, high)))))
      ∙ ap (map (λ (e : ℕ × Lower). e.0)) (sym for.same) ∙ paired_bytes kids

  -- its hash is that of the node there
  for_hash : (p : List ℕ) (o : Option Lower) → IsFor hash Old R es levels p o
      → option_map (lower_hash hash) o ≡ cond (has_under es p) (Some (hash_at hash R es levels p)) None
  for_hash p None f = sym (ap (λ t. cond t (Some (hash_at hash R es levels p)) None) f)
  for_hash p (Some (Held h)) f = ap Some f.1 ∙ sym (ap (λ t. cond t (Some (hash_at hash R es levels p)) None) f.0)
  for_hash p (Some (Made run)) f =
      ap Some (told_hash hash R es levels p run.path.items run.bottom f.1) ∙ sym (ap (λ t. cond t (Some (hash_at hash R es levels p)) None) f.0)

  -- the children that the kids are closed to are those of the map's node
  node_made : (kids : List Kid) (children : List (ℕ × List ℕ)) → children ≡ map (hashed_pair hash) kids → AreFor hash Old R es levels place kids
      → node_with children ≡ node_at hash es (suc levels) place
  unfolding node_at all_bytes
  node_made kids children are for =
      ap node_with (are ∙ hashed_pairs hash kids ∙ ap (map (λ (e : ℕ × Lower). (e.0, lower_hash hash e.1))) for.same
      ∙ map-table (lower_hash hash) for.at 0 256
      ∙ table-same (λ c. option_map (lower_hash hash) (for.at c)) (λ c. cond (has_under es (place ++ c ∷ [])) (Some (hash_at hash R es levels (place ++ c ∷ []))) None) 0 256
      (λ c low high. for_hash (place ++ c ∷ []) (for.at c) (for.each c (omega (arith, high))))
      ∙ sym (table-filter (λ b. has_under es (place ++ b ∷ [])) (λ b. hash_at hash R es levels (place ++ b ∷ [])) 0 256))

-- ---- nothing

module _ (hash : List ℕ → List ℕ) (read : List ℕ → Option Entry) where
  pub finish_none : (kids : List Kid) (old : List NewPiece) → kids ≡ [] → Finishes hash read kids None old old
  unfolding EachIs
  finish_none kids old none = record {
    news = [];
    grown = sym (append-nil old);
    named = tt;
    told = λ m levels place before are deep for. record {
      stands = false_from_ne_true _ (λ met.
          let next = next_met m place are (omega (arith, deep)) met in
          let small : next.0 < 256 = next.1 in
          let nothing : for.at next.0 ≡ None = sym (at_byte-table for.at next.0 0 256 (omega arith) (omega (arith, small)))
          ∙ ap (at_byte next.0) (sym for.same ∙ ap (map kid_pair) none) in
          let unmet : has_under (finite.entries m) (place ++ next.0 ∷ []) ≡ false =
          subst (IsFor hash (IsRead read) (IsReadOr read before) (finite.entries m) levels (place ++ next.0 ∷ [])) nothing (for.each next.0 small) in
          true≢false (sym next.2 ∙ unmet));
      only = tt;
    };
  }

  -- ---- one kid

  some_is : {x y : List ℕ} → Some x ≡ Some y → x ≡ y
  some_is e = cc

  none_is : {x : List ℕ} → None ≡ Some x → ⊥
  none_is e = cc

  one_told : (es : Entries) (levels : ℕ) (place : List ℕ) (before : List NewPiece) (kid : Kid) (answer : Option Run) → levels < 35
      → OpensOnlyKid read kid answer → next_bytes es place ≡ kid.byte ∷ [] → has_under es (place ++ kid.byte ∷ []) ≡ true
      → IsFor hash (IsRead read) (IsReadOr read before) es levels (place ++ kid.byte ∷ []) (Some kid.lower)
      → Stands hash (IsReadOr read (before ++ [])) es (suc levels) place answer
  unfolding IsTold
  one_told es levels place before kid None low goes one met for =
      let told = opened_told hash read (IsReadOr read before) (read_old read before) es levels (place ++ kid.byte ∷ []) kid.lower goes.0 goes.1 goes.2 for in
      elim goes.3 [
        | inl none ↦ absurd (none_is (sym none ∙ told.1))
        | inr long ↦
            let short = told_short hash (IsReadOr read before) es levels (place ++ kid.byte ∷ []) goes.0 told.0 told.2 in
            absurd (omega (arith, long, short, low))
      ]
  one_told es levels place before kid (Some run) low goes one met for =
      let told = opened_told hash read (IsReadOr read before) (read_old read before) es levels (place ++ kid.byte ∷ []) kid.lower goes.0 (Some run.bottom) goes.1 for in
      let below : IsTold hash (IsReadOr read before) es levels (place ++ kid.byte ∷ []) goes.0 run.bottom =
      subst (IsTold hash (IsReadOr read before) es levels (place ++ kid.byte ∷ []) goes.0) (sym (some_is told.1)) told.2 in
      let whole : IsTold hash (IsReadOr read before) es (suc levels) place (kid.byte ∷ goes.0) run.bottom = (one, below) in (
        has_under-shorter es place (kid.byte ∷ []) met,
        IsTold-more hash (IsReadOr read before) (IsReadOr read (before ++ [])) (read_left read before []) es (suc levels) place run.path.items run.bottom
            (subst (λ q. IsTold hash (IsReadOr read before) es (suc levels) place q run.bottom) (sym goes.2) whole),
      )

  pub finish_one : (kids : List Kid) (kid : Kid) (answer : Option Run) (old : List NewPiece) → kids ≡ kid ∷ [] → OpensOnlyKid read kid answer
      → Finishes hash read kids answer old old
  unfolding EachIs
  finish_one kids kid answer old single goes = record {
    news = [];
    grown = sym (append-nil old);
    named = tt;
    told = λ m levels place before are deep for.
        let one : next_bytes (finite.entries m) place ≡ kid.byte ∷ [] =
        next_bytes_are hash (IsRead read) (IsReadOr read before) (finite.entries m) levels place kids for ∙ ap kid_bytes single in
        let first = next_first (finite.entries m) place kid.byte [] one in
        let small : kid.byte < 256 = first.0 in
        let here : for.at kid.byte ≡ Some kid.lower = sym (at_byte-table for.at kid.byte 0 256 (omega arith) (omega (arith, small)))
        ∙ ap (at_byte kid.byte) (sym for.same ∙ ap (map kid_pair) single) ∙ ap (λ t. cond t (Some kid.lower) None) (eq-eqb kid.byte kid.byte refl) in
        record {
          stands = one_told (finite.entries m) levels place before kid answer (omega (arith, deep)) goes one first.1
              (subst (IsFor hash (IsRead read) (IsReadOr read before) (finite.entries m) levels (place ++ kid.byte ∷ [])) here (for.each kid.byte small));
          only = tt;
        };
  }

  -- ---- a fork

  pub made_told : (R : List ℕ → Entry → Type 0) (es : Entries) (levels : ℕ) (place path bottom : List ℕ) → IsTold hash R es levels place path bottom
      → (path ≡ []) ⊎ R (hash_up hash path bottom) (OfRun path bottom) → IsToldBy hash R es levels place (hash_at hash R es levels place)
  made_told R es levels place [] bottom told kept = inl (subst (IsTold hash R es levels place []) (told_hash hash R es levels place [] bottom told) told)
  made_told R es levels place (c ∷ path) bottom told kept = elim kept [
    | inl none ↦ absurd cc
    | inr new ↦ inr (c, path, bottom, subst (λ h. R h (OfRun (c ∷ path) bottom)) (told_hash hash R es levels place (c ∷ path) bottom told) new, told)
  ]

  closed_told : (es : Entries) (levels : ℕ) (place : List ℕ) (before news : List NewPiece) (o : Option Lower)
      → IsFor hash (IsRead read) (IsReadOr read before) es levels place o → ((lower : Lower) → o ≡ Some lower → IsClosed hash news lower)
      → has_under es place ≡ true → IsToldBy hash (IsReadOr read (before ++ news)) es levels place (hash_at hash (IsRead read) es levels place)
  closed_told es levels place before news None for closed met = absurd (true≢false (sym met ∙ for))
  closed_told es levels place before news (Some (Held h)) for closed met =
      subst (IsToldBy hash (IsReadOr read (before ++ news)) es levels place) for.1
      (IsToldBy-more hash (IsRead read) (IsReadOr read (before ++ news)) (read_old read (before ++ news)) es levels place h for.2)
  closed_told es levels place before news (Some (Made run)) for closed met =
      let c = closed (Made run) refl in
      made_told (IsReadOr read (before ++ news)) es levels place run.path.items run.bottom
      (IsTold-more hash (IsReadOr read before) (IsReadOr read (before ++ news)) (read_left read before news) es levels place run.path.items run.bottom for.1)
      (elim c [
        | inl none ↦ inl none
        | inr new ↦ inr (inr (among_right before news (hash_up hash run.path.items run.bottom) (OfRun run.path.items run.bottom) new))
      ])

  all_left : (xs ys : List NewPiece) (kids : List Kid) → AllByRecursion (λ kid. IsClosed hash xs kid.lower) kids
      → AllByRecursion (λ kid. IsClosed hash (xs ++ ys) kid.lower) kids
  all_left xs ys [] all = tt
  all_left xs ys (kid ∷ kids) all = (closed_left hash xs ys kid.lower all.0, all_left xs ys kids all.1)

  fork_told : (es : Entries) (levels : ℕ) (place : List ℕ) (before news : List NewPiece) (kids : List Kid) (node : Shape) (h : List ℕ)
      → AreFor hash (IsRead read) (IsReadOr read before) es levels place kids
      → AllByRecursion (λ kid. IsClosed hash news kid.lower) kids → node ≡ node_at hash es (suc levels) place → h ≡ hash (encoding_of node)
      → IsAmong news h (OfNode node) → IsTold hash (IsReadOr read (before ++ news)) es (suc levels) place [] h
  unfolding IsTold
  fork_told es levels place before news kids node h for closed is named new = (
    named ∙ ap (λ s. hash (encoding_of s)) is,
    subst (λ s. IsReadOr read (before ++ news) h (OfNode s)) is (inr (among_right before news h (OfNode node) new)),
    λ b lt met. closed_told es levels (place ++ b ∷ []) before news (for.at b) (for.each b lt)
        (λ lower e. all_in_table (IsClosed hash news) for.at 0 256 (subst (AllByRecursion (λ (e : ℕ × Lower). IsClosed hash news e.1)) for.same (closed_pairs hash news kids closed)) b lower
        (omega arith) (omega (arith, lt)) e) met,
  )

  -- the run that is made for a kid of a fork is a piece
  one_piece : (es : Entries) (levels : ℕ) (place : List ℕ) (before e : List NewPiece) (at : ℕ → Option Lower)
      → ((b : ℕ) → b < 256 → IsFor hash (IsRead read) (IsReadOr read before) es levels (place ++ b ∷ []) (at b))
      → length (next_bytes es place) ≢ 1 → (kid : Kid) (entry : Entry)
      → kid.byte < 256 → at kid.byte ≡ Some kid.lower → IsRunOf kid.lower entry
      → IsPieceBelow hash (IsReadOr read (before ++ e)) es (suc levels) place entry
  one_piece es levels place before e at each fork kid entry small here run =
      let for : IsFor hash (IsRead read) (IsReadOr read before) es levels (place ++ kid.byte ∷ []) (Some (Made run.0)) =
      subst (IsFor hash (IsRead read) (IsReadOr read before) es levels (place ++ kid.byte ∷ [])) (here ∙ ap Some run.1) (each kid.byte small) in
      below_more hash (IsReadOr read before) (IsReadOr read (before ++ e)) (read_left read before e) es (suc levels) place entry
      (subst (IsPieceBelow hash (IsReadOr read before) es (suc levels) place) (sym run.2)
      (run_below hash (IsReadOr read before) es levels place kid.byte (run.0).path.items (run.0).bottom for.0 for.1 fork))

  pieces_of : (es : Entries) (levels : ℕ) (place : List ℕ) (before e : List NewPiece) (at : ℕ → Option Lower)
      → ((b : ℕ) → b < 256 → IsFor hash (IsRead read) (IsReadOr read before) es levels (place ++ b ∷ []) (at b))
      → length (next_bytes es place) ≢ 1 → (kids : List Kid) (entry : Entry)
      → AllByRecursion (λ (p : ℕ × Lower). (p.0 < 256) × (at p.0 ≡ Some p.1)) (map kid_pair kids) → IsRunOfOne kids entry
      → IsPieceBelow hash (IsReadOr read (before ++ e)) es (suc levels) place entry
  pieces_of es levels place before e at each fork [] entry all one = absurd one
  pieces_of es levels place before e at each fork (kid ∷ kids) entry all one = elim one [
    | inl here ↦ one_piece es levels place before e at each fork kid entry (all.0).0 (all.0).1 here
    | inr rest ↦ pieces_of es levels place before e at each fork kids entry all.1 rest
  ]

  of_node : {s t : Shape} → OfNode s ≡ OfNode t → s ≡ t
  of_node e = cc

  pub finish_more : (kids : List Kid) (children : List Child) (node : Shape) (run : Run) (old mid new : List NewPiece) → kids ≢ []
      → ClosesAll hash kids children old mid → node ≡ node_with (map pair_of children) → AddsPiece hash (OfNode node) run.bottom mid new → run.path.items ≡ []
      → Finishes hash read kids (Some run) old new
  unfolding EachIs
  finish_more [] children node run old mid new some all node_is adds end = absurd (some refl)
  finish_more (k ∷ ks) children node run old mid new some all node_is adds end =
      let news = all.news ++ adds.made ∷ [] in
      let named : adds.made.hash ≡ hash (encoding_of node) = adds.named ∙ ap (entry_hash hash) adds.is in
      record {
        news = all.news ++ adds.made ∷ [];
        grown = adds.more ∙ ap (λ xs. xs ++ adds.made ∷ []) all.grown ∙ append_assoc old all.news (adds.made ∷ []);
        named = named_both hash all.news (adds.made ∷ []) all.named ((adds.named, adds.whole), tt);
        told = λ m levels place before are deep for.
            let es = finite.entries m in
            let bytes = next_bytes_are hash (IsRead read) (IsReadOr read before) (finite.entries m) levels place (k ∷ ks) for in
            let first = next_first (finite.entries m) place k.byte (kid_bytes ks) bytes in
            let fork : length (next_bytes (finite.entries m) place) ≢ 1 = λ one. subst (λ e. IsWhole e) adds.is adds.whole
            (ap (λ (s : Shape). length s.children) node_is ∙ child_count hash (k ∷ ks) children old mid all ∙ sym (ap length bytes) ∙ one) in
            let same : node ≡ node_at hash (finite.entries m) (suc levels) place =
            node_is ∙ node_made hash (IsRead read) (IsReadOr read before) (finite.entries m) levels place (k ∷ ks) (map pair_of children) all.pairs for in
            let whole : IsTold hash (IsReadOr read (before ++ news)) (finite.entries m) (suc levels) place [] adds.made.hash =
            fork_told (finite.entries m) levels place before news (k ∷ ks) node adds.made.hash for (all_left all.news (adds.made ∷ []) (k ∷ ks) all.closed) same named
            (among_right all.news (adds.made ∷ []) adds.made.hash (OfNode node) (inl (refl, adds.is))) in
            let met : has_under (finite.entries m) place ≡ true = has_under-shorter (finite.entries m) place (k.byte ∷ []) first.1 in
            let in_table = subst (AllByRecursion (λ (p : ℕ × Lower). (p.0 < 256) × (for.at p.0 ≡ Some p.1))) (sym for.same) (table_is for.at 0 256 (omega arith)) in
            record {
              stands = (
                met,
                subst (λ q. IsTold hash (IsReadOr read (before ++ news)) (finite.entries m) (suc levels) place q run.bottom) (sym end)
                    (subst (IsTold hash (IsReadOr read (before ++ news)) (finite.entries m) (suc levels) place []) (sym adds.here) whole),
              );
              only = each_both (λ e entry. IsPieceBelow hash (IsReadOr read e) (finite.entries m) (suc levels) place entry) before all.news (adds.made ∷ [])
                  (each_after (λ e entry. IsRunOfOne (k ∷ ks) entry)
                  (λ e entry. IsPieceBelow hash (IsReadOr read e) (finite.entries m) (suc levels) place entry) before
                  (λ e entry one. pieces_of (finite.entries m) levels place before e for.at for.each fork (k ∷ ks) entry in_table one) all.news all.runs) (
                    subst (IsPieceBelow hash (IsReadOr read (before ++ all.news)) (finite.entries m) (suc levels) place) (sym adds.is)
                        (node_here hash (IsReadOr read (before ++ all.news)) (finite.entries m) (suc levels) place node met same),
                    tt,
                  );
            };
      }

-- ---- lists of no element and of one

pub only_element : (kids : List Kid) (kid : Kid) → 1 ≤ length kids → length kids < 2 → kid ≡ get_or kids 0 kid → kids ≡ kid ∷ []
only_element [] kid some few is = absurd (omega (arith, some))
only_element (k ∷ []) kid some few is = ap (λ (x : Kid). x ∷ []) (sym is)
only_element (k ∷ l ∷ ks) kid some few is = absurd (omega (arith, few))

pub not_nil : (kids : List Kid) → length kids ≢ 0 → kids ≢ []
not_nil kids some none = some (ap length none)
