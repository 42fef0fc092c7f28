-- The kids of a node, group by group of the changes below it.
use Rattle.std.proofs.Common.{◌≡◌, ◌≢◌, ℕ, zero, suc, ◌+◌, ◌-◌, ◌<◌, ◌≤◌, true, false, cond, List, [], ◌∷◌, ◌++◌, length, map, take, drop, get_or, refl, sym, ap, ◌∙◌, subst, arith, append_assoc, nat_eq, Option, Some, None, inl, inr}
use Rattle.std.specs.Option.{option_map}
use Rattle.std.specs.Prelude.{is_some}
use Rattle.std.specs.List.{AllByRecursion}
use Rattle.std.specs.List.Sorted.{IsStrictlySortedBy}
use Rattle.std.specs.Ordering.{nat_cmp}
use Rattle.std.specs.FinMap as finite
use Rattle.std.proofs.lemmas.Bool.{cases_eq, eq-eqb, ne_eqb, eqb-true, and_parts}
use Rattle.std.proofs.lemmas.List.{append-nil, take_all}
use Rattle.std.proofs.lemmas.Slice.Eq.{bytes_eq-Decides}
use Rattle.saw_address.specs.Maps.{StateMap, changed_at, is_address, value_at}
use Rattle.saw_address.specs.Prefixes.{covers}
use Rattle.saw_address.proofs.Finite.{value_at-changed_at}
use Rattle.saw_context.specs.Outcome.{map_after}
use Rattle.saw_messages.specs.declared.outcome.Change.{Change}
use Rattle.saw_node.specs.Nodes.{encoding_of}
use Rattle.saw_node.specs.Trees.{has_under, node_at}
use Rattle.saw_runs.specs.Places.{AreAddressed}
use Rattle.saw_runs.specs.Places.{EndsGroup, Fits, byte_of}
use Rattle.saw_runs.specs.Places.{IsEdge}
use Rattle.saw_runs.proofs.Changed.{changes_under, Agree-changes, addressed_after, under-append}
use Rattle.saw_runs.proofs.Nexts.{covers_same, has_at, is_group, next_edge}
use Rattle.saw_runs.proofs.Groups.{IsGroup, group_fits, long_members, members_under, none_before, none_other, take_group}
use Rattle.saw_runs.proofs.Local.{Agree, leaf_with}
use Rattle.saw_runs.proofs.Nexts.{byte_is_small}
use Rattle.saw_runs.specs.Entries.{Entry, AreNamed, IsRead, IsReadOr, entry_hash}
use Rattle.saw_runs.specs.Entries.Entry.{OfNode}
use Rattle.saw_runs.specs.Told.{IsTold}
use Rattle.saw_runs.specs.Tables.{at_byte, replaced, table, with_at}
use Rattle.saw_runs.specs.Lowers.{AreFor, AreKidsOf, IsFor, IsOpened, Reads, Stands, kid_pair}
use Rattle.saw_runs.specs.Changes.{ChangesBelow, ChangesLeaf, Finishes, StandsWith}
use Rattle.saw_runs.specs.Pieces.{ArePieces, EachIs, IsPieceBelow}
use Rattle.saw_runs.specs.declared.run.Run.{Run}
use Rattle.saw_runs.specs.declared.pieces.NewPiece.{NewPiece}
use Rattle.saw_runs.specs.declared.lowers.Lower.{Lower}
use Rattle.saw_runs.specs.declared.lowers.Lower.TheVariants.{Made}
use Rattle.saw_runs.specs.declared.lowers.Kid.{Kid}
use Rattle.saw_runs.proofs.Among.{named_both, read_left, read_old, read_right}
use Rattle.saw_runs.proofs.Fors.{for_Agree, for_answer, for_more, opened_reads, start_kids}
use Rattle.saw_runs.proofs.InOrder.{kids_rise}
use Rattle.saw_runs.proofs.Piecing.{below_Agree, below_child, below_more, each_after, each_both, each_map, node_here}
use Rattle.saw_runs.proofs.Tabled.{at_byte-table, replaced-table}

-- ---- where the changes of a group show

module _ (changes : List Change) (levels : ℕ) (m : StateMap) (place : List ℕ) (i e b : ℕ) (fits : Fits (suc levels) place changes)
    (group : IsGroup place changes i e b) where
  abbrev pub of_group : List Change
  of_group = take (e - i) (drop i changes)

  under_b : changes_under (place ++ b ∷ []) of_group ≡ changes_under (place ++ b ∷ []) (take e changes)
  under_b = sym (ap (changes_under (place ++ b ∷ [])) (take_group levels place changes i e b fits group)
      ∙ under-append (place ++ b ∷ []) (take i changes) of_group
      ∙ ap (λ xs. xs ++ changes_under (place ++ b ∷ []) of_group) (none_before levels place changes i e b fits group))

  pub under_other : (c : ℕ) → c ≢ b → changes_under (place ++ c ∷ []) (take i changes) ≡ changes_under (place ++ c ∷ []) (take e changes)
  under_other c other = sym
      (ap (changes_under (place ++ c ∷ [])) (take_group levels place changes i e b fits group) ∙ under-append (place ++ c ∷ []) (take i changes) of_group
      ∙ ap (λ xs. changes_under (place ++ c ∷ []) (take i changes) ++ xs) (none_other levels place changes i e b fits group c other) ∙ append-nil _)

  pub agree_group : Agree (finite.entries (map_after m of_group)) (finite.entries (map_after m (take e changes))) (place ++ b ∷ [])
  agree_group = Agree-changes m of_group (take e changes) (place ++ b ∷ []) under_b

  pub agree_other : (c : ℕ) → c ≢ b → Agree (finite.entries (map_after m (take i changes))) (finite.entries (map_after m (take e changes))) (place ++ c ∷ [])
  agree_other c other = Agree-changes m (take i changes) (take e changes) (place ++ c ∷ []) (under_other c other)

  pub touched_now : changes_under (place ++ b ∷ []) (take e changes) ≢ []
  touched_now none =
      let all : changes_under (place ++ b ∷ []) of_group ≡ of_group = filter_all of_group (members_under levels place changes i e b fits group) in
      let size = long_members levels place changes i e b fits group in
      let w = group.within in
      let empty : length of_group ≡ 0 = ap length (sym all ∙ under_b ∙ none) in
      omega (arith, size, w, empty)
    where
      filter_all : (xs : List Change) → AllByRecursion (λ change. covers (place ++ b ∷ []) change.address ≡ true) xs → changes_under (place ++ b ∷ []) xs ≡ xs
      filter_all [] all = refl
      filter_all (x ∷ xs) all = (λ j. cond (all.0 j) (x ∷ changes_under (place ++ b ∷ []) xs) (changes_under (place ++ b ∷ []) xs))
          ∙ ap (λ ys. x ∷ ys) (filter_all xs all.1)

-- ---- the kids so far

-- a piece below a byte for which there was a change
pub record IsPlaced (hash : List ℕ → List ℕ) (read : List ℕ → Option Entry) (changes : List Change) (levels : ℕ) (m : StateMap) (place : List ℕ) (i : ℕ)
    (before : List NewPiece) (entry : Entry) : Type 0 where
  pub byte : ℕ
  pub touched : changes_under (place ++ byte ∷ []) (take i changes) ≢ []
  pub below : IsPieceBelow hash (IsReadOr read before) (finite.entries (map_after m (take i changes))) levels (place ++ byte ∷ []) entry

-- the kids are those of the map after the first i changes; where none of these is, they are as they were read
pub record KidsAt (hash : List ℕ → List ℕ) (read : List ℕ → Option Entry) (changes : List Change) (levels : ℕ) (m : StateMap) (place : List ℕ) (i : ℕ)
    (kids : List Kid) (news : List NewPiece) : Type 0 where
  pub at : ℕ → Option Lower
  pub same : map kid_pair kids ≡ table at 0 256
  pub each : (b : ℕ) → b < 256 → IsFor hash (IsRead read) (IsReadOr read news) (finite.entries (map_after m (take i changes))) levels (place ++ b ∷ []) (at b)
  pub untouched : (b : ℕ) → b < 256 → changes_under (place ++ b ∷ []) (take i changes) ≡ []
      → IsFor hash (IsRead read) (IsRead read) (finite.entries m) levels (place ++ b ∷ []) (at b)
  pub only : EachIs (IsPlaced hash read changes levels m place i) [] news

module _ (hash : List ℕ → List ℕ) (read : List ℕ → Option Entry) (changes : List Change) (levels : ℕ) (m : StateMap) (place : List ℕ) where
  pub kids_first : (path : List ℕ) (before : Option (List ℕ)) (kids : List Kid) → AreKidsOf read path before kids
      → Reads hash (IsRead read) (finite.entries m) (suc levels) place path before → KidsAt hash read changes levels m place 0 kids []
  unfolding EachIs
  kids_first path before kids are reads =
      let start = start_kids hash read (finite.entries m) levels place path before kids are reads in
      record {
        at = start.at;
        same = start.same;
        each = λ b lt. for_more hash (IsRead read) (IsRead read) (IsReadOr read []) (read_old read []) (finite.entries m) levels (place ++ b ∷ []) (start.at b) (start.each b lt);
        untouched = λ b lt none. start.each b lt;
        only = tt;
      }

  module _ (i e b : ℕ) (fits : Fits (suc levels) place changes) (group : IsGroup place changes i e b) (small : b < 256) where
    -- what is opened at the group's byte is what the map had there
    pub kid_reads : (kids : List Kid) (news : List NewPiece) (path : List ℕ) (bottom : Option (List ℕ)) → KidsAt hash read changes levels m place i kids news
        → IsOpened read (at_byte b (map kid_pair kids)) path bottom → Reads hash (IsRead read) (finite.entries m) levels (place ++ b ∷ []) path bottom
    kid_reads kids news path bottom walk opens =
        let here : at_byte b (map kid_pair kids) ≡ walk.at b = ap (at_byte b) walk.same ∙ at_byte-table walk.at b 0 256 (omega arith) (omega (arith, small)) in
        opened_reads hash read (finite.entries m) levels (place ++ b ∷ []) (walk.at b) path bottom (subst (λ o. IsOpened read o path bottom) here opens)
        (walk.untouched b small (none_before levels place changes i e b fits group))

    -- one group more
    pub kids_next : (kids after : List Kid) (news more : List NewPiece) (answer : Option Run) → KidsAt hash read changes levels m place i kids news
        → StandsWith hash read (finite.entries (map_after m (take (e - i) (drop i changes)))) levels (place ++ b ∷ []) answer more
        → map kid_pair after ≡ replaced b (option_map Made answer) (map kid_pair kids)
        → KidsAt hash read changes levels m place e after (news ++ more)
    kids_next kids after news more answer walk stands is = record {
      at = with_at walk.at b (option_map Made answer);
      same = is ∙ ap (replaced b (option_map Made answer)) walk.same ∙ replaced-table b (option_map Made answer) walk.at 0 256 (omega arith) (omega (arith, small));
      each = λ c lt. elim (cases_eq c b) [
        | inl equal ↦ subst (λ x. IsFor hash (IsRead read) (IsReadOr read (news ++ more)) (finite.entries (map_after m (take e changes))) levels (place ++ x ∷ []) (with_at walk.at b (option_map Made answer) x)) (sym equal)
            (subst (λ t. IsFor hash (IsRead read) (IsReadOr read (news ++ more)) (finite.entries (map_after m (take e changes))) levels (place ++ b ∷ []) (cond t (option_map Made answer) (walk.at b)))
            (sym (eq-eqb b b refl))
            (for_more hash (IsRead read) (IsReadOr read more) (IsReadOr read (news ++ more)) (read_right read news more) (finite.entries (map_after m (take e changes))) levels (place ++ b ∷ [])
            (option_map Made answer)
            (for_Agree hash (IsRead read) (IsReadOr read more) _ (finite.entries (map_after m (take e changes))) levels (place ++ b ∷ []) (option_map Made answer)
            (agree_group changes levels m place i e b fits group)
            (for_answer hash (IsRead read) (IsReadOr read more) _ levels (place ++ b ∷ []) answer stands.stands))))
        | inr other ↦ subst (λ t. IsFor hash (IsRead read) (IsReadOr read (news ++ more)) (finite.entries (map_after m (take e changes))) levels (place ++ c ∷ []) (cond t (option_map Made answer) (walk.at c)))
            (sym (ne_eqb c b other))
            (for_more hash (IsRead read) (IsReadOr read news) (IsReadOr read (news ++ more)) (read_left read news more) (finite.entries (map_after m (take e changes))) levels (place ++ c ∷ []) (walk.at c)
            (for_Agree hash (IsRead read) (IsReadOr read news) _ (finite.entries (map_after m (take e changes))) levels (place ++ c ∷ []) (walk.at c) (agree_other changes levels m place i e b fits group c other)
            (walk.each c lt)))
      ];
      untouched = λ c lt none. elim (cases_eq c b) [
        | inl equal ↦ absurd (touched_now changes levels m place i e b fits group (ap (λ x. changes_under (place ++ x ∷ []) (take e changes)) (sym equal) ∙ none))
        | inr other ↦ subst (λ t. IsFor hash (IsRead read) (IsRead read) (finite.entries m) levels (place ++ c ∷ []) (cond t (option_map Made answer) (walk.at c)))
            (sym (ne_eqb c b other)) (walk.untouched c lt (under_other changes levels m place i e b fits group c other ∙ none))
      ];
      only = each_both (IsPlaced hash read changes levels m place e) [] news more
          (each_map (IsPlaced hash read changes levels m place i) (IsPlaced hash read changes levels m place e) placed_still [] news walk.only)
          (each_after _ (IsPlaced hash read changes levels m place e) news placed_now more stands.only);
    }
      where
        -- what was placed before lies below another byte
        placed_still : (before : List NewPiece) (entry : Entry) → IsPlaced hash read changes levels m place i before entry
            → IsPlaced hash read changes levels m place e before entry
        placed_still before entry placed =
            let other : placed.byte ≢ b = λ equal. placed.touched
            (ap (λ d. changes_under (place ++ d ∷ []) (take i changes)) equal ∙ none_before levels place changes i e b fits group) in
            record {
              byte = placed.byte;
              touched = λ none. placed.touched (under_other changes levels m place i e b fits group placed.byte other ∙ none);
              below = below_Agree hash (IsReadOr read before) _ _ levels (place ++ placed.byte ∷ []) entry
                  (agree_other changes levels m place i e b fits group placed.byte other) placed.below;
            }

        placed_now : (before : List NewPiece) (entry : Entry)
            → IsPieceBelow hash (IsReadOr read before) (finite.entries (map_after m (take (e - i) (drop i changes)))) levels (place ++ b ∷ []) entry
            → IsPlaced hash read changes levels m place e (news ++ before) entry
        placed_now before entry below = record {
          byte = b;
          touched = touched_now changes levels m place i e b fits group;
          below = below_more hash (IsReadOr read before) (IsReadOr read (news ++ before)) (read_right read news before) _ levels (place ++ b ∷ []) entry
              (below_Agree hash (IsReadOr read before) _ (finite.entries (map_after m (take e changes))) levels (place ++ b ∷ []) entry
              (agree_group changes levels m place i e b fits group) below);
        }

-- what was made so far, whatever the map
pub record Walked (hash : List ℕ → List ℕ) (read : List ℕ → Option Entry) (changes : List Change) (levels depth : ℕ) (path : List ℕ)
    (before : Option (List ℕ)) (old mid : List NewPiece) (i : ℕ) (kids : List Kid) : Type 0 where
  pub news : List NewPiece
  pub grown : mid ≡ old ++ news
  pub named : AreNamed hash news
  pub told : (m : StateMap) (place : List ℕ) → AreAddressed m → Fits (suc levels) place changes
      → Reads hash (IsRead read) (finite.entries m) (suc levels) place path before → KidsAt hash read changes levels m place i kids news
  pub rising : IsStrictlySortedBy nat_cmp (map (λ kid. kid.byte) kids)
  pub edge : IsEdge depth changes i
  pub within : i ≤ length changes

module _ (hash : List ℕ → List ℕ) (read : List ℕ → Option Entry) (changes : List Change) (levels depth : ℕ) (path : List ℕ) (before : Option (List ℕ))
    (old : List NewPiece) where
  pub walked_first : (kids : List Kid) → AreKidsOf read path before kids → IsStrictlySortedBy nat_cmp (map (λ kid. kid.byte) kids)
      → Walked hash read changes levels depth path before old old 0 kids
  walked_first kids are rising = record {
    news = [];
    grown = sym (append-nil old);
    named = tt;
    told = λ m place addressed fits reads. kids_first hash read changes levels m place path before kids are reads;
    rising = rising;
    edge = λ d some lt same. absurd (omega (arith, some));
    within = omega arith;
  }

  -- one group more
  pub walked_next : (mid new : List NewPiece) (i e b : ℕ) (here : Change) (kids after : List Kid) (below : List ℕ) (bottom : Option (List ℕ)) (answer : Option Run)
      → depth + suc levels ≡ 35 → EndsGroup depth changes i e → b ≡ byte_of depth (get_or changes i here) → b < 256
      → IsOpened read (at_byte b (map kid_pair kids)) below bottom
      → ChangesBelow hash read (take (e - i) (drop i changes)) levels below bottom answer mid new
      → map kid_pair after ≡ replaced b (option_map Made answer) (map kid_pair kids)
      → Walked hash read changes levels depth path before old mid i kids → Walked hash read changes levels depth path before old new e after
  walked_next mid new i e b here kids after below bottom answer level group is_byte small opens changed is walk = record {
    news = walk.news ++ changed.news;
    grown = changed.grown ∙ ap (λ xs. xs ++ changed.news) walk.grown ∙ append_assoc old walk.news changed.news;
    named = named_both hash walk.news changed.news walk.named changed.named;
    told = λ m place are fits reads.
        let deep = fits.deep in
        let size : depth ≡ length place = omega (arith, deep, level) in
        let whole : IsGroup place changes i e b = subst (IsGroup place changes i e) (ap (λ n. byte_of n (get_or changes i here)) (sym size) ∙ sym is_byte)
        (is_group levels place changes i e here fits (subst (λ n. EndsGroup n changes i e) size group) (subst (λ n. IsEdge n changes i) size walk.edge)) in
        let at = walk.told m place are fits reads in
        let stands = changed.told m (place ++ b ∷ []) are (group_fits levels place changes i e b fits whole)
        (kid_reads hash read changes levels m place i e b fits whole small kids walk.news below bottom at opens) in
        kids_next hash read changes levels m place i e b fits whole small kids after walk.news changed.news answer at stands is;
    rising = kids_rise b (option_map Made answer) kids after is walk.rising;
    edge = next_edge depth changes i e group;
    within = group.ends;
  }

  -- behind the last group
  pub walked_end : (mid new : List NewPiece) (i : ℕ) (kids : List Kid) (answer : Option Run) → length changes ≤ i → Finishes hash read kids answer mid new
      → Walked hash read changes levels depth path before old mid i kids → ChangesBelow hash read changes (suc levels) path before answer old new
  walked_end mid new i kids answer all finishes walk = record {
    news = walk.news ++ finishes.news;
    grown = finishes.grown ∙ ap (λ xs. xs ++ finishes.news) walk.grown ∙ append_assoc old walk.news finishes.news;
    named = named_both hash walk.news finishes.news walk.named finishes.named;
    told = λ m place are fits reads.
        let at = walk.told m place are fits reads in
        let whole : take i changes ≡ changes = take_all i changes all in
        let for : AreFor hash (IsRead read) (IsReadOr read walk.news) (finite.entries (map_after m (take i changes))) levels place kids =
        record { at = at.at; same = at.same; each = at.each } in
        let ends = finishes.told (map_after m changes) levels place walk.news (addressed_after m changes fits.are are) fits.deep
        (subst (λ cs. AreFor hash (IsRead read) (IsReadOr read walk.news) (finite.entries (map_after m cs)) levels place kids) whole for) in
        let walked : ArePieces hash read (finite.entries (map_after m (take i changes))) (suc levels) place [] walk.news =
        each_map (IsPlaced hash read changes levels m place i)
        (λ before entry. IsPieceBelow hash (IsReadOr read before) (finite.entries (map_after m (take i changes))) (suc levels) place entry)
        (λ before entry placed. below_child hash (IsReadOr read before) _ levels place placed.byte entry placed.below) [] walk.news at.only in
        record {
          stands = ends.stands;
          only = each_both _ [] walk.news finishes.news
              (subst (λ cs. ArePieces hash read (finite.entries (map_after m cs)) (suc levels) place [] walk.news) whole walked) ends.only;
        };
  }

-- ---- at an address

last_value : (m : StateMap) (place : List ℕ) (changes : List Change) (j : ℕ) (d : Change) → suc j ≡ length changes
    → AllByRecursion (λ change. change.address ≡ place) changes → value_at (map_after m changes) place ≡ (get_or changes j d).value
last_value m place [] j d e all = absurd (omega (arith, e))
last_value m place (x ∷ []) zero d e all = value_at-changed_at m x.address x.value place
    ∙ ap (λ t. cond t x.value (value_at m place)) ((bytes_eq-Decides x.address place).1 all.0)
last_value m place (x ∷ []) (suc j) d e all = absurd (omega (arith, e))
last_value m place (x ∷ y ∷ xs) zero d e all = absurd (omega (arith, e))
last_value m place (x ∷ y ∷ xs) (suc j) d e all = last_value (changed_at m x.address x.value) place (y ∷ xs) j d (omega (arith, e)) all.1

all_here : (place : List ℕ) (changes : List Change) → length place ≡ 35 → AllByRecursion (λ change. covers place change.address ≡ true) changes
    → AllByRecursion (λ change. is_address change.address ≡ true) changes → AllByRecursion (λ change. change.address ≡ place) changes
all_here place [] size under are = tt
all_here place (x ∷ changes) size under are =
    let long : length x.address ≡ 35 = eqb-true (length x.address) 35 (and_parts (nat_eq (length x.address) 35) _ are.0).0 in
    (covers_same place x.address under.0 (long ∙ sym size), all_here place changes size under.1 are.1)

value_here : (m : StateMap) (place : List ℕ) (changes : List Change) (j : ℕ) (d : Change) → suc j ≡ length changes → Fits 0 place changes
    → value_at (map_after m changes) place ≡ (get_or changes j d).value
value_here m place changes j d e fits = let deep = fits.deep in last_value m place changes j d e
    (all_here place changes (omega (arith, deep)) fits.under fits.are)

module _ (hash : List ℕ → List ℕ) (read : List ℕ → Option Entry) (changes : List Change) (path : List ℕ) (before : Option (List ℕ)) (j : ℕ) (d : Change)
    (last : suc j ≡ length changes) where
  leaf_told : (value : Option (List ℕ)) (answer : Option Run) (old new : List NewPiece) → (get_or changes j d).value ≡ value → ChangesLeaf hash value answer old new
      → ChangesBelow hash read changes 0 path before answer old new
  unfolding IsTold node_at EachIs
  leaf_told None answer old new none changed = record {
    news = [];
    grown = changed.1 ∙ sym (append-nil old);
    named = tt;
    told = λ m place are fits reads.
        let deep = fits.deep in
        let size : length place ≡ 35 = omega (arith, deep) in
        let unmet : has_under (finite.entries (map_after m changes)) place ≡ false =
        has_at (map_after m changes) place (addressed_after m changes fits.are are) size ∙ ap is_some (value_here m place changes j d last fits ∙ none) in
        record {
          stands = subst (Stands hash (IsReadOr read []) (finite.entries (map_after m changes)) 0 place) (sym changed.0) unmet;
          only = tt;
        };
  }
  leaf_told (Some value) None old new some changed = absurd changed
  leaf_told (Some value) (Some run) old new some changed =
      let adds = changed.adds in
      let named : adds.made.hash ≡ hash (encoding_of (leaf_with (Some value))) = adds.named ∙ ap (entry_hash hash) adds.is in
      record {
        news = adds.made ∷ [];
        grown = adds.more;
        named = ((adds.named, adds.whole), tt);
        told = λ m place are fits reads.
            let deep = fits.deep in
            let size : length place ≡ 35 = omega (arith, deep) in
            let after = map_after m changes in
            let found : value_at after place ≡ Some value = value_here m place changes j d last fits ∙ some in
            let met : has_under (finite.entries after) place ≡ true = has_at after place (addressed_after m changes fits.are are) size ∙ ap is_some found in
            let same : leaf_with (Some value) ≡ node_at hash (finite.entries after) 0 place = ap leaf_with (sym found ∙ finite.get-entries after place) in
            let whole : IsTold hash (IsReadOr read (adds.made ∷ [])) (finite.entries after) 0 place [] adds.made.hash =
            (named ∙ ap (λ s. hash (encoding_of s)) same, inr (inl (refl, adds.is ∙ ap OfNode same))) in
            record {
              stands = (
                met,
                subst (λ q. IsTold hash (IsReadOr read (adds.made ∷ [])) (finite.entries after) 0 place q run.bottom) (sym changed.path)
                    (subst (IsTold hash (IsReadOr read (adds.made ∷ [])) (finite.entries after) 0 place []) (sym adds.here) whole),
              );
              only = (
                subst (IsPieceBelow hash (IsReadOr read []) (finite.entries after) 0 place) (sym adds.is)
                    (node_here hash (IsReadOr read []) (finite.entries after) 0 place (leaf_with (Some value)) met same),
                tt,
              );
            };
      }

  pub leaf_here : (levels : ℕ) (value : Option (List ℕ)) (answer : Option Run) (old new : List NewPiece) → levels ≡ 0 → (get_or changes j d).value ≡ value
      → ChangesLeaf hash value answer old new → ChangesBelow hash read changes levels path before answer old new
  leaf_here levels value answer old new low is changed =
      subst (λ n. ChangesBelow hash read changes n path before answer old new) (sym low) (leaf_told value answer old new is changed)

-- ---- with as many levels as there are

up : (levels : ℕ) → 0 < levels → suc (levels - 1) ≡ levels
up levels some = omega (arith, some)

module _ (hash : List ℕ → List ℕ) (read : List ℕ → Option Entry) (changes : List Change) (levels : ℕ) (path : List ℕ) (before : Option (List ℕ))
    (old : List NewPiece) (some : 0 < levels) where
  pub walked_here : (mid new : List NewPiece) (i e b : ℕ) (here : Change) (bytes : List ℕ) (kids after : List Kid) (below : List ℕ) (bottom : Option (List ℕ))
      (answer : Option Run)
      → levels ≤ 35 → EndsGroup (35 - levels) changes i e → here ≡ get_or changes i here → bytes ≡ here.address
      → b ≡ get_or bytes (35 - levels) 0 → is_address here.address ≡ true
      → IsOpened read (at_byte b (map kid_pair kids)) below bottom
      → ChangesBelow hash read (take (e - i) (drop i changes)) (levels - 1) below bottom answer mid new
      → map kid_pair after ≡ replaced b (option_map Made answer) (map kid_pair kids)
      → Walked hash read changes (levels - 1) (35 - levels) path before old mid i kids
      → Walked hash read changes (levels - 1) (35 - levels) path before old new e after
  walked_here mid new i e b here bytes kids after below bottom answer deep group is_here is_bytes is_byte is_one opens changed is walk =
      let byte : b ≡ byte_of (35 - levels) here = is_byte ∙ ap (λ bs. get_or bs (35 - levels) 0) is_bytes in
      let small = byte_is_small levels b here some is_one byte in
      let byte_here : b ≡ byte_of (35 - levels) (get_or changes i here) = byte ∙ ap (byte_of (35 - levels)) is_here in
      walked_next hash read changes (levels - 1) (35 - levels) path before old mid new i e b here kids after below bottom answer (omega (arith, some, deep)) group
      byte_here small opens changed is walk

  pub walked_through : (mid new : List NewPiece) (i : ℕ) (kids : List Kid) (answer : Option Run) → length changes ≤ i → Finishes hash read kids answer mid new
      → Walked hash read changes (levels - 1) (35 - levels) path before old mid i kids → ChangesBelow hash read changes levels path before answer old new
  walked_through mid new i kids answer all finishes walk =
      subst (λ n. ChangesBelow hash read changes n path before answer old new) (up levels some)
      (walked_end hash read changes (levels - 1) (35 - levels) path before old mid new i kids answer all finishes walk)
