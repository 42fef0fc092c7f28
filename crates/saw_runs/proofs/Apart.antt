-- Groups that were worked on apart, put together in order.
use Rattle.std.proofs.Common.{◌≡◌, ℕ, suc, ◌+◌, ◌-◌, ◌<◌, ◌≤◌, true, List, [], ◌∷◌, ◌++◌, length, map, take, drop, get_or, refl, sym, ap, ◌∙◌, subst, arith, append_assoc, Option, None}
use Rattle.std.specs.Prelude.{IfOk}
use Rattle.std.specs.Option.{option_map}
use Rattle.std.specs.List.{AllByRecursion}
use Rattle.std.specs.List.Sorted.{IsStrictlySortedBy}
use Rattle.std.specs.Ordering.{nat_cmp}
use Rattle.std.specs.FinMap as finite
use Rattle.std.proofs.lemmas.List.Elements.{recursion_from_All, All-from_recursion}
use Rattle.saw_address.specs.Maps.{Entries, is_address}
use Rattle.saw_messages.specs.declared.outcome.Change.{Change}
use Rattle.saw_runs.specs.Places.{EndsGroup, FitsSome, byte_of}
use Rattle.saw_runs.specs.Places.{IsEdge}
use Rattle.saw_runs.specs.Entries.{Entry, IsRead}
use Rattle.saw_runs.specs.Tables.{at_byte, replaced}
use Rattle.saw_runs.specs.Lowers.{AreFor, AreKidsOf, IsOpened, Reads, kid_pair}
use Rattle.saw_runs.specs.Changes.{ChangesBelow, Finishes}
use Rattle.saw_runs.specs.Parts.{ArePartsOf, AreReady, Follow, IsPart, PutsPart, WasRun, WereRun, members_of}
use Rattle.saw_runs.specs.declared.run.Run.{Run}
use Rattle.saw_runs.specs.declared.pieces.NewPiece.{NewPiece}
use Rattle.saw_runs.specs.declared.lowers.Lower.TheVariants.{Made}
use Rattle.saw_runs.specs.declared.lowers.Kid.{Kid}
use Rattle.saw_runs.specs.declared.sharing.Part.{Part}
use Rattle.saw_runs.proofs.Among.{named_both}
use Rattle.saw_runs.proofs.Fors.{opened_reads, start_kids}
use Rattle.saw_runs.proofs.Groups.{IsGroup, group_fits}
use Rattle.saw_runs.proofs.InOrder.{kids_rise}
use Rattle.saw_runs.proofs.Nexts.{fits_group, is_group, next_edge, whole_group}
use Rattle.saw_runs.proofs.Tabled.{at_byte-table}
use Rattle.saw_runs.proofs.Walking.{Walked, kids_next, walked_first, walked_here, walked_through}

abbrev no_change : Change
no_change = record { address = []; value = None }

-- what is opened of the first kids is what the map had there
first_reads : (hash : List ℕ → List ℕ) (read : List ℕ → Option Entry) (es : Entries) (levels b : ℕ) (place path : List ℕ)
    (before : Option (List ℕ)) (start : List Kid) (below : List ℕ) (bottom : Option (List ℕ)) → b < 256 → AreKidsOf read path before start
    → IsOpened read (at_byte b (map kid_pair start)) below bottom → Reads hash (IsRead read) es (suc levels) place path before
    → Reads hash (IsRead read) es levels (place ++ b ∷ []) below bottom
first_reads hash read es levels b place path before start below bottom small are opens reads =
    let for : AreFor hash (IsRead read) (IsRead read) es levels place start = start_kids hash read es levels place path before start are reads in
    let here : at_byte b (map kid_pair start) ≡ for.at b = ap (at_byte b) for.same ∙ at_byte-table for.at b 0 256 (omega arith) (omega (arith, small)) in
    opened_reads hash read es levels (place ++ b ∷ []) (for.at b) below bottom (subst (λ o. IsOpened read o below bottom) here opens) (for.each b small)

-- one group more, below what was opened of the first kids
pub walked_apart : (hash : List ℕ → List ℕ) (read : List ℕ → Option Entry) (changes : List Change) (levels depth : ℕ) (path : List ℕ) (before : Option (List ℕ))
    (old mid new more : List NewPiece) (i e b : ℕ) (here : Change) (start kids after : List Kid) (below : List ℕ) (bottom : Option (List ℕ)) (answer : Option Run)
    → depth + suc levels ≡ 35 → EndsGroup depth changes i e → b ≡ byte_of depth (get_or changes i here) → b < 256
    → AreKidsOf read path before start → IsOpened read (at_byte b (map kid_pair start)) below bottom
    → ChangesBelow hash read (take (e - i) (drop i changes)) levels below bottom answer [] more → new ≡ mid ++ more
    → map kid_pair after ≡ replaced b (option_map Made answer) (map kid_pair kids)
    → Walked hash read changes levels depth path before old mid i kids → Walked hash read changes levels depth path before old new e after
walked_apart hash read changes levels depth path before old mid new more i e b here start kids after below bottom answer level group is_byte small are_start
    opens changed is_new is walk = record {
      news = walk.news ++ changed.news;
      grown = is_new ∙ ap (λ xs. mid ++ xs) changed.grown ∙ ap (λ xs. xs ++ changed.news) walk.grown ∙ append_assoc old walk.news changed.news;
      named = named_both hash walk.news changed.news walk.named changed.named;
      told = λ m place are fits reads.
          let deep = fits.deep in
          let size : depth ≡ length place = omega (arith, deep, level) in
          let whole : IsGroup place changes i e b = subst (IsGroup place changes i e) (ap (λ n. byte_of n (get_or changes i here)) (sym size) ∙ sym is_byte)
          (is_group levels place changes i e here fits (subst (λ n. EndsGroup n changes i e) size group) (subst (λ n. IsEdge n changes i) size walk.edge)) in
          let stands = changed.told m (place ++ b ∷ []) are (group_fits levels place changes i e b fits whole)
          (first_reads hash read (finite.entries m) levels b place path before start below bottom small are_start opens reads) in
          kids_next hash read changes levels m place i e b fits whole small kids after walk.news changed.news answer (walk.told m place are fits reads) stands is;
      rising = kids_rise b (option_map Made answer) kids after is walk.rising;
      edge = next_edge depth changes i e group;
      within = group.ends;
    }

-- ---- lists of parts

pub follow_more : (i e : ℕ) (parts : List Part) (part : Part) → Follow i parts e → part.at ≡ e → Follow i (parts ++ part ∷ []) part.end
follow_more i e [] part follow is = (is ∙ sym follow, refl)
follow_more i e (x ∷ parts) part follow is = (follow.0, follow_more x.end e parts part follow.1 is)

-- the groups of changes that fit may be worked on
pub ready_from : (read : List ℕ → Option Entry) (levels : ℕ) (kids : List Kid) (changes : List Change) (parts : List Part) → 0 < levels → FitsSome levels changes
    → ArePartsOf read (35 - levels) kids changes parts → AreReady (levels - 1) changes parts
ready_from read levels kids changes parts some fits are i d lt =
    let p = All-from_recursion (IsPart read (35 - levels) kids changes) parts are.each i d lt in
    record {
      within = p.group.within;
      ends = p.group.ends;
      short = p.short;
      none = p.none;
      fits = fits_group changes levels (get_or parts i d).at (get_or parts i d).end no_change some fits p.group p.edge;
    }

-- a part that was worked on
pub record HasRun (hash : List ℕ → List ℕ) (read : List ℕ → Option Entry) (levels depth : ℕ) (start : List Kid) (changes : List Change) (part : Part)
    : Type 0 where
  pub group : EndsGroup depth changes part.at part.end
  pub byte : (d : Change) → part.byte ≡ byte_of depth (get_or changes part.at d)
  pub small : part.byte < 256
  pub below : List ℕ
  pub bottom : Option (List ℕ)
  pub opened : IsOpened read (at_byte part.byte (map kid_pair start)) below bottom
  pub found : IfOk part.answer (λ answer. ChangesBelow hash read (members_of changes part) levels below bottom answer [] part.news.items)

module _ (hash : List ℕ → List ℕ) (read : List ℕ → Option Entry) (levels : ℕ) (changes : List Change) where
  has_run : (depth : ℕ) (start : List Kid) (old new : Part) → IsPart read depth start changes old → WasRun hash read levels changes old new
      → HasRun hash read levels depth start changes new
  has_run depth start old new is run = record {
    group = subst (λ a. EndsGroup depth changes a new.end) (sym run.at) (subst (λ e. EndsGroup depth changes old.at e) (sym run.end) is.group);
    byte = λ d. run.byte ∙ is.byte d ∙ ap (λ a. byte_of depth (get_or changes a d)) (sym run.at);
    small = let s = is.small in let b = run.byte in omega (arith, s, b);
    below = old.path.items;
    bottom = old.bottom;
    opened = subst (λ b. IsOpened read (at_byte b (map kid_pair start)) old.path.items old.bottom) (sym run.byte) is.opened;
    found = subst (λ xs. IfOk new.answer (λ answer. ChangesBelow hash read xs levels old.path.items old.bottom answer [] new.news.items))
        (sym members_same) run.found;
  }
    where
      members_same : members_of changes new ≡ members_of changes old
      members_same = λ i. take (run.end i - run.at i) (drop (run.at i) changes)

  all_have_run : (depth : ℕ) (start : List Kid) (old new : List Part) → length new ≡ length old → AllByRecursion (IsPart read depth start changes) old
      → WereRun hash read levels changes old new → AllByRecursion (HasRun hash read levels depth start changes) new
  all_have_run depth start old new size are run = recursion_from_All (HasRun hash read levels depth start changes) new (λ k d lt.
      let l : k < length old = omega (arith, lt, size) in
      has_run depth start (get_or old k d) (get_or new k d) (All-from_recursion (IsPart read depth start changes) old are k d l) (run k d l))

  follow_run : (i e : ℕ) (old new : List Part) → length new ≡ length old → WereRun hash read levels changes old new → Follow i old e → Follow i new e
  follow_run i e [] [] size run follow = follow
  follow_run i e [] (n ∷ new) size run follow = absurd (omega (arith, size))
  follow_run i e (o ∷ old) [] size run follow = absurd (omega (arith, size))
  follow_run i e (o ∷ old) (n ∷ new) size run follow =
      let first : WasRun hash read levels changes o n = run 0 o (omega arith) in (
        first.at ∙ follow.0,
        follow_run n.end e old new (omega (arith, size)) (λ k d lt. run (suc k) d (omega (arith, lt))) (subst (λ k. Follow k old e) (sym first.end) follow.1),
      )

-- ---- the parts that are left

pub record PartsLeft (hash : List ℕ → List ℕ) (read : List ℕ → Option Entry) (changes : List Change) (levels depth : ℕ) (path : List ℕ)
    (before : Option (List ℕ)) (old mid : List NewPiece) (kids : List Kid) (left : List Part) : Type 0 where
  pub at : ℕ
  pub walked : Walked hash read changes levels depth path before old mid at kids
  pub follow : Follow at left (length changes)
  pub start : List Kid
  pub are : AreKidsOf read path before start
  pub each : AllByRecursion (HasRun hash read levels depth start changes) left

module _ (hash : List ℕ → List ℕ) (read : List ℕ → Option Entry) (changes : List Change) (levels : ℕ) (path : List ℕ) (before : Option (List ℕ))
    (old : List NewPiece) where
  pub parts_first : (depth : ℕ) (kids : List Kid) (parts ran left : List Part) → AreKidsOf read path before kids
      → IsStrictlySortedBy nat_cmp (map (λ kid. kid.byte) kids) → ArePartsOf read depth kids changes parts → length ran ≡ length parts
      → WereRun hash read levels changes parts ran → left ≡ ran → PartsLeft hash read changes levels depth path before old old kids left
  parts_first depth kids parts ran left are rising parted size run is = record {
    at = 0;
    walked = walked_first hash read changes levels depth path before old kids are rising;
    follow = subst (λ ps. Follow 0 ps (length changes)) (sym is) (follow_run hash read levels changes 0 (length changes) parts ran size run parted.follow);
    start = kids;
    are = are;
    each = subst (AllByRecursion (HasRun hash read levels depth kids changes)) (sym is)
        (all_have_run hash read levels changes depth kids parts ran size parted.each run);
  }

  pub parts_next : (mid new : List NewPiece) (kids after : List Kid) (left rest : List Part) (part : Part) → 0 < levels → levels ≤ 35 → left ≡ part ∷ rest
      → PutsPart part kids after mid new → PartsLeft hash read changes (levels - 1) (35 - levels) path before old mid kids left
      → PartsLeft hash read changes (levels - 1) (35 - levels) path before old new after rest
  parts_next mid new kids after left rest part some deep is puts parts =
      let each = subst (AllByRecursion (HasRun hash read (levels - 1) (35 - levels) parts.start changes)) is parts.each in
      let follow = subst (λ ps. Follow parts.at ps (length changes)) is parts.follow in
      let walked = subst (λ n. Walked hash read changes (levels - 1) (35 - levels) path before old mid n kids) (sym follow.0) parts.walked in
      let run = each.0 in
      let below = subst (λ r. IfOk r
      (λ answer. ChangesBelow hash read (members_of changes part) (levels - 1) run.below run.bottom answer [] part.news.items))
      puts.found run.found in
      record {
        at = part.end;
        walked = walked_apart hash read changes (levels - 1) (35 - levels) path before old mid new part.news.items part.at part.end part.byte no_change parts.start
            kids after run.below run.bottom puts.answer (omega (arith, some, deep)) run.group (run.byte no_change) run.small parts.are run.opened below puts.more
            puts.put walked;
        follow = follow.1;
        start = parts.start;
        are = parts.are;
        each = each.1;
      }

  pub parts_end : (mid new : List NewPiece) (kids : List Kid) (left : List Part) (answer : Option Run) → 0 < levels → left ≡ []
      → Finishes hash read kids answer mid new → PartsLeft hash read changes (levels - 1) (35 - levels) path before old mid kids left
      → ChangesBelow hash read changes levels path before answer old new
  parts_end mid new kids left answer some none finishes parts =
      let all : parts.at ≡ length changes = subst (λ ps. Follow parts.at ps (length changes)) none parts.follow in
      walked_through hash read changes levels path before old some mid new parts.at kids answer (omega (arith, all)) finishes parts.walked

-- ---- one part alone

-- where all changes go down one byte, they are walked with what is below it
pub walked_all : (hash : List ℕ → List ℕ) (read : List ℕ → Option Entry) (changes : List Change) (levels : ℕ) (path : List ℕ) (before : Option (List ℕ))
    (old new : List NewPiece) (e b : ℕ) (here : Change) (bytes : List ℕ) (kids after : List Kid) (below : List ℕ) (bottom : Option (List ℕ))
    (answer : Option Run)
    → 0 < levels → levels ≤ 35 → EndsGroup (35 - levels) changes 0 e → length changes ≤ e → here ≡ get_or changes 0 here → bytes ≡ here.address
    → b ≡ get_or bytes (35 - levels) 0 → is_address here.address ≡ true → AreKidsOf read path before kids
    → IsStrictlySortedBy nat_cmp (map (λ kid. kid.byte) kids) → IsOpened read (at_byte b (map kid_pair kids)) below bottom
    → ChangesBelow hash read changes (levels - 1) below bottom answer old new
    → map kid_pair after ≡ replaced b (option_map Made answer) (map kid_pair kids)
    → Walked hash read changes (levels - 1) (35 - levels) path before old new e after
walked_all hash read changes levels path before old new e b here bytes kids after below bottom answer some deep group all is_here is_bytes is_byte is_one are
    rising opens changed is =
    walked_here hash read changes levels path before old some old new 0 e b here bytes kids after below bottom answer deep group is_here is_bytes is_byte
    is_one opens (subst (λ cs. ChangesBelow hash read cs (levels - 1) below bottom answer old new) (sym (whole_group changes e all)) changed) is
    (walked_first hash read changes (levels - 1) (35 - levels) path before old kids are rising)

-- a group that ends behind all ends with them
pub all_end : (depth : ℕ) (changes : List Change) (e : ℕ) → length changes ≤ e → EndsGroup depth changes 0 e → EndsGroup depth changes 0 (length changes)
all_end depth changes e all group =
    let ends = group.ends in
    let same : e ≡ length changes = omega (arith, all, ends) in
    subst (EndsGroup depth changes 0) same group
