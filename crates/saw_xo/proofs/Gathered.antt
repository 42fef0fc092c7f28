-- Entries that are put into a map one after another, each name new.
use Rattle.std.proofs.Common.{◌≡◌, ℕ, ◌+◌, ◌<◌, true, false, ◌||◌, List, [], ◌∷◌, ◌++◌, map, length, take, drop, get_or, Option, Some, None, is_some}
use Rattle.std.proofs.Common.{refl, sym, ap, ◌∙◌}
use Rattle.std.specs.Ordering.{nat_cmp}
use Rattle.std.specs.Cmp.{eq_by_cmp_equiv}
use Rattle.std.specs.Cmp.Lexicographic.{slice_cmp, nat_list_cmp_total, texts_ties}
use Rattle.std.specs.List.{list_any}
use Rattle.std.specs.Str.{bytes_eq}
use Rattle.std.specs.BTreeMap.{is_at}
use Rattle.std.specs.FinMap as finite
use Rattle.std.proofs.lemmas.Bool.{cond-true, cond-false, false≢true}
use Rattle.std.proofs.lemmas.List.{map-append, map-id, map_push, take-append-drop, drop_more}
use Rattle.std.proofs.lemmas.Map.Lookups.{exact_bytes}
use Rattle.std.proofs.lemmas.Map.Made.{is_some-lookup}
use Rattle.saw_address.proofs.Finite.{find-lookup, get-map_of, map_inserted}
use Rattle.saw_messages.specs.Distinct.{are_distinct}
use Rattle.saw_xo.specs.Games.{games_by}
use Rattle.saw_xo.specs.declared.game.Game.{Game}
use Rattle.saw_xo.proofs.Lookups.{Entries, has, Differs}
use Rattle.saw_xo.proofs.Distinct.{is_among, are_distinct-push, not_distinct}

abbrev pub names_of : Entries → List (List ℕ)
names_of entries = map (λ entry. entry.0) entries

-- the map's entries are those read so far
pub record IsRead (held so_far : Entries) : Type 0 where
  pub distinct : are_distinct (names_of so_far) ≡ true
  pub same : finite.from_entries {R = slice_cmp nat_cmp} held ≡ finite.from_entries so_far

pub none_read : (held : Entries) → held ≡ [] → IsRead held []
none_read held e = record { distinct = refl; same = ap (finite.from_entries {R = slice_cmp nat_cmp}) e }

-- the order of texts ties exactly equal ones
pub is_at-bytes_eq : (name other : List ℕ) → is_at (slice_cmp nat_cmp name) other ≡ bytes_eq other name
is_at-bytes_eq name other = (eq_by_cmp_equiv nat_list_cmp_total).symm name other ∙ sym (texts_ties other name)

any-is_among : (name : List ℕ) (names : List (List ℕ)) → list_any (is_at (slice_cmp nat_cmp name)) names ≡ is_among name names
any-is_among name [] = refl
any-is_among name (other ∷ names) =
    ap (λ b. b || list_any (is_at (slice_cmp nat_cmp name)) names) (is_at-bytes_eq name other) ∙ ap (λ b. bytes_eq other name || b) (any-is_among name names)

has-is_among : (name : List ℕ) (entries : Entries) → is_some (has entries name) ≡ is_among name (names_of entries)
has-is_among name entries = is_some-lookup (is_at (slice_cmp nat_cmp name)) entries ∙ any-is_among name (names_of entries)

has-same : (held so_far : Entries) (name : List ℕ) → finite.from_entries {R = slice_cmp nat_cmp} held ≡ finite.from_entries so_far
    → has so_far name ≡ has held name
has-same held so_far name e = sym (get-map_of so_far name) ∙ ap (λ m. finite.get m name) (sym e) ∙ get-map_of held name

none_there : (o : Option Game) → is_some o ≡ false → o ≡ None
none_there (Some game) e = absurd (false≢true (sym e))
none_there None e = refl

pub one_more : (held new so_far : Entries) (name : List ℕ) (game : Game) → IsRead held so_far → is_some (has held name) ≡ false
    → Differs held new name (Some game) → IsRead new (so_far ++ (name, game) ∷ [])
one_more held new so_far name game read absent updates =
    let there = has-same held so_far name read.same in
    let fresh : is_among name (names_of so_far) ≡ false = sym (has-is_among name so_far) ∙ ap is_some there ∙ absent in
    let none = find-lookup name so_far ∙ there ∙ none_there (has held name) absent in
    record {
      distinct = ap are_distinct (map_push (λ entry. entry.0) so_far (name, game)) ∙ are_distinct-push (names_of so_far) name read.distinct fresh;
      same = map_inserted held new name game updates ∙ ap (λ m. finite.insert m name game) read.same
          ∙ sym (finite.from_entries_push nat_list_cmp_total exact_bytes so_far name game none);
    }

-- an entry whose name stands before
pub again : (held so_far rest : Entries) (name : List ℕ) (game : Game) → IsRead held so_far → is_some (has held name) ≡ true
    → games_by (Some (so_far ++ (name, game) ∷ rest)) ≡ None
again held so_far rest name game read there =
    let all = so_far ++ (name, game) ∷ rest in
    let stands : is_among name (names_of so_far) ≡ true = sym (has-is_among name so_far) ∙ ap is_some (has-same held so_far name read.same) ∙ there in
    cond-false (are_distinct (names_of all)) (Some (finite.from_entries all)) None
    (ap are_distinct (map-append (λ entry. entry.0) so_far ((name, game) ∷ rest)) ∙ not_distinct (names_of so_far) name (names_of rest) stands)

pub all_read : (held all : Entries) → IsRead held all → Some (finite.from_entries held) ≡ games_by (Some all)
all_read held all read = ap Some read.same ∙ sym (cond-true (are_distinct (names_of all)) (Some (finite.from_entries all)) None read.distinct)

-- a list with an element in the middle
pub cut_at : {A : Type 0} (all front : List A) (x : A) → map (λ y. y) front ≡ take (length front) all → (length front < length all)
    × (x ≡ get_or all (length front) x) → all ≡ front ++ x ∷ drop (length front + 1) all
cut_at all front x before h =
    sym (take-append-drop (length front) all)
    ∙ ap (λ xs. xs ++ drop (length front) all) (sym before ∙ map-id front)
    ∙ ap (λ xs. front ++ xs) (drop_more all (length front) x h.0 ∙ ap (λ y. y ∷ drop (length front + 1) all) (sym h.1))
