-- The entries of a finite map.
use Rattle.std.proofs.Common.{◌≡◌, ℕ, Bool, true, false, not, ◌&&◌, T, List, [], ◌∷◌, Ordering, refl, sym, ◌∙◌}
use Rattle.std.specs.Ordering.{nat_cmp, is_lt, is_eq}
use Rattle.std.specs.declared.cmp.Ordering.TheVariants.{Less, Equal, Greater}
use Rattle.std.specs.Cmp.Lexicographic.{slice_cmp, nat_list_cmp_total}
use Rattle.std.specs.Str.{bytes_eq}
use Rattle.std.specs.FinMap as finite
use Rattle.std.specs.FinMap.Entries.{below_all, is_sorted}
use Rattle.std.proofs.lemmas.Bool.{and_from, not_from_false, or_from}
use Rattle.std.proofs.lemmas.Map.Lookups.{exact_bytes}
use Rattle.saw_messages.specs.Distinct.{are_distinct}
use Rattle.saw_xo.specs.Games.{Games}
use Rattle.saw_xo.proofs.Lookups.{Entries}
use Rattle.saw_xo.proofs.Distinct.{is_among}
use Rattle.saw_xo.proofs.Gathered.{names_of, is_at-bytes_eq}

both : (a b : Bool) → T (a && b) → T a × T b
both true b h = (tt, h)
both false b h = absurd h

not_equal : (r : Ordering) → T (is_lt r) → is_eq r ≡ false
not_equal Less h = refl
not_equal Equal h = absurd h
not_equal Greater h = absurd h

not_among : (name : List ℕ) (entries : Entries) → T (below_all (slice_cmp nat_cmp) name entries) → is_among name (names_of entries) ≡ false
not_among name [] h = refl
not_among name (entry ∷ entries) h =
    let parts = both (is_lt (slice_cmp nat_cmp name entry.0)) (below_all (slice_cmp nat_cmp) name entries) h in
    or_from (bytes_eq entry.0 name) (is_among name (names_of entries))
    (sym (is_at-bytes_eq name entry.0) ∙ not_equal (slice_cmp nat_cmp name entry.0) parts.0) (not_among name entries parts.1)

sorted_distinct : (entries : Entries) → T (is_sorted (slice_cmp nat_cmp) entries) → are_distinct (names_of entries) ≡ true
sorted_distinct [] h = refl
sorted_distinct (entry ∷ entries) h =
    let parts = both (below_all (slice_cmp nat_cmp) entry.0 entries) (is_sorted (slice_cmp nat_cmp) entries) h in
    and_from (not (is_among entry.0 (names_of entries))) (are_distinct (names_of entries))
    (not_from_false (is_among entry.0 (names_of entries)) (not_among entry.0 entries parts.0)) (sorted_distinct entries parts.1)

-- the names of games all differ
pub entries_distinct : (games : Games) → are_distinct (names_of (finite.entries games)) ≡ true
entries_distinct games = sorted_distinct (finite.entries games) (finite.entries_sorted games)

-- games are those of their entries
pub from_entries-entries : (games : Games) → finite.from_entries (finite.entries games) ≡ games
from_entries-entries games =
    finite.same_map nat_list_cmp_total exact_bytes (finite.from_entries (finite.entries games)) games
    (λ q. finite.get-from_entries nat_list_cmp_total (finite.entries games) q ∙ sym (finite.get-entries games q))
