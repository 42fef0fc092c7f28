-- What is kept is read back.
use Rattle.std.proofs.Common.{◌≡◌, ℕ, true, not, eqb, List, [], ◌∷◌, map, length, Some, None, refl, sym, ap, ◌∙◌, arith}
use Rattle.std.specs.List.{AllByRecursion, join_with_byte}
use Rattle.std.specs.Str.{is_utf8}
use Rattle.std.specs.FinMap as finite
use Rattle.std.proofs.lemmas.Bool.{cond-true, cond-false, ne_eqb, not_from_true}
use Rattle.std.proofs.lemmas.List.{length-append}
use Rattle.std.proofs.lemmas.Str.{is_utf8-from_IsUtf8}
use Rattle.saw_messages.specs.Distinct.{are_distinct}
use Rattle.saw_xo.specs.Games.{Games, all_of, entry_in, entry_text, entries_in, games_by, games_of, kept_bytes}
use Rattle.saw_xo.specs.Laws.{IsEntry, KeptIsRead}
use Rattle.saw_xo.specs.declared.game.Game.{Game}
use Rattle.saw_xo.proofs.Ascii.{texts_utf8}
use Rattle.saw_xo.proofs.Cuts.{parts_of-join}
use Rattle.saw_xo.proofs.Gathered.{names_of}
use Rattle.saw_xo.proofs.Joins.{some_entry}
use Rattle.saw_xo.proofs.Lookups.{Entries}
use Rattle.saw_xo.proofs.Sorted.{entries_distinct, from_entries-entries}
use Rattle.saw_xo.proofs.Written.{entry_lacks_bars, texts_lack_bars, all_of-texts}

entries_in-join : (entry : List ℕ × Game) (entries : Entries) → AllByRecursion IsEntry (entry ∷ entries)
    → entries_in (join_with_byte 124 (map entry_text (entry ∷ entries))) ≡ Some (entry ∷ entries)
entries_in-join entry entries all =
    ap (λ parts. all_of (map entry_in parts)) (parts_of-join 124 (entry_text entry) (map entry_text entries) (entry_lacks_bars entry all.0)
    (texts_lack_bars entries all.1))
    ∙ all_of-texts (entry ∷ entries) all

some_join : (entry : List ℕ × Game) (entries : Entries) → length (join_with_byte 124 (map entry_text (entry ∷ entries))) ≡ 0 → ⊥
some_join entry [] e = omega (arith, some_entry entry, e)
some_join entry (next ∷ entries) e = omega (arith, length-append (entry_text entry) (124 ∷ join_with_byte 124 (map entry_text (next ∷ entries))), e)

games_of-text : (whole : List ℕ) → (length whole ≡ 0 → ⊥) → is_utf8 whole ≡ true → games_of whole ≡ games_by (entries_in whole)
unfolding games_of
games_of-text whole some utf8 =
    cond-false (eqb (length whole) 0) (Some finite.empty) _ (ne_eqb (length whole) 0 some)
    ∙ cond-false (not (is_utf8 whole)) None (games_by (entries_in whole)) (not_from_true (is_utf8 whole) utf8)

games_by-entries : (games : Games) → games_by (Some (finite.entries games)) ≡ Some games
games_by-entries games =
    cond-true (are_distinct (names_of (finite.entries games))) (Some (finite.from_entries (finite.entries games))) None (entries_distinct games)
    ∙ ap Some (from_entries-entries games)

kept_some : (games : Games) (entry : List ℕ × Game) (entries : Entries) → finite.entries games ≡ entry ∷ entries
    → AllByRecursion IsEntry (entry ∷ entries) → games_of (kept_bytes games) ≡ Some games
unfolding kept_bytes
kept_some games entry entries is all =
    let whole = join_with_byte 124 (map entry_text (entry ∷ entries)) in
    ap (λ es. games_of (join_with_byte 124 (map entry_text es))) is
    ∙ games_of-text whole (some_join entry entries) (is_utf8-from_IsUtf8 whole (texts_utf8 (entry ∷ entries) all))
    ∙ ap games_by (entries_in-join entry entries all)
    ∙ ap (λ es. games_by (Some es)) (sym is)
    ∙ games_by-entries games

kept_none : (games : Games) → finite.entries games ≡ [] → games_of (kept_bytes games) ≡ Some games
unfolding kept_bytes games_of
kept_none games is =
    ap (λ es. games_of (join_with_byte 124 (map entry_text es))) is ∙ ap Some (sym (finite.empty_of_len games (finite.len-entries games ∙ ap length is)))

kept_by : (games : Games) (entries : Entries) → finite.entries games ≡ entries → AllByRecursion IsEntry entries → games_of (kept_bytes games) ≡ Some games
kept_by games [] is all = kept_none games is
kept_by games (entry ∷ entries) is all = kept_some games entry entries is all

pub kept_is_read : KeptIsRead
kept_is_read games all = kept_by games (finite.entries games) refl all
