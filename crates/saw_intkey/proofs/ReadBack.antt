-- What is kept is read back.
use Rattle.std.proofs.Common.{◌≡◌, ℕ, ◌≤◌, true, false, not, eqb, List, [], ◌∷◌, map, length, Some, None, Ok, refl, sym, ap, ◌∙◌, arith}
use Rattle.std.specs.Prelude.{nat_le, ◌||◌}
use Rattle.std.specs.List.{AllByRecursion, list_any}
use Rattle.std.specs.Str.{bytes_eq}
use Rattle.std.proofs.lemmas.Bool.{and_parts, cond-true, cond-false, le-leb, ne_eqb, not-true}
use Rattle.saw_cbor.specs.Data.{Cbor, pairs, pairs_count, pairs_nesting}
use Rattle.saw_cbor.specs.Reading.{head_at, item_at, reading}
use Rattle.saw_cbor.specs.Writing.{written, IsHeld, ArePairsHeld}
use Rattle.saw_cbor.proofs.Written.{written_back}
use Rattle.saw_messages.specs.Distinct.{are_distinct}
use Rattle.saw_intkey.specs.Laws.{IsCounter, KeptIsRead}
use Rattle.saw_intkey.specs.Payloads.{max_depth, max_value, number_in, pairs_in}
use Rattle.saw_intkey.specs.States.{Names, has_name, kept_bytes, names_by, names_in, names_of, pairs_of_names, with_entry}

number_fits : (n : ℕ) → n ≤ max_value → number_in n ≡ Some n
number_fits n le = cond-true (nat_le n max_value) (Some n) None (le-leb n max_value le)

any-names : (name : List ℕ) (names : Names) → list_any (λ other. bytes_eq other name) (map (λ entry. entry.0) names) ≡ has_name name names
any-names name [] = refl
any-names name (entry ∷ names) = ap (λ b. bytes_eq entry.0 name || b) (any-names name names)

-- pairs of names that differ say these names
names_in-pairs : (names : Names) → AllByRecursion IsCounter names → are_distinct (map (λ entry. entry.0) names) ≡ true
    → names_in (pairs_of_names names) ≡ Some names
names_in-pairs [] all distinct = refl
names_in-pairs (entry ∷ names) all distinct =
    let parts = and_parts (not (list_any (λ other. bytes_eq other entry.0) (map (λ entry. entry.0) names)))
    (are_distinct (map (λ entry. entry.0) names)) distinct in
    let fresh : has_name entry.0 names ≡ false = sym (any-names entry.0 names) ∙ not-true _ parts.0 in
    ap (λ rest. with_entry (Some entry.0) (number_in entry.1) rest) (names_in-pairs names all.1 parts.1)
    ∙ ap (λ value. with_entry (Some entry.0) value (Some names)) (number_fits entry.1 all.0.fits)
    ∙ cond-false (has_name entry.0 names) None (Some (entry ∷ names)) fresh

pairs_count-names : (names : Names) → pairs_count (pairs_of_names names) ≡ length names
pairs_count-names [] = refl
pairs_count-names (entry ∷ names) = omega (arith, pairs_count-names names)

are_held : (names : Names) → AllByRecursion IsCounter names → ArePairsHeld (pairs_of_names names)
are_held [] all = tt
are_held (entry ∷ names) all = ((all.0.short, all.0.utf8), omega (arith, all.0.fits), are_held names all.1)

flat : (names : Names) → pairs_nesting (pairs_of_names names) ≤ max_depth
flat [] = omega arith
flat (entry ∷ names) = omega (arith, flat names)

no_bytes : (whole : List ℕ) → length whole ≡ 0 → whole ≡ []
no_bytes [] e = refl
no_bytes (byte ∷ whole) e = absurd (omega (arith, e))

-- no bytes are no item
nothing_is_read : (c : Cbor) → reading max_depth [] ≡ Ok c → ⊥
unfolding reading item_at head_at
nothing_is_read c e = absurd cc

some_bytes : (c : Cbor) (whole : List ℕ) → reading max_depth whole ≡ Ok c → length whole ≡ 0 → ⊥
some_bytes c whole read e = nothing_is_read c (ap (reading max_depth) (sym (no_bytes whole e)) ∙ read)

names_of-bytes : (whole : List ℕ) → (length whole ≡ 0 → ⊥) → names_of whole ≡ names_by (pairs_in (reading max_depth whole))
unfolding names_of
names_of-bytes whole some = cond-false (eqb (length whole) 0) (Some []) (names_by (pairs_in (reading max_depth whole))) (ne_eqb (length whole) 0 some)

pub kept_is_read : KeptIsRead
unfolding kept_bytes
kept_is_read names all distinct few =
    let ps = pairs_of_names names in
    let held : IsHeld (pairs ps) = (omega (arith, few, pairs_count-names names), are_held names all) in
    let read = written_back max_depth (pairs ps) held (flat names) in
    names_of-bytes (written (pairs ps)) (some_bytes (pairs ps) (written (pairs ps)) read)
    ∙ ap (λ found. names_by (pairs_in found)) read
    ∙ names_in-pairs names all distinct
