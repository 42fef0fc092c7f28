-- What clap keeps of the options that were given.
use Rattle.std.proofs.Common.{◌≡◌, Bool, true, false, not, cond, List, [], ◌∷◌, ◌++◌, map, Some, None, refl, ap, ◌∙◌}
use Rattle.std.specs.Cmp.Lexicographic.{nat_list_eq_equiv}
use Rattle.std.specs.List.{find, fold, list_all, list_any, slice_get}
use Rattle.std.specs.Option.{option_and_then}
use Rattle.std.specs.Str.{bytes_eq}
use Rattle.std.proofs.lemmas.Bool.{and_from, and_parts, not-true, or_from, or_parts}
use Rattle.clap.specs.Values.{reading_of}
use Rattle.clap.specs.Walk.{Row, Text, first_of, has_row, used, with_default}
use Rattle.clap.specs.declared.parser.matches.ValueSource.TheVariants.{CommandLine}
use Rattle.clap.specs.declared.builder.value_parser.ValueParser.TheVariants as vp
use Rattle.saw_messages.specs.Distinct.{are_distinct}
use Rattle.saw_words.specs.Given.{Given, is_known, names_of, value_of}
use Rattle.saw_words.proofs.ClapRules.{ready_rule, ready_rules}

-- the row of an option
abbrev pub row_for : Given → Row
row_for one = record {
  id = one.0;
  values = one.1 ∷ [];
  count = None;
  source = Some CommandLine;
  reading = reading_of vp.String;
}

abbrev pub rows_for : List Given → List Row
rows_for given = map row_for given

-- an option that has no row yet gets one at the end
pub row_added : (name text : Text) (rows : List Row) → has_row name rows ≡ false
    → used (ready_rule name) (text ∷ []) rows ≡ rows ++ row_for (name, text) ∷ []
row_added name text [] none = refl
row_added name text (row ∷ rows) none =
    let parts = or_parts (bytes_eq row.id name) (has_row name rows) none in
    rw (parts.0, parts.0) (ap (λ rs. row ∷ rs) (row_added name text rows parts.1))

-- what a name's row says is what is given for it
pub first_given : (name : Text) (given : List Given) → first_of name (rows_for given) ≡ value_of name given
first_given name [] = refl
first_given name (one ∷ given) = go (bytes_eq one.0 name) (first_given name given)
  where
    go : (b : Bool) → first_of name (rows_for given) ≡ value_of name given
        → option_and_then (λ (r : Row). slice_get r.values 0) (cond b (Some (row_for one)) (find (λ r. bytes_eq r.id name) (rows_for given)))
        ≡ cond b (Some one.1) (value_of name given)
    go true e = refl
    go false e = e

-- options have no default
pub no_defaults : (names : List Text) (rows : List Row) → fold with_default rows (ready_rules names) ≡ rows
no_defaults [] rows = refl
no_defaults (name ∷ names) rows = go (has_row name rows) (no_defaults names rows)
  where
    go : (b : Bool) → fold with_default rows (ready_rules names) ≡ rows → fold with_default (cond b rows rows) (ready_rules names) ≡ rows
    go true e = e
    go false e = e

-- ---- options that go on from those of which there are rows

-- no option has a row already
abbrev pub are_fresh : List Given → List Given → Bool
are_fresh done given = list_all (λ one. not (has_row one.0 (rows_for done))) given

-- options of known names, each given once and for the first time
pub record Follows (names : List Text) (done given : List Given) : Type 0 where
  pub known : list_all (is_known names) given ≡ true
  pub distinct : are_distinct (names_of given) ≡ true
  pub fresh : are_fresh done given ≡ true

-- one more row is that of the new name
row_more : (name : Text) (done : List Given) (one : Given) → has_row name (rows_for done) ≡ false → bytes_eq name one.0 ≡ false
    → has_row name (rows_for (done ++ one ∷ [])) ≡ false
row_more name [] one none differs =
    let back : bytes_eq one.0 name ≡ false = nat_list_eq_equiv.symm one.0 name ∙ differs in
    rw back refl
row_more name (other ∷ done) one none differs =
    let parts = or_parts (bytes_eq other.0 name) (has_row name (rows_for done)) none in
    or_from _ _ parts.0 (row_more name done one parts.1 differs)

fresh_more : (done given : List Given) (one : Given) → are_fresh done given ≡ true → list_any (λ other. bytes_eq other one.0) (names_of given) ≡ false
    → are_fresh (done ++ one ∷ []) given ≡ true
fresh_more done [] one fresh apart = refl
fresh_more done (next ∷ given) one fresh apart =
    let old = and_parts (not (has_row next.0 (rows_for done))) (are_fresh done given) fresh in
    let new = or_parts (bytes_eq next.0 one.0) (list_any (λ other. bytes_eq other one.0) (names_of given)) apart in
    and_from _ _ (ap not (row_more next.0 done one (not-true _ old.0) new.0)) (fresh_more done given one old.1 new.1)

-- what is so of the first option
pub record Next (names : List Text) (done : List Given) (one : Given) (given : List Given) : Type 0 where
  pub known : is_known names one ≡ true
  pub fresh : has_row one.0 (rows_for done) ≡ false
  pub later : Follows names (done ++ one ∷ []) given

pub next_of : (names : List Text) (done : List Given) (one : Given) (given : List Given) → Follows names done (one ∷ given) → Next names done one given
next_of names done one given follows =
    let known = and_parts (is_known names one) (list_all (is_known names) given) follows.known in
    let distinct = and_parts (not (list_any (λ other. bytes_eq other one.0) (names_of given))) (are_distinct (names_of given)) follows.distinct in
    let fresh = and_parts (not (has_row one.0 (rows_for done))) (are_fresh done given) follows.fresh in
    record {
      known = known.0;
      fresh = not-true _ fresh.0;
      later = record {
        known = known.1;
        distinct = distinct.1;
        fresh = fresh_more done given one fresh.1 (not-true _ distinct.0);
      };
    }

-- at the beginning there are no rows
pub follows_none : (names : List Text) (given : List Given) → list_all (is_known names) given ≡ true → are_distinct (names_of given) ≡ true
    → Follows names [] given
follows_none names given known distinct = record { known = known; distinct = distinct; fresh = all given }
  where
    all : (some : List Given) → are_fresh [] some ≡ true
    all [] = refl
    all (one ∷ some) = all some
