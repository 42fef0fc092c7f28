-- The parse of words that are options of these names, each given at most once.
use Rattle.std.proofs.Common.{◌≡◌, Bool, true, false, List, [], ◌∷◌, ◌++◌, Option, Some, None, refl, sym, ap, ◌∙◌, subst, append_assoc, append-nil}
use Rattle.std.proofs.Common.{not, ◌||◌, IfSome}
use Rattle.std.specs.List.{AllByRecursion, list_all, list_any}
use Rattle.std.specs.Str.{bytes_eq}
use Rattle.std.proofs.lemmas.Bool.{and_from, and_parts}
use Rattle.std.proofs.lemmas.List.{map-append}
use Rattle.clap.specs.Walk.{Row, Rule, Text, has_row, nothing_held, rows_after, settled_rows, used, walk_from}
use Rattle.clap.specs.Lexer.{long_of}
use Rattle.clap.specs.Simple.{names_of as label_names}
use Rattle.clap.specs.Takes.{built_takes, default_passes, is_given, level_passes}
use Rattle.clap.specs.Words.{App, first_of, first_value, matches_of, rows_of, takes}
use Rattle.clap.specs.declared.parser.matches.Found.{Found}
use Rattle.clap.proofs.WalkLemmas.{first_value-rows}
use Rattle.clap.proofs.TakesLemmas.{leaf_takes}
use Rattle.saw_messages.specs.Distinct.{are_distinct}
use Rattle.saw_words.specs.Given.{Given, are_of, are_options, given_in, is_joined, is_known, is_value, name_part, names_of, one_more}
use Rattle.saw_words.specs.Given.{is_option_name, value_of, value_part}
use Rattle.saw_words.specs.Clap.{options_app}
use Rattle.saw_words.proofs.ClapRows.{Follows, first_given, follows_none, next_of, no_defaults, row_added, row_for, rows_for}
use Rattle.saw_words.proofs.ClapRules.{built_options, each_rule, id_found, long_found, options_simple, known_name, ready_app, ready_top, ready_rule}
use Rattle.saw_words.proofs.ClapRules.{ready_rules}
use Rattle.saw_words.proofs.ClapWords.{IsOptionName, all_parts, joined_word, name_word, value_word}
use Rattle.saw_words.proofs.ClapWalk.{Reads, Settles, awaiting, between, joined_passes, joined_walked, name_passes, name_walked, reads_more}
use Rattle.saw_words.proofs.ClapWalk.{reads_none, settles_none, settles_one, value_passes, value_walked}

-- ---- the first of the options that words are

-- the first option, and those behind it
record One (name text : Text) (rest : Option (List Given)) (given : List Given) : Type 0 where
  others : List Given
  fine : is_value text ≡ true
  later : rest ≡ Some others
  whole : given ≡ (name, text) ∷ others

one_of : (name text : Text) (rest : Option (List Given)) (given : List Given) → one_more name text rest ≡ Some given → One name text rest given
one_of name text rest given e = go (is_value text) refl rest refl
  where
    go : (b : Bool) → is_value text ≡ b → (more : Option (List Given)) → rest ≡ more → One name text rest given
    go false bad_text more is = absurd (let bad : None ≡ Some given = rw bad_text at e in cc)
    go true fine None is = absurd (let bad : None ≡ Some given = rw (fine, is) at e in cc)
    go true fine (Some others) is =
        let whole : Some ((name, text) ∷ others) ≡ Some given = rw (fine, is) at e in
        record { others = others; fine = fine; later = is; whole = (cc) }

-- the option that waits for its value is the first
first_known : (names : List Text) (name : Text) (words : List Text) (given : List Given) → given_in (Some name) words ≡ Some given
    → list_all (is_known names) given ≡ true → list_any (λ other. bytes_eq name other) names ≡ true
first_known names name [] given e known = absurd (cc)
first_known names name (text ∷ words) given e known =
    let one = one_of name text (given_in None words) given e in
    let all : list_all (is_known names) ((name, text) ∷ one.others) ≡ true = ap (list_all (is_known names)) (sym one.whole) ∙ known in
    (and_parts (is_known names (name, text)) (list_all (is_known names) one.others) all).0

-- ---- the walk over all words

module _ (names : List Text) (ok : AllByRecursion IsOptionName names) where
  -- the rules of the command
  abbrev c : List Rule
  c = ready_rules names

  -- from what is kept so far the walk goes on over these words, of which the first may be a value
  abbrev Goes : Option Text → List Text → Type 0
  Goes None words = (given done : List Given) (rows : List Row) (pending : Option (Text × List Text)) → given_in None words ≡ Some given
      → Follows names done given → Settles c rows pending done → Reads c (between rows pending) words (done ++ given)
  Goes (Some name) words = (given done : List Given) → given_in (Some name) words ≡ Some given → Follows names done given
      → Reads c (awaiting name (rows_for done)) words (done ++ given)

  -- a word that is the value of the option before it
  goes_value : (name text : Text) (words : List Text) → Goes None words → Goes (Some name) (text ∷ words)
  goes_value name text words later given done e follows =
      let one = one_of name text (given_in None words) given e in
      subst (λ (all : List Given). Reads c (awaiting name (rows_for done)) (text ∷ words) (done ++ all)) (sym one.whole)
      (made one.others one.fine one.later (subst (Follows names done) one.whole follows))
    where
      made : (others : List Given) → is_value text ≡ true → given_in None words ≡ Some others → Follows names done ((name, text) ∷ others)
          → Reads c (awaiting name (rows_for done)) (text ∷ words) (done ++ (name, text) ∷ others)
      made others fine rest follows =
          let next = next_of names done (name, text) others follows in
          let found = id_found names name next.known in
          let plain = value_word text fine in
          let rows_now = sym (map-append row_for done ((name, text) ∷ [])) in
          let end = settles_one c (rows_for done) name text (done ++ (name, text) ∷ []) found next.fresh rows_now in
          let reads = later others (done ++ (name, text) ∷ []) (rows_for done) (Some (name, text ∷ [])) rest next.later end in
          reads_more c (awaiting name (rows_for done)) (between (rows_for done) (Some (name, text ∷ []))) text words (done ++ (name, text) ∷ others)
          (value_passes c (rows_for done) name text plain) (value_walked c (rows_for done) name text plain found)
          (subst (λ (all : List Given). Reads c (between (rows_for done) (Some (name, text ∷ []))) words all)
          (append_assoc done ((name, text) ∷ []) others) reads)

  module _ (word : Text) (words : List Text) (done : List Given) (rows : List Row) (pending : Option (Text × List Text))
      (settles : Settles c rows pending done) where
    -- `--name=text`
    goes_joined : (others : List Given) → Goes None words → is_joined word ≡ true → given_in None words ≡ Some others
        → Follows names done ((name_part word, value_part word) ∷ others)
        → Reads c (between rows pending) (word ∷ words) (done ++ (name_part word, value_part word) ∷ others)
    goes_joined others later joined rest follows =
        let one : Given = (name_part word, value_part word) in
        let next = next_of names done one others follows in
        let is = known_name names one.0 ok next.known in
        let lexed = joined_word is.label word is.some joined is.spelled in
        let found = long_found names one.0 ok is next.known in
        let fresh : has_row one.0 (settled_rows c pending rows) ≡ false = ap (has_row one.0) settles.rows_are ∙ next.fresh in
        let rows_now = row_added one.0 one.1 (settled_rows c pending rows) fresh ∙ ap (λ rs. rs ++ row_for one ∷ []) settles.rows_are
        ∙ sym (map-append row_for done (one ∷ [])) in
        let after = used (ready_rule one.0) (one.1 ∷ []) (settled_rows c pending rows) in
        let reads = later others (done ++ one ∷ []) after None rest next.later (settles_none c after (done ++ one ∷ []) rows_now) in
        reads_more c (between rows pending) (between after None) word words (done ++ one ∷ others)
        (joined_passes c rows pending one.0 is.label word lexed.0 found one.1 lexed.1 settles.passes fresh)
        (joined_walked c rows pending one.0 is.label word lexed.0 found one.1 lexed.1)
        (subst (λ (all : List Given). Reads c (between after None) words all) (append_assoc done (one ∷ []) others) reads)

    -- `--name`
    goes_name : (given : List Given) → Goes (Some word) words → given_in (Some word) words ≡ Some given → Follows names done given
        → Reads c (between rows pending) (word ∷ words) (done ++ given)
    goes_name given later e follows =
        let known = first_known names word words given e follows.known in
        let is = known_name names word ok known in
        let found = long_found names word ok is known in
        let lexed = name_word is.label is.some is.whole in
        let no_end = ap (λ (text : Text). bytes_eq text (45 ∷ 45 ∷ [])) is.spelled ∙ lexed.0 in
        let long = ap long_of is.spelled ∙ lexed.1 in
        reads_more c (between rows pending) (awaiting word (rows_for done)) word words (done ++ given)
        (name_passes c rows pending word is.label word no_end found long settles.passes)
        (name_walked c rows pending word is.label word no_end found long ∙ ap (awaiting word) settles.rows_are)
        (later given done e follows)

  goes_word : (word : Text) (words : List Text) → Goes None words → Goes (Some word) words → Goes None (word ∷ words)
  goes_word word words later named given done rows pending e follows settles = go (is_joined word) refl
    where
      go : (b : Bool) → is_joined word ≡ b → Reads c (between rows pending) (word ∷ words) (done ++ given)
      go true joined =
          let first : one_more (name_part word) (value_part word) (given_in None words) ≡ Some given = rw joined at e in
          let one = one_of (name_part word) (value_part word) (given_in None words) given first in
          subst (λ (all : List Given). Reads c (between rows pending) (word ∷ words) (done ++ all)) (sym one.whole)
          (goes_joined word words done rows pending settles one.others later joined one.later (subst (Follows names done) one.whole follows))
      go false apart =
          let rest : given_in (Some word) words ≡ Some given = rw apart at e in
          goes_name word words done rows pending settles given named rest follows

  goes : (state : Option Text) (words : List Text) → Goes state words
  goes None [] = goes_none
    where
      goes_none : Goes None []
      goes_none given done rows pending e follows settles =
          let nothing : [] ≡ given = cc in
          subst (λ (all : List Given). Reads c (between rows pending) [] (done ++ all)) nothing
          (reads_none c rows pending (done ++ []) (subst (Settles c rows pending) (sym (append-nil done)) settles))
  goes (Some name) [] = λ given done e follows. absurd (cc)
  goes (Some name) (text ∷ words) = goes_value name text words (goes None words)
  goes None (word ∷ words) = goes_word word words (goes None words) (goes (Some word) words)

  -- ---- what a parse says of the words

  module _ (words : List Text) (given : List Given) (e : given_in None words ≡ Some given) (fine : are_of names given ≡ true) where
    reads : Reads c (walk_from nothing_held) words given
    reads =
        let parts = and_parts (list_all (is_known names) given) (are_distinct (names_of given)) fine in
        goes None words given [] [] None e (follows_none names given parts.0 parts.1) (settles_none c [] [] refl)

    -- the words pass, and so do the tests behind them
    level : level_passes (ready_top c) [] nothing_held words false ≡ true
    level =
        let defaults : list_all default_passes c ≡ true = each_rule ready_rule default_passes (λ name. refl) names in
        let free : list_all (λ (a : Rule). a.is_free) c ≡ true = each_rule ready_rule (λ a. a.is_free) (λ name. refl) names in
        let wanted : (rows : List Row) → list_all (λ (a : Rule). not a.required || is_given a.id rows) c ≡ true
        = λ rows. each_rule ready_rule (λ a. not a.required || is_given a.id rows) (λ name. refl) names in
        and_from _ _ reads.passes (and_from _ _ reads.settles (and_from _ _ defaults (and_from _ _ free (wanted _))))

    pub takes_options : takes (options_app names) words ≡ true
    takes_options = and_from _ _ (options_simple names)
        (ap (λ (a : App). built_takes a nothing_held words) (built_options names) ∙ leaf_takes (ready_app c) nothing_held words refl level)

    pub matches_options : matches_of (options_app names) words ≡ rows_for given
    matches_options = ap (λ (a : App). rows_after a.top.rules (label_names a) words) (built_options names) ∙ no_defaults names _ ∙ reads.rows_are

-- ---- the options that words are, if they are options of these names

-- they are taken
pub taken : (names words : List Text) → list_all is_option_name names ≡ true → are_options names (given_in None words) ≡ true
    → takes (options_app names) words ≡ true
taken names words ok fine = go (given_in None words) refl fine
  where
    go : (all : Option (List Given)) → given_in None words ≡ all → are_options names all ≡ true → takes (options_app names) words ≡ true
    go None is fine = absurd (cc)
    go (Some given) is fine = takes_options names (all_parts names ok) words given is fine

-- and what is found says what is given for each name
pub told : (names words : List Text) (found : Found) → list_all is_option_name names ≡ true
    → are_options names (given_in None words) ≡ true → rows_of found ≡ matches_of (options_app names) words
    → IfSome (given_in None words) (λ given. (name : Text) → first_value found name ≡ value_of name given)
told names words found ok fine rows = go (given_in None words) refl fine
  where
    go : (all : Option (List Given)) → given_in None words ≡ all → are_options names all ≡ true
        → IfSome all (λ given. (name : Text) → first_value found name ≡ value_of name given)
    go None is fine = absurd (cc)
    go (Some given) is fine = λ name.
        first_value-rows found name ∙ ap (first_of name) (rows ∙ matches_options names (all_parts names ok) words given is fine) ∙ first_given name given
