-- The rules of options, as building fills them in.
use Rattle.std.proofs.Common.{◌≡◌, ℕ, ◌+◌, ◌<◌, Bool, true, false, zero, suc, List, [], ◌∷◌, ◌++◌, length, map, take, codes, Some, Bor, refl, sym, ap}
use Rattle.std.proofs.Common.{ap₂, ◌∙◌, subst, arith}
use Rattle.std.specs.Prelude.{slice_index_or, count_by, is_some}
use Rattle.std.specs.Cmp.Lexicographic.{nat_list_eq_equiv}
use Rattle.std.specs.List.{AllByRecursion, list_all, list_any}
use Rattle.std.specs.Str.{bytes_eq}
use Rattle.std.proofs.lemmas.Bool.{and_parts}
use Rattle.std.proofs.lemmas.List.{map-append, take_more}
use Rattle.std.proofs.lemmas.Slice.Eq.{bytes_eq-Decides}
use Rattle.clap.specs.Walk.{Rule, Text, arg_by_id, arg_by_long, is_early_multiple}
use Rattle.clap.specs.Simple.{App, Shape, built, filled_from, is_simple, new_shape, on_top, with_rule}
use Rattle.clap.specs.declared.builder.value_parser.ValueParser.TheVariants as vp
use Rattle.saw_words.specs.Given.{is_option_name}
use Rattle.saw_words.proofs.ClapWords.{IsOptionName}
use Rattle.saw_words.specs.Clap.{option_rule, options_app}

-- an option as building leaves it: one value, any text
abbrev pub ready_rule : Text → Rule
ready_rule name = record (option_rule name) {
  parser = Some vp.String;
  range = Some (record { start_inclusive = 1; end_inclusive = 1 });
}

abbrev pub ready_rules : List Text → List Rule
ready_rules names = map ready_rule names

-- the command as building leaves it
abbrev pub ready_top : List Rule → Shape
ready_top rules = record (new_shape (codes "sawval")) {
  rules = rules;
  no_binary_name = true;
  disable_help_flag = true;
  disable_help_subcommand = true;
  disable_version_flag = true;
  is_built = true;
}

abbrev pub ready_app : List Rule → App
ready_app rules = record { top = ready_top rules; subs = [] }

-- ---- building

filled_options : (names : List Text) → filled_from 1 (map option_rule names) ≡ ready_rules names
filled_options [] = refl
filled_options (name ∷ names) = ap (λ rules. ready_rule name ∷ rules) (filled_options names)

pub built_options : (names : List Text) → built (options_app names) ≡ ready_app (ready_rules names)
built_options names = ap ready_app (filled_options names)

-- ---- what holds of each rule

pub each_rule : (f : Text → Rule) (p : Rule → Bool) → ((name : Text) → p (f name) ≡ true) → (names : List Text) → list_all p (map f names) ≡ true
each_rule f p passes [] = refl
each_rule f p passes (name ∷ names) = rw (passes name) (each_rule f p passes names)

pub no_rule : (f : Text → Rule) (p : Rule → Bool) → ((name : Text) → p (f name) ≡ false) → (names : List Text) → list_any p (map f names) ≡ false
no_rule f p fails [] = refl
no_rule f p fails (name ∷ names) = rw (fails name) (no_rule f p fails names)

-- ---- the command is simple

pub options_simple : (names : List Text) → is_simple (options_app names) ≡ true
options_simple names =
    let before : list_all (λ (a : Rule). a.is_simple) (map option_rule names) ≡ true = each_rule option_rule (λ a. a.is_simple) (λ name. refl) names in
    let after : list_all (λ (a : Rule). a.is_simple) (ready_rules names) ≡ true = each_rule ready_rule (λ a. a.is_simple) (λ name. refl) names in
    let early = count_by (λ (a : Rule). is_some a.index) (ready_rules names) in
    let order : list_any (is_early_multiple early) (ready_rules names) ≡ false = no_rule ready_rule (is_early_multiple early) (λ name. refl) names in
    rw (filled_options names, before, after, order) refl

-- ---- the command made option by option

-- each name of the list is one of an option
pub name_at : (names : List (Bor Text)) (i : ℕ) (other : Bor Text) → i < length names → list_all is_option_name (map (λ name. name.now) names) ≡ true
    → is_option_name (slice_index_or names i other).now ≡ true
name_at [] i other lt all = absurd (omega arith)
name_at (first ∷ names) zero other lt all = (and_parts _ _ all).0
name_at (first ∷ names) (suc i) other lt all = name_at names i other (omega arith) (and_parts _ _ all).1

-- the command with these rules
abbrev with_rules : List Rule → App
with_rules rules = on_top (λ s. record s { rules = rules }) (options_app [])

-- the command with one more option
pub option_more : (names : List (Bor Text)) (i : ℕ) (other : Bor Text) (old new : App) (rule : Rule) → i < length names
    → old ≡ options_app (map (λ name. name.now) (take i names)) → rule ≡ option_rule (slice_index_or names i other).now → new ≡ with_rule old rule
    → new ≡ options_app (map (λ name. name.now) (take (i + 1) names))
option_more names i other old new rule lt was is made =
    let so_far = map (λ (name : Bor Text). name.now) (take i names) in
    let name = (slice_index_or names i other).now in
    let longer : map (λ (name : Bor Text). name.now) (take (i + 1) names) ≡ so_far ++ name ∷ [] =
    ap (map (λ (name : Bor Text). name.now)) (take_more names i other lt) ∙ map-append (λ (name : Bor Text). name.now) (take i names) (_ ∷ []) in
    made ∙ ap₂ with_rule was is ∙ ap with_rules (sym (map-append option_rule so_far (name ∷ []))) ∙ ap options_app (sym longer)

-- ---- the option of a name

same_text : (a b : Text) → bytes_eq a b ≡ true → a ≡ b
same_text a b e = (bytes_eq-Decides a b).0 e

-- by its id, which is the whole name
pub id_found : (names : List Text) (name : Text) → list_any (λ other. bytes_eq name other) names ≡ true
    → arg_by_id (ready_rules names) name ≡ Some (ready_rule name)
id_found [] name known = absurd (cc)
id_found (other ∷ names) name known = go (bytes_eq name other) refl (id_found names name)
  where
    go : (b : Bool) → bytes_eq name other ≡ b
        → (list_any (λ other. bytes_eq name other) names ≡ true → arg_by_id (ready_rules names) name ≡ Some (ready_rule name))
        → arg_by_id (ready_rules (other ∷ names)) name ≡ Some (ready_rule name)
    go true same later =
        let back : bytes_eq other name ≡ true = nat_list_eq_equiv.symm other name ∙ same in
        rw back (ap (λ text. Some (ready_rule text)) (sym (same_text name other same)))
    go false differs later =
        let back : bytes_eq other name ≡ false = nat_list_eq_equiv.symm other name ∙ differs in
        let rest : list_any (λ other. bytes_eq name other) names ≡ true = rw differs at known in
        rw back (later rest)

-- by its long name, which stands behind the two hyphens
module _ (label : Text) where
  abbrev Finds : List Text → Type 0
  Finds names = list_any (λ other. bytes_eq (45 ∷ 45 ∷ label) other) names ≡ true
      → arg_by_long (ready_rules names) label ≡ Some (ready_rule (45 ∷ 45 ∷ label))

  one_more : (text : Text) (names : List Text) → Finds names → Finds ((45 ∷ 45 ∷ text) ∷ names)
  one_more text names later known = go (bytes_eq label text) refl
    where
      go : (b : Bool) → bytes_eq label text ≡ b → arg_by_long (ready_rules ((45 ∷ 45 ∷ text) ∷ names)) label ≡ Some (ready_rule (45 ∷ 45 ∷ label))
      go true same =
          let back : bytes_eq text label ≡ true = nat_list_eq_equiv.symm text label ∙ same in
          rw back (ap (λ t. Some (ready_rule (45 ∷ 45 ∷ t))) (sym (same_text label text same)))
      go false differs =
          let back : bytes_eq text label ≡ false = nat_list_eq_equiv.symm text label ∙ differs in
          let rest : list_any (λ other. bytes_eq (45 ∷ 45 ∷ label) other) names ≡ true = rw differs at known in
          rw back (later rest)

  finds_all : (names : List Text) → AllByRecursion IsOptionName names → Finds names
  finds_all [] all known = absurd (cc)
  finds_all (other ∷ names) all known = subst (λ (o : Text). Finds (o ∷ names)) (sym all.0.spelled) (one_more all.0.label names (finds_all names all.1)) known

pub long_found : (names : List Text) (name : Text) → AllByRecursion IsOptionName names → (is : IsOptionName name)
    → list_any (λ other. bytes_eq name other) names ≡ true → arg_by_long (ready_rules names) is.label ≡ Some (ready_rule name)
long_found names name all is known =
    let same : list_any (λ other. bytes_eq (45 ∷ 45 ∷ is.label) other) names ≡ true =
    ap (λ (text : Text). list_any (λ other. bytes_eq text other) names) (sym is.spelled) ∙ known in
    finds_all is.label names all same ∙ ap (λ text. Some (ready_rule text)) (sym is.spelled)

-- a name that is known is one of an option
pub known_name : (names : List Text) (name : Text) → AllByRecursion IsOptionName names → list_any (λ other. bytes_eq name other) names ≡ true
    → IsOptionName name
known_name [] name all known = absurd (cc)
known_name (other ∷ names) name all known = go (bytes_eq name other) refl (known_name names name all.1)
  where
    go : (b : Bool) → bytes_eq name other ≡ b → (list_any (λ other. bytes_eq name other) names ≡ true → IsOptionName name) → IsOptionName name
    go true same later = subst IsOptionName (sym (same_text name other same)) all.0
    go false differs later = later (let rest : list_any (λ other. bytes_eq name other) names ≡ true = rw differs at known in rest)
