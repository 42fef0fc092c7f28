-- The walk of clap over words that are options, one word after another.
use Rattle.std.proofs.Common.{◌≡◌, true, false, List, [], ◌∷◌, ◌++◌, Option, Some, None, refl, sym, ◌∙◌, subst}
use Rattle.std.specs.List.{fold}
use Rattle.std.specs.Cmp.Lexicographic.{nat_list_eq_equiv}
use Rattle.std.specs.Str.{bytes_eq}
use Rattle.std.proofs.lemmas.Bool.{and_from}
use Rattle.clap.specs.Lexer.{long_of}
use Rattle.clap.specs.Walk.{Held, Row, Rule, Text, Walk, arg_by_id, arg_by_long, has_row, option, settled, settled_rows, used, walk_from, walked}
use Rattle.clap.specs.Takes.{settle_passes, turn_passes, walk_passes}
use Rattle.saw_words.specs.Given.{Given}
use Rattle.saw_words.proofs.ClapRows.{row_added, row_for, rows_for}
use Rattle.saw_words.proofs.ClapRules.{ready_rule, ready_top}
use Rattle.saw_words.proofs.ClapWords.{IsPlainWord}

-- an option whose value is there, or none, is pending
abbrev pub held_at : List Row → Option (Text × List Text) → Held
held_at rows pending = record { rows = rows; pending = pending; skip = 0 }

abbrev pub between : List Row → Option (Text × List Text) → Walk
between rows pending = walk_from (held_at rows pending)

-- an option waits for its value
abbrev pub awaiting : Text → List Row → Walk
awaiting name rows = record (between rows (Some (name, []))) { waiting = option name }

-- ---- one word

module _ (c : List Rule) (rows : List Row) (pending : Option (Text × List Text)) (name label word : Text) (no_end : bytes_eq word (45 ∷ 45 ∷ []) ≡ false)
    (found : arg_by_long c label ≡ Some (ready_rule name)) where
  -- `--name=text` is used at once
  pub joined_walked : (text : Text) → long_of word ≡ Some (label, Some text)
      → walked c [] (between rows pending) word ≡ between (used (ready_rule name) (text ∷ []) (settled_rows c pending rows)) None
  unfolding walked
  joined_walked text long = rw (no_end, long, found) refl

  pub joined_passes : (text : Text) → long_of word ≡ Some (label, Some text) → settle_passes c false (held_at rows pending) ≡ true
      → has_row name (settled_rows c pending rows) ≡ false → turn_passes (ready_top c) [] (between rows pending) word ≡ true
  joined_passes text long settles fresh = rw (no_end, long, found, settles, fresh) refl

  -- `--name` waits for its value
  pub name_walked : long_of word ≡ Some (label, None) → walked c [] (between rows pending) word ≡ awaiting name (settled_rows c pending rows)
  unfolding walked
  name_walked long = rw (no_end, long, found) refl

  pub name_passes : long_of word ≡ Some (label, None) → settle_passes c false (held_at rows pending) ≡ true
      → turn_passes (ready_top c) [] (between rows pending) word ≡ true
  name_passes long settles = rw (no_end, long, found, settles) refl

module _ (c : List Rule) (rows : List Row) (name text : Text) (plain : IsPlainWord text) where
  -- the value of the option that waits
  pub value_walked : arg_by_id c name ≡ Some (ready_rule name) → walked c [] (awaiting name rows) text ≡ between rows (Some (name, text ∷ []))
  unfolding walked
  value_walked found =
      let same : bytes_eq name name ≡ true = nat_list_eq_equiv.refl name in
      rw (plain.no_end, plain.no_long, plain.no_short, found, same) refl

  pub value_passes : turn_passes (ready_top c) [] (awaiting name rows) text ≡ true
  value_passes = rw (plain.no_end, plain.no_long, plain.no_short) refl

-- ---- what the rows say once the pending option is used

pub record Settles (c : List Rule) (rows : List Row) (pending : Option (Text × List Text)) (done : List Given) : Type 0 where
  pub passes : settle_passes c false (held_at rows pending) ≡ true
  pub rows_are : settled_rows c pending rows ≡ rows_for done

-- no option is pending, and then one with its value
pub settles_none : (c : List Rule) (rows : List Row) (done : List Given) → rows ≡ rows_for done → Settles c rows None done
settles_none c rows done is = record { passes = refl; rows_are = is }

pub settles_one : (c : List Rule) (rows : List Row) (name text : Text) (done : List Given) → arg_by_id c name ≡ Some (ready_rule name)
    → has_row name rows ≡ false → rows ++ row_for (name, text) ∷ [] ≡ rows_for done → Settles c rows (Some (name, text ∷ [])) done
settles_one c rows name text done found fresh is = record {
  passes = rw (found, fresh) refl;
  rows_are = rw found (row_added name text rows fresh ∙ is);
}

-- ---- all words

-- the walk takes these words, and settles with rows of these options
pub record Reads (c : List Rule) (w : Walk) (words : List Text) (all : List Given) : Type 0 where
  pub passes : walk_passes (ready_top c) [] w words ≡ true
  pub settles : settle_passes c false (fold (walked c []) w words).held ≡ true
  pub rows_are : (settled c (fold (walked c []) w words).held).rows ≡ rows_for all

pub reads_none : (c : List Rule) (rows : List Row) (pending : Option (Text × List Text)) (all : List Given) → Settles c rows pending all
    → Reads c (between rows pending) [] all
unfolding walk_passes
reads_none c rows pending all end = record { passes = refl; settles = end.passes; rows_are = end.rows_are }

reads_word : (c : List Rule) (w : Walk) (word : Text) (words : List Text) (all : List Given) → turn_passes (ready_top c) [] w word ≡ true
    → Reads c (walked c [] w word) words all → Reads c w (word ∷ words) all
unfolding walk_passes
reads_word c w word words all turn later = record {
  passes = and_from _ _ turn later.passes;
  settles = later.settles;
  rows_are = later.rows_are;
}

pub reads_more : (c : List Rule) (w next : Walk) (word : Text) (words : List Text) (all : List Given) → turn_passes (ready_top c) [] w word ≡ true
    → walked c [] w word ≡ next → Reads c next words all → Reads c w (word ∷ words) all
reads_more c w next word words all turn is later = reads_word c w word words all turn (subst (λ (v : Walk). Reads c v words all) (sym is) later)
