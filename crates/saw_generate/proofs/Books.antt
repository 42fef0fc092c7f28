-- What a map keeps at each address as names with their values, and which names are there.
use Rattle.std.proofs.Common.{◌≡◌, ℕ, ◌<◌, ◌≤◌, ◌||◌, Bool, true, false, cond, List, [], ◌∷◌, Option, Some, None, refl, sym, ap, ◌∙◌, arith}
use Rattle.std.specs.Ordering.{nat_cmp}
use Rattle.std.specs.Cmp.Lexicographic.{slice_cmp}
use Rattle.std.specs.FinMap as finite
use Rattle.std.specs.Str.{bytes_eq}
use Rattle.std.proofs.lemmas.Bool.{both_ways, false_from_ne_true}
use Rattle.std.proofs.lemmas.Slice.Eq.{bytes_eq-Decides}
use Rattle.saw_address.specs.Maps.{StateMap, changed_at, no_entries, value_at}
use Rattle.saw_address.proofs.Finite.{value_at-changed_at}
use Rattle.saw_context.specs.Conversation.{body_of}
use Rattle.saw_intkey.specs.Actions.{address_of}
use Rattle.saw_intkey.specs.States.{Names, has_name, kept_bytes, names_of, with_value_at}
use Rattle.saw_intkey.proofs.ReadBack.{kept_is_read}
use Rattle.saw_generate.proofs.Entries.{IsFine, IsName, counters_of, fine_later, has_name-with, most_changes, none_fine}

-- the names at each address
abbrev pub Book : Type 0
Book = List ℕ → Names

abbrev pub named : Book → List ℕ → Names
named book name = book (address_of name)

-- What the map keeps at each address is read as these names, and they are fine. Nothing is kept where settings are, at
-- addresses that begin with 0.
pub record Keeps (m : StateMap) (c : ℕ) (book : Book) : Type 0 where
  pub reads : (at : List ℕ) → names_of (body_of (value_at m at)) ≡ Some (book at)
  pub fine : (at : List ℕ) → IsFine c (book at)
  pub unset : (tail : List ℕ) → value_at m (0 ∷ tail) ≡ None

-- a map that keeps names after at most so many changes, and whether each name is there
pub record Holds (here : List ℕ → Bool) (c : ℕ) (m : StateMap) : Type 0 where
  pub book : Book
  pub keeps : Keeps m c book
  pub there : (name : List ℕ) → has_name name (named book name) ≡ here name

-- the same where tests of names agree
pub holds_alike : (here other : List ℕ → Bool) (c : ℕ) (m : StateMap) → ((name : List ℕ) → here name ≡ other name) → Holds here c m → Holds other c m
holds_alike here other c m alike holds = record { book = holds.book; keeps = holds.keeps; there = λ name. holds.there name ∙ alike name }

-- the same after more changes
pub holds_later : (here : List ℕ → Bool) (c d : ℕ) (m : StateMap) → c ≤ d → Holds here c m → Holds here d m
holds_later here c d m later holds = record {
  book = holds.book;
  keeps = record {
    reads = holds.keeps.reads;
    fine = λ at. fine_later c d (holds.book at) later (holds.keeps.fine at);
    unset = holds.keeps.unset;
  };
  there = holds.there;
}

-- ---- no names

nothing_read : names_of [] ≡ Some []
unfolding names_of
nothing_read = refl

pub none_held : Holds (λ name. false) 0 no_entries
none_held = record {
  book = λ at. [];
  keeps = record {
    reads = λ at. ap (λ found. names_of (body_of found)) (finite.get-empty (slice_cmp nat_cmp) at) ∙ nothing_read;
    fine = λ at. none_fine 0;
    unset = λ tail. finite.get-empty (slice_cmp nat_cmp) (0 ∷ tail);
  };
  there = λ name. refl;
}

-- ---- one change

abbrev put : Book → List ℕ → Names → Book
put book address names = λ at. cond (bytes_eq address at) names (book at)

read_put : (b : Bool) (names old : Names) (value : Option (List ℕ)) → names_of (kept_bytes names) ≡ Some names → names_of (body_of value) ≡ Some old
    → names_of (body_of (cond b (Some (kept_bytes names)) value)) ≡ Some (cond b names old)
read_put true names old value new kept = new
read_put false names old value new kept = kept

fine_put : (b : Bool) (d : ℕ) (names old : Names) → IsFine d names → IsFine d old → IsFine d (cond b names old)
fine_put true d names old new kept = new
fine_put false d names old new kept = kept

-- the address of a name does not begin with 0
elsewhere : (name tail : List ℕ) → bytes_eq (address_of name) (0 ∷ tail) ≡ false
unfolding address_of
elsewhere name tail = refl

keeps_put : (m : StateMap) (c d : ℕ) (book : Book) (address : List ℕ) (names : Names) → Keeps m c book → IsFine d names → c ≤ d → d ≤ most_changes
    → ((tail : List ℕ) → bytes_eq address (0 ∷ tail) ≡ false) → Keeps (changed_at m address (Some (kept_bytes names))) d (put book address names)
keeps_put m c d book address names keeps fine later few other =
    let back : names_of (kept_bytes names) ≡ Some names = kept_is_read names (counters_of d names few fine.all) fine.distinct (omega (arith, fine.few)) in
    record {
      reads = λ at.
          ap (λ found. names_of (body_of found)) (value_at-changed_at m address (Some (kept_bytes names)) at)
          ∙ read_put (bytes_eq address at) names (book at) (value_at m at) back (keeps.reads at);
      fine = λ at. fine_put (bytes_eq address at) d names (book at) fine (fine_later c d (book at) later (keeps.fine at));
      unset = λ tail.
          value_at-changed_at m address (Some (kept_bytes names)) (0 ∷ tail)
          ∙ ap (λ same. cond same (Some (kept_bytes names)) (value_at m (0 ∷ tail))) (other tail) ∙ keeps.unset tail;
    }

same_address : (name other : List ℕ) → bytes_eq name other ≡ true → bytes_eq (address_of name) (address_of other) ≡ true
same_address name other same =
    (bytes_eq-Decides (address_of name) (address_of other)).1 (ap address_of ((bytes_eq-Decides name other).0 same))

there_put : (book : Book) (name : List ℕ) (value : ℕ) (other : List ℕ) (b : Bool) → bytes_eq (address_of name) (address_of other) ≡ b
    → has_name other (cond b (with_value_at name value (named book name)) (named book other)) ≡ (bytes_eq name other || has_name other (named book other))
there_put book name value other true same =
    has_name-with name value other (named book name)
    ∙ ap (λ at. bytes_eq name other || has_name other (book at)) ((bytes_eq-Decides (address_of name) (address_of other)).0 same)
there_put book name value other false differ =
    ap (λ b. b || has_name other (named book other))
    (sym (false_from_ne_true (bytes_eq name other) (λ same. both_ways _ differ (same_address name other same))))

-- a name that gets a value is there, and the others are as before
pub holds_with : (here : List ℕ → Bool) (c d : ℕ) (m : StateMap) (name : List ℕ) (value : ℕ) (holds : Holds here c m) → IsName name → c < d
    → d ≤ most_changes → IsFine d (with_value_at name value (named holds.book name))
    → Holds (λ other. bytes_eq name other || here other) d
    (changed_at m (address_of name) (Some (kept_bytes (with_value_at name value (named holds.book name)))))
holds_with here c d m name value holds is less few fine =
    let new = with_value_at name value (named holds.book name) in
    record {
      book = put holds.book (address_of name) new;
      keeps = keeps_put m c d holds.book (address_of name) new holds.keeps fine (omega arith) few (elsewhere name);
      there = λ other.
          there_put holds.book name value other (bytes_eq (address_of name) (address_of other)) refl
          ∙ ap (λ b. bytes_eq name other || b) (holds.there other);
    }
