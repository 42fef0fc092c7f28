-- Sets of lines, when one more comes.
use Rattle.std.proofs.Common.{◌≡◌, ℕ, Bool, true, false, ◌||◌, List, [], ◌∷◌, ◌++◌, refl, sym, ap, ◌∙◌}
use Rattle.std.specs.Prelude.{Vec}
use Rattle.std.specs.declared.cmp.Ordering.{Ordering}
use Rattle.std.specs.declared.cmp.Ordering.TheVariants.{Less, Equal, Greater}
use Rattle.std.specs.List.{list_any}
use Rattle.std.specs.Str.{bytes_eq}
use Rattle.std.specs.Ordering.{nat_cmp, match_ordering, is_eq}
use Rattle.std.specs.Cmp.Lexicographic.{slice_cmp}
use Rattle.std.specs.BTreeSet.{BTreeSet, contains_by, insert_key}
use Rattle.std.proofs.lemmas.Slice.Eq.{bytes_eq-Decides}
use Rattle.std.proofs.lemmas.List.Folds.{list_any-append}
use Rattle.std.proofs.lemmas.Map.Text.{is_eq-slice_cmp}
use Rattle.saw_verify.specs.Held.{has_line, HoldsLines}

or_twice : (a b : Bool) → (a || b) ≡ (a || (a || b))
or_twice true b = refl
or_twice false b = refl

or_swap : (a b c : Bool) → (a || (b || c)) ≡ (b || (a || c))
or_swap true true c = refl
or_swap true false c = refl
or_swap false b c = refl

or_last : (a b : Bool) → (a || b) ≡ (b || (a || false))
or_last true true = refl
or_last true false = refl
or_last false true = refl
or_last false false = refl

module _ {A : Type 0} where
  -- what a set is asked for a line
  any_found : (line : List ℕ) (keys : List (Vec ℕ A)) → list_any (λ one. is_eq (slice_cmp nat_cmp line one.items)) keys ≡ list_any
      (λ one. bytes_eq line one.items) keys
  any_found line [] = refl
  any_found line (one ∷ keys) = rw (is_eq-slice_cmp line one.items, any_found line keys) refl

  pub contains_by-has_line : (held : BTreeSet (Vec ℕ A)) (line : List ℕ) → contains_by (λ one. slice_cmp nat_cmp line one.items) held ≡ has_line held line
  contains_by-has_line held line = any_found line held.keys

  -- the order of lines
  abbrev line_cmp : Vec ℕ A → Vec ℕ A → Ordering
  line_cmp one other = slice_cmp nat_cmp one.items other.items

  same_bytes : (key one : Vec ℕ A) → line_cmp key one ≡ Equal → key.items ≡ one.items
  same_bytes key one e = (bytes_eq-Decides key.items one.items).0 (sym (is_eq-slice_cmp key.items one.items) ∙ ap is_eq e)

  -- one step of an insertion, by the order of the new line and the first
  insert_step : (has : Vec ℕ A → Bool) (key one : Vec ℕ A) (keys more : List (Vec ℕ A)) (order : Ordering) → (order ≡ Equal → has key ≡ has one)
      → list_any has more ≡ (has key || list_any has keys)
      → list_any has (match_ordering order (key ∷ one ∷ keys) (one ∷ keys) (one ∷ more)) ≡ (has key || (has one || list_any has keys))
  insert_step has key one keys more Less same ih = refl
  insert_step has key one keys more Equal same ih = rw (same refl) (or_twice (has one) (list_any has keys))
  insert_step has key one keys more Greater same ih = rw ih (or_swap (has one) (has key) (list_any has keys))

  any_inserted : (line : List ℕ) (keys : List (Vec ℕ A)) (key : Vec ℕ A)
      → list_any (λ one. bytes_eq line one.items) (insert_key line_cmp keys key) ≡ (bytes_eq line key.items || list_any (λ one. bytes_eq line one.items) keys)
  any_inserted line [] key = refl
  any_inserted line (one ∷ keys) key =
      insert_step (λ other. bytes_eq line other.items) key one keys (insert_key line_cmp keys key) (line_cmp key one)
      (λ e. ap (bytes_eq line) (same_bytes key one e)) (any_inserted line keys key)

  pub holds_none : (held : BTreeSet (Vec ℕ A)) → held.keys ≡ [] → HoldsLines held []
  holds_none held empty = λ line. ap (list_any (λ (one : Vec ℕ A). bytes_eq line one.items)) empty

  pub holds_one_more : (old new : BTreeSet (Vec ℕ A)) (key : Vec ℕ A) (lines : List (List ℕ)) → new.keys ≡ insert_key line_cmp old.keys key
      → HoldsLines old lines → HoldsLines new (lines ++ key.items ∷ [])
  holds_one_more old new key lines inserted holds = λ line.
      ap (list_any (λ (one : Vec ℕ A). bytes_eq line one.items)) inserted
      ∙ any_inserted line old.keys key
      ∙ rw (holds line, list_any-append (bytes_eq line) lines (key.items ∷ [])) (or_last (bytes_eq line key.items) (list_any (bytes_eq line) lines))
