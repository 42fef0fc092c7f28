-- What lines list, by what is asked of a set of them.
use Rattle.std.proofs.Common.{◌≡◌, ℕ, Bool, true, false, ◌&&◌, ◌||◌, not, cond, List, [], ◌∷◌, map, None, refl, ap, ◌∙◌, inl, inr}
use Rattle.std.specs.Prelude.{Vec}
use Rattle.std.specs.List.{list_any, filter, position}
use Rattle.std.specs.Str.{bytes_eq}
use Rattle.std.specs.BTreeSet.{BTreeSet}
use Rattle.std.proofs.lemmas.Bool.{and_right, or_parts, cases_Bool}
use Rattle.hex.specs.Hex.{encode_lower}
use Rattle.sha2.specs.Sha512.{sha512}
use Rattle.saw_verify.specs.Lists.{Triple, triple_of, is_triple, is_empty, is_bad_line, lines_of, attests}
use Rattle.saw_verify.specs.Held.{is_held, HoldsLines}
use Rattle.saw_verify.proofs.Places.{list_any-from_no_position}
use Rattle.saw_verify.proofs.Triples.{matches, fits, asked, same_answer, asked_filled}

and_or : (a b c : Bool) → (a && (b || c)) ≡ ((a && b) || (a && c))
and_or true b c = refl
and_or false b c = refl

any_kept : (test : Triple → Bool) (line : List ℕ) (lines : List (List ℕ)) (keep : Bool)
    → ((keep && test (triple_of line)) || list_any test (map triple_of lines)) ≡ list_any test (map triple_of (cond keep (line ∷ lines) lines))
any_kept test line lines true = refl
any_kept test line lines false = refl

filled_is_triple : (empty triple : Bool) → (not empty && not triple) ≡ false → empty ≡ false → triple ≡ true
filled_is_triple true triple h e = cc
filled_is_triple false true h e = refl
filled_is_triple false false h e = cc

module _ (key signature digest : List ℕ) where
  abbrev is_asked : List ℕ → Bool
  is_asked line = fits key signature digest && bytes_eq (asked key signature digest) line

  -- a line answers as its triple, and an empty one not at all
  by_line : (line : List ℕ) → is_bad_line line ≡ false → is_asked line ≡ (not (is_empty line) && matches key signature digest (triple_of line))
  by_line line fine = elim (cases_Bool (is_empty line)) [
    | inl empty ↦ and_right (fits key signature digest) (bytes_eq (asked key signature digest) line) (asked_filled key signature digest line empty)
        ∙ rw empty refl
    | inr filled ↦ rw filled (same_answer key signature digest line (filled_is_triple (is_empty line) (is_triple line) fine filled))
  ]

  by_lines : (lines : List (List ℕ)) → list_any is_bad_line lines ≡ false
      → (fits key signature digest && list_any (bytes_eq (asked key signature digest)) lines) ≡ list_any (matches key signature digest)
      (map triple_of (filter (λ line. not (is_empty line)) lines))
  by_lines [] fine = and_right (fits key signature digest) false refl
  by_lines (line ∷ lines) fine =
      let both = or_parts (is_bad_line line) (list_any is_bad_line lines) fine in
      and_or (fits key signature digest) (bytes_eq (asked key signature digest) line) (list_any (bytes_eq (asked key signature digest)) lines)
      ∙ rw (by_line line both.0, by_lines lines both.1) (any_kept (matches key signature digest) line (filter (λ one. not (is_empty one)) lines)
      (not (is_empty line)))

-- a set of the lines of a list accepts what the list attests
pub attests_by : {A : Type 0} (bytes : List ℕ) (lines : List (List ℕ)) (held : BTreeSet (Vec ℕ A)) → lines ≡ lines_of bytes
    → position is_bad_line lines ≡ None → HoldsLines held lines
    → (key message signature : List ℕ) → is_held held key message signature ≡ attests bytes key message signature
attests_by bytes lines held are fine holds key message signature =
    let digest = encode_lower (sha512 message) in
    ap (λ found. fits key signature digest && found) (holds (asked key signature digest))
    ∙ by_lines key signature digest lines (list_any-from_no_position is_bad_line lines fine)
    ∙ ap (λ (all : List (List ℕ)). list_any (matches key signature digest) (map triple_of (filter (λ line. not (is_empty line)) all))) are
