-- A list that is written is read again.
use Rattle.std.proofs.Common.{◌≡◌, ℕ, ◌+◌, true, false, not, List, [], ◌∷◌, ◌++◌, ◌==◌, length, map, filter, take, drop, Some, None, refl, sym, ap}
use Rattle.std.proofs.Common.{◌∙◌, arith, append_assoc}
use Rattle.std.specs.Prelude.{nat_lt, option_map}
use Rattle.std.specs.List.{All, AllByRecursion, list_all, position, prefix_len}
use Rattle.std.proofs.lemmas.Bool.{and_parts, cond-false, eqb-true, false≢true, le-ltb, ne_eqb}
use Rattle.std.proofs.lemmas.List.Elements.{All-append, All-cons, All-nil}
use Rattle.std.proofs.lemmas.List.Splits.{slice_split_at}
use Rattle.saw_address.specs.Texts.{is_hex_digit, is_hex_text}
use Rattle.saw_verify.specs.Held.{line_of}
use Rattle.saw_verify.specs.Laws.{IsTriple, ListIsRead, list_text}
use Rattle.saw_verify.specs.Lists.{Triple, triple_of, is_triple, is_empty, is_bad_line, lines_of}
use Rattle.saw_verify.proofs.Triples.{key_of_parts, first_of_parts, signature_of_parts, second_of_parts, digest_of_parts, size_of_parts}

abbrev line : Triple → List ℕ
line triple = line_of triple.key triple.signature triple.digest

-- ---- one line

hex_size : (n : ℕ) (text : List ℕ) → is_hex_text n text ≡ true → length text ≡ n
hex_size n text h = eqb-true (length text) n (and_parts (length text == n) (list_all is_hex_digit text) h).0

hex_digits : (n : ℕ) (text : List ℕ) → is_hex_text n text ≡ true → list_all is_hex_digit text ≡ true
hex_digits n text h = (and_parts (length text == n) (list_all is_hex_digit text) h).1

module _ (t : Triple) (fine : IsTriple t) where
  key_size : length t.key ≡ 66
  key_size = hex_size 66 t.key fine.key

  signature_size : length t.signature ≡ 128
  signature_size = hex_size 128 t.signature fine.signature

  key_is : take 66 (line t) ≡ t.key
  key_is = key_of_parts t.key (32 ∷ []) t.signature (32 ∷ []) t.digest (line t) key_size refl signature_size refl refl

  first_is : take 1 (drop 66 (line t)) ≡ 32 ∷ []
  first_is = first_of_parts t.key (32 ∷ []) t.signature (32 ∷ []) t.digest (line t) key_size refl signature_size refl refl

  signature_is : take 128 (drop 67 (line t)) ≡ t.signature
  signature_is = signature_of_parts t.key (32 ∷ []) t.signature (32 ∷ []) t.digest (line t) key_size refl signature_size refl refl

  second_is : take 1 (drop 195 (line t)) ≡ 32 ∷ []
  second_is = second_of_parts t.key (32 ∷ []) t.signature (32 ∷ []) t.digest (line t) key_size refl signature_size refl refl

  digest_is : drop 196 (line t) ≡ t.digest
  digest_is = digest_of_parts t.key (32 ∷ []) t.signature (32 ∷ []) t.digest (line t) key_size refl signature_size refl refl

  line_size : length (line t) ≡ 324
  line_size = size_of_parts t.key (32 ∷ []) t.signature (32 ∷ []) t.digest (line t) key_size refl signature_size refl refl
      ∙ ap (λ n. 196 + n) (hex_size 128 t.digest fine.digest)

  triple_is : triple_of (line t) ≡ t
  triple_is = rw (key_is, signature_is, digest_is) refl

  line_is_triple : is_triple (line t) ≡ true
  line_is_triple = rw (
    line_size,
    key_is,
    first_is,
    signature_is,
    second_is,
    digest_is,
    hex_digits 66 t.key fine.key,
    hex_digits 128 t.signature
        fine.signature,
    hex_digits 128 t.digest fine.digest,
  ) refl

-- ---- no line has a line feed

not_feed : (c : ℕ) → is_hex_digit c ≡ true → (c == 10) ≡ false
not_feed c h = ne_eqb c 10 (λ e. false≢true (sym (ap is_hex_digit e) ∙ h))

abbrev Lacks : List ℕ → Type 0
Lacks text = All (λ b. (b == 10) ≡ false) text

digits_lack : (text : List ℕ) → list_all is_hex_digit text ≡ true → Lacks text
digits_lack [] h = All-nil (λ b. (b == 10) ≡ false)
digits_lack (c ∷ text) h =
    let parts = and_parts (is_hex_digit c) (list_all is_hex_digit text) h in
    All-cons (λ b. (b == 10) ≡ false) c text (not_feed c parts.0) (digits_lack text parts.1)

space_lacks : Lacks (32 ∷ [])
space_lacks = All-cons (λ b. (b == 10) ≡ false) 32 [] refl (All-nil (λ b. (b == 10) ≡ false))

both_lack : (first second : List ℕ) → Lacks first → Lacks second → Lacks (first ++ second)
both_lack first second f s = All-append (λ b. (b == 10) ≡ false) first second f s

line_lacks : (t : Triple) → IsTriple t → Lacks (line t)
line_lacks t fine =
    let key = digits_lack t.key (hex_digits 66 t.key fine.key) in
    let signature = digits_lack t.signature (hex_digits 128 t.signature fine.signature) in
    let digest = digits_lack t.digest (hex_digits 128 t.digest fine.digest) in
    both_lack (t.key ++ 32 ∷ [] ++ t.signature ++ 32 ∷ []) t.digest
    (both_lack (t.key ++ 32 ∷ [] ++ t.signature) (32 ∷ []) (both_lack (t.key ++ 32 ∷ []) t.signature
    (both_lack t.key (32 ∷ []) key space_lacks) signature) space_lacks)
    digest

-- ---- the lines of the whole text

lines_are : (triples : List Triple) → AllByRecursion IsTriple triples → lines_of (list_text triples) ≡ map line triples ++ [] ∷ []
lines_are [] all = refl
lines_are (t ∷ triples) all =
    ap (λ whole. lines_of whole) (append_assoc (line t) (10 ∷ []) (list_text triples))
    ∙ slice_split_at (λ b. b == 10) (line t) 10 (list_text triples) (line_lacks t all.0) refl
    ∙ ap (λ lines. line t ∷ lines) (lines_are triples all.1)

not_empty : (t : Triple) (fine : IsTriple t) → is_empty (line t) ≡ false
not_empty t fine = ap (λ n. n == 0) (line_size t fine)

not_bad : (t : Triple) (fine : IsTriple t) → is_bad_line (line t) ≡ false
not_bad t fine = rw (not_empty t fine, line_is_triple t fine) refl

all_pass : (triples : List Triple) → AllByRecursion IsTriple triples
    → prefix_len (λ one. not (is_bad_line one)) (map line triples ++ [] ∷ []) ≡ length (map line triples ++ [] ∷ [])
all_pass [] all = refl
all_pass (t ∷ triples) all = rw (not_bad t all.0) (omega (arith, all_pass triples all.1))

none_bad : (triples : List Triple) → AllByRecursion IsTriple triples → position is_bad_line (map line triples ++ [] ∷ []) ≡ None
none_bad triples all =
    let lines = map line triples ++ [] ∷ [] in
    cond-false (nat_lt (prefix_len (λ one. not (is_bad_line one)) lines) (length lines)) (Some (prefix_len (λ one. not (is_bad_line one)) lines)) None
    (le-ltb (prefix_len (λ one. not (is_bad_line one)) lines) (length lines) (omega (arith, all_pass triples all)))

all_listed : (triples : List Triple) → AllByRecursion IsTriple triples
    → map triple_of (filter (λ one. not (is_empty one)) (map line triples ++ [] ∷ [])) ≡ triples
all_listed [] all = refl
all_listed (t ∷ triples) all = rw (not_empty t all.0, triple_is t all.0, all_listed triples all.1) refl

pub list_is_read : ListIsRead
list_is_read triples all =
    let lines = lines_are triples all in (
      ap (λ found. option_map (λ i. i + 1) (position is_bad_line found)) lines ∙ ap (option_map (λ i. i + 1)) (none_bad triples all),
      ap (λ found. map triple_of (filter (λ one. not (is_empty one)) found)) lines ∙ all_listed triples all,
    )
