-- What the words of options are to the lexer.
use Rattle.std.proofs.Common.{◌≡◌, ℕ, ◌+◌, ◌<◌, ◌==◌, ◌&&◌, Bool, true, false, not, suc, List, [], ◌∷◌, length, nat_eq, Some, None, true≢false, refl}
use Rattle.std.proofs.Common.{sym, ap, ◌∙◌, arith}
use Rattle.std.specs.Prelude.{nat_lt}
use Rattle.std.specs.Cmp.{nat_eq_equiv}
use Rattle.std.specs.List.{AllByRecursion, list_all, position_or_len}
use Rattle.std.specs.Str.{bytes_eq}
use Rattle.std.proofs.lemmas.Bool.{and_parts}
use Rattle.std.proofs.lemmas.Bool.Decides.{nat_tests}
use Rattle.clap.specs.Lexer.{long_of, short_of}
use Rattle.saw_words.specs.Given.{is_joined, is_option_name, is_value, name_part, value_part}

-- ---- the name of an option in its parts

pub record IsOptionName (name : List ℕ) : Type 0 where
  pub label : List ℕ
  pub spelled : name ≡ 45 ∷ 45 ∷ label
  pub some : 0 < length label
  pub whole : is_joined label ≡ false

unless : (b : Bool) → not b ≡ true → b ≡ false
unless true e = absurd (cc e)
unless false e = refl

pub parts_of : (name : List ℕ) → is_option_name name ≡ true → IsOptionName name
parts_of [] is = absurd (cc is)
parts_of (x ∷ []) is = absurd (cc (and_parts (nat_eq 45 x && false) _ is).0)
parts_of (x ∷ y ∷ label) is =
    let parts = and_parts (nat_eq 45 x && (nat_eq 45 y && true)) (nat_lt 2 (length (x ∷ y ∷ label)) && not (is_joined (x ∷ y ∷ label))) is in
    let hyphens = and_parts (nat_eq 45 x) (nat_eq 45 y && true) parts.0 in
    let behind = and_parts (nat_lt 2 (length (x ∷ y ∷ label))) (not (is_joined (x ∷ y ∷ label))) parts.1 in
    let first : 45 ≡ x = grind (arith, nat_tests, hyphens.0) in
    let second : 45 ≡ y = (let one = (and_parts (nat_eq 45 y) true hyphens.1).0 in grind (arith, nat_tests, one)) in
    let apart : is_joined (x ∷ y ∷ label) ≡ false = unless _ behind.1 in
    record {
      label = label;
      spelled = rw (← first, ← second) refl;
      some = grind (arith, nat_tests, behind.0);
      whole = rw (← first, ← second) at apart;
    }

-- each of a list
pub all_parts : (names : List (List ℕ)) → list_all is_option_name names ≡ true → AllByRecursion IsOptionName names
all_parts [] all = tt
all_parts (name ∷ names) all =
    let parts = and_parts (is_option_name name) (list_all is_option_name names) all in
    (parts_of name parts.0, all_parts names parts.1)

-- ---- a word's name and value, byte by byte

name-first : (x : ℕ) (xs : List ℕ) → (x == 61) ≡ false → name_part (x ∷ xs) ≡ x ∷ name_part xs
name-first x xs other =
    let one : 1 + position_or_len (λ b. b == 61) xs ≡ suc (position_or_len (λ b. b == 61) xs) = omega arith in
    rw (other, one) refl

value-first : (x : ℕ) (xs : List ℕ) → (x == 61) ≡ false → value_part (x ∷ xs) ≡ value_part xs
value-first x xs other =
    let one : 1 + position_or_len (λ b. b == 61) xs + 1 ≡ suc (position_or_len (λ b. b == 61) xs + 1) = omega arith in
    rw (other, one) refl

-- a word whose name begins with c, without it
record Begins (c : ℕ) (cs word : List ℕ) : Type 0 where
  rest : List ℕ
  whole : word ≡ c ∷ rest
  name : name_part rest ≡ cs
  text : value_part word ≡ value_part rest
  joined : is_joined word ≡ is_joined rest

begins : (c : ℕ) (cs word : List ℕ) → name_part word ≡ c ∷ cs → Begins c cs word
begins c cs [] e = absurd (cc)
begins c cs (x ∷ xs) e = go (x == 61) refl
  where
    go : (b : Bool) → (x == 61) ≡ b → Begins c cs (x ∷ xs)
    go true same = absurd (let bad : [] ≡ c ∷ cs = rw same at e in cc)
    go false other =
        let parts : x ∷ name_part xs ≡ c ∷ cs = sym (name-first x xs other) ∙ e in
        record {
          rest = xs;
          whole = (cc);
          name = (cc);
          text = value-first x xs other;
          joined = rw other refl;
        }

-- a text without `=` is its own name
unjoined : (xs : List ℕ) → is_joined xs ≡ false → name_part xs ≡ xs
unjoined [] e = refl
unjoined (x ∷ xs) e = go (x == 61) refl (unjoined xs)
  where
    go : (b : Bool) → (x == 61) ≡ b → (is_joined xs ≡ false → name_part xs ≡ xs) → name_part (x ∷ xs) ≡ x ∷ xs
    go true same later = absurd (let bad : true ≡ false = rw same at e in cc)
    go false other later =
        let rest : is_joined xs ≡ false = rw other at e in
        name-first x xs other ∙ ap (λ ys. x ∷ ys) (later rest)

-- ---- what the lexer makes of them

-- `--name=value`, for a name of some letters
pub joined_word : (label word : List ℕ) → 0 < length label → is_joined word ≡ true → name_part word ≡ 45 ∷ 45 ∷ label
    → (bytes_eq word (45 ∷ 45 ∷ []) ≡ false) × (long_of word ≡ Some (label, Some (value_part word)))
joined_word [] word some joined name = absurd (omega arith)
joined_word (l ∷ label) word some joined name =
    let one = begins 45 (45 ∷ l ∷ label) word name in
    let two = begins 45 (l ∷ label) one.rest one.name in
    let three = begins l label two.rest two.name in
    let is : word ≡ 45 ∷ 45 ∷ l ∷ three.rest = one.whole ∙ ap (λ xs. 45 ∷ xs) (two.whole ∙ ap (λ xs. 45 ∷ xs) three.whole) in
    let rest_joined : is_joined (l ∷ three.rest) ≡ true = ap is_joined (sym three.whole) ∙ sym two.joined ∙ sym one.joined ∙ joined in
    let rest_name : name_part (l ∷ three.rest) ≡ l ∷ label = ap name_part (sym three.whole) ∙ two.name in
    let rest_text : value_part (l ∷ three.rest) ≡ value_part word = ap value_part (sym three.whole) ∙ sym two.text ∙ sym one.text in
    (ap (λ w. bytes_eq w (45 ∷ 45 ∷ [])) is, ap long_of is ∙ made l three.rest _ _ rest_joined rest_name rest_text)
  where
    made : (x : ℕ) (xs name text : List ℕ) → is_joined (x ∷ xs) ≡ true → name_part (x ∷ xs) ≡ name → value_part (x ∷ xs) ≡ text
        → long_of (45 ∷ 45 ∷ x ∷ xs) ≡ Some (name, Some text)
    made x xs name text joined is_name is_text = rw (joined, is_name, is_text) refl

-- `--name`
pub name_word : (label : List ℕ) → 0 < length label → is_joined label ≡ false
    → (bytes_eq (45 ∷ 45 ∷ label) (45 ∷ 45 ∷ []) ≡ false) × (long_of (45 ∷ 45 ∷ label) ≡ Some (label, None))
name_word [] some whole = absurd (omega arith)
name_word (l ∷ label) some whole =
    let name : name_part (l ∷ label) ≡ l ∷ label = unjoined (l ∷ label) whole in
    (refl, made (l ∷ label) whole name)
  where
    made : (name : List ℕ) → is_joined (l ∷ label) ≡ false → name_part (l ∷ label) ≡ name → long_of (45 ∷ 45 ∷ l ∷ label) ≡ Some (name, None)
    made name apart is_name = rw (apart, is_name) refl

-- what is no option of any kind
pub record IsPlainWord (word : List ℕ) : Type 0 where
  pub no_end : bytes_eq word (45 ∷ 45 ∷ []) ≡ false
  pub no_long : long_of word ≡ None
  pub no_short : short_of word ≡ None

-- a value is none
pub value_word : (word : List ℕ) → is_value word ≡ true → IsPlainWord word
value_word [] fine = absurd (cc)
value_word (x ∷ xs) fine = go (nat_eq 45 x) refl
  where
    go : (b : Bool) → nat_eq 45 x ≡ b → IsPlainWord (x ∷ xs)
    go true same =
        let first : not (nat_eq 45 x && true) ≡ true = (and_parts _ _ fine).1 in
        let bad : false ≡ true = rw same at first in
        absurd (true≢false (sym bad))
    go false differs =
        let other : (x == 45) ≡ false = nat_eq_equiv.symm x 45 ∙ differs in
        record { no_end = rw other refl; no_long = rw other refl; no_short = rw other refl }
