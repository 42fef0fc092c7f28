-- The lines of triples.
use Rattle.std.proofs.Common.{◌≡◌, ℕ, ◌+◌, ◌-◌, Bool, true, false, ◌&&◌, List, [], ◌∷◌, ◌++◌, ◌==◌, length, take, drop, refl, sym, ap, ◌∙◌, arith}
use Rattle.std.proofs.Common.{length-append, append_assoc}
use Rattle.std.specs.List.{list_all}
use Rattle.std.specs.Str.{bytes_eq}
use Rattle.std.proofs.lemmas.Bool.{and_parts, and_from, false_from_ne_true, eqb-true, eq-eqb}
use Rattle.std.proofs.lemmas.Bool.Decides.{same_from_decides}
use Rattle.std.proofs.lemmas.List.{take_rest, take-take, take_at, drop-take, drop_at, take-append-drop, length-take, length-drop}
use Rattle.std.proofs.lemmas.Slice.Eq.{bytes_eq-Decides}
use Rattle.saw_address.specs.Texts.{is_hex_digit}
use Rattle.saw_verify.specs.Lists.{Triple, triple_of, is_triple, is_empty}
use Rattle.saw_verify.specs.Held.{line_of}

-- where the two words stand, the digest decides
pub is_triple_by : (line : List ℕ) → length line ≡ 324
    → (list_all is_hex_digit (take 66 line) && bytes_eq (take 1 (drop 66 line)) (32 ∷ [])) ≡ true
    → (list_all is_hex_digit (take 128 (drop 67 line)) && bytes_eq (take 1 (drop 195 line)) (32 ∷ [])) ≡ true
    → list_all is_hex_digit (take (length line - 196) (drop 196 line)) ≡ is_triple line
is_triple_by line size key signature =
    let first = and_parts (list_all is_hex_digit (take 66 line)) (bytes_eq (take 1 (drop 66 line)) (32 ∷ [])) key in
    let second = and_parts (list_all is_hex_digit (take 128 (drop 67 line))) (bytes_eq (take 1 (drop 195 line)) (32 ∷ [])) signature in
    rw (take_rest line 196, size, first.0, first.1, second.0, second.1) refl

-- ---- the parts of a line

take_joined : (n m : ℕ) (xs : List ℕ) → take n xs ++ take m (drop n xs) ≡ take (n + m) xs
take_joined n m xs =
    let front = take-take n (n + m) xs (omega arith) in
    let back = drop-take n m xs in
    let whole = take-append-drop n (take (n + m) xs) in
    cc

-- a line is its parts, one after another
joined_parts : (line first second : List ℕ) → take 1 (drop 66 line) ≡ first → take 1 (drop 195 line) ≡ second
    → take 66 line ++ first ++ take 128 (drop 67 line) ++ second ++ drop 196 line ≡ line
joined_parts line first second is_first is_second =
    rw (← is_first, ← is_second, take_joined 66 1 line, take_joined 67 128 line, take_joined 195 1 line) (take-append-drop 196 line)

module _ (key first signature second digest line : List ℕ) (key_size : length key ≡ 66) (first_size : length first ≡ 1)
    (signature_size : length signature ≡ 128) (second_size : length second ≡ 1)
    (is : key ++ first ++ signature ++ second ++ digest ≡ line) where
  by_key : line ≡ key ++ (first ++ (signature ++ (second ++ digest)))
  by_key = sym is ∙ simp append_assoc

  by_signature : line ≡ key ++ first ++ (signature ++ (second ++ digest))
  by_signature = sym is ∙ simp append_assoc

  pub key_of_parts : take 66 line ≡ key
  key_of_parts = ap (take 66) by_key ∙ take_at key (first ++ (signature ++ (second ++ digest))) 66 key_size

  behind_key : drop 67 line ≡ signature ++ (second ++ digest)
  behind_key = ap (drop 67) by_signature ∙ drop_at (key ++ first) (signature ++ (second ++ digest)) 67 (omega (arith, length-append key first))

  pub signature_of_parts : take 128 (drop 67 line) ≡ signature
  signature_of_parts = ap (take 128) behind_key ∙ take_at signature (second ++ digest) 128 signature_size

  pub digest_of_parts : drop 196 line ≡ digest
  digest_of_parts =
      ap (drop 196) (sym is)
      ∙ drop_at (key ++ first ++ signature ++ second) digest 196
      (omega (arith, length-append (key ++ first ++ signature) second, length-append (key ++ first) signature, length-append key first))

  pub first_of_parts : take 1 (drop 66 line) ≡ first
  first_of_parts = ap (λ (v : List ℕ). take 1 v) (ap (drop 66) by_key ∙ drop_at key (first ++ (signature ++ (second ++ digest))) 66 key_size)
      ∙ take_at first (signature ++ (second ++ digest)) 1 first_size

  pub second_of_parts : take 1 (drop 195 line) ≡ second
  second_of_parts =
      ap (λ (v : List ℕ). take 1 v)
      (ap (drop 195) (sym is ∙ append_assoc (key ++ first ++ signature) second digest)
      ∙ drop_at (key ++ first ++ signature) (second ++ digest) 195 (omega (arith, length-append (key ++ first) signature, length-append key first)))
      ∙ take_at second digest 1 second_size

  pub size_of_parts : length line ≡ 196 + length digest
  size_of_parts = ap (λ (v : List ℕ). length v) (sym is) ∙ omega (
    arith,
    length-append (key ++ first ++ signature ++ second) digest,
    length-append (key ++ first ++ signature) second,
    length-append
        (key ++ first) signature,
    length-append key first,
  )

-- ---- a line and its triple

-- what is told of the bytes of a triple's line
record Spaced (line : List ℕ) : Type 0 where
  size : length line ≡ 324
  first : take 1 (drop 66 line) ≡ 32 ∷ []
  second : take 1 (drop 195 line) ≡ 32 ∷ []

odd_parts : (a b c d e f : Bool) → (a && b && c && d && e && f) ≡ true → (a ≡ true) × (c ≡ true) × (e ≡ true)
odd_parts a b c d e f h =
    let five = and_parts (a && b && c && d && e) f h in
    let four = and_parts (a && b && c && d) e five.0 in
    let three = and_parts (a && b && c) d four.0 in
    let two = and_parts (a && b) c three.0 in
    ((and_parts a b two.0).0, two.1, four.1)

spaced : (line : List ℕ) → is_triple line ≡ true → Spaced line
spaced line h =
    let tests = odd_parts (length line == 324) (list_all is_hex_digit (take 66 line)) (bytes_eq (take 1 (drop 66 line)) (32 ∷ []))
    (list_all is_hex_digit (take 128 (drop 67 line))) (bytes_eq (take 1 (drop 195 line)) (32 ∷ [])) (list_all is_hex_digit (drop 196 line)) h in
    record {
      size = eqb-true (length line) 324 tests.0;
      first = (bytes_eq-Decides (take 1 (drop 66 line)) (32 ∷ [])).0 tests.1;
      second = (bytes_eq-Decides (take 1 (drop 195 line)) (32 ∷ [])).0 tests.2;
    }

module _ (key signature digest : List ℕ) where
  -- a triple is of this key, signature and digest
  abbrev pub matches : Triple → Bool
  matches triple = bytes_eq triple.key key && bytes_eq triple.signature signature && bytes_eq triple.digest digest

  -- the sizes of a key and a signature
  abbrev pub fits : Bool
  fits = length key == 66 && length signature == 128

  abbrev pub asked : List ℕ
  asked = line_of key signature digest

  same_parts : (triple : Triple) → matches triple ≡ true → (triple.key ≡ key) × (triple.signature ≡ signature) × (triple.digest ≡ digest)
  same_parts triple h =
      let third = and_parts (bytes_eq triple.key key && bytes_eq triple.signature signature) (bytes_eq triple.digest digest) h in
      let second = and_parts (bytes_eq triple.key key) (bytes_eq triple.signature signature) third.0 in (
        (bytes_eq-Decides triple.key key).0 second.0,
        (bytes_eq-Decides triple.signature signature).0 second.1,
        (bytes_eq-Decides triple.digest digest).0 third.1,
      )

  matches_by : (triple : Triple) → triple.key ≡ key → triple.signature ≡ signature → triple.digest ≡ digest → matches triple ≡ true
  matches_by triple first second third =
      and_from (bytes_eq triple.key key && bytes_eq triple.signature signature) (bytes_eq triple.digest digest)
      (and_from (bytes_eq triple.key key) (bytes_eq triple.signature signature) ((bytes_eq-Decides triple.key key).1 first)
      ((bytes_eq-Decides triple.signature signature).1 second))
      ((bytes_eq-Decides triple.digest digest).1 third)

  module _ (line : List ℕ) (triple : is_triple line ≡ true) where
    -- the line that was asked for has the triple
    matches_asked : (fits && bytes_eq asked line) ≡ true → matches (triple_of line) ≡ true
    matches_asked h =
        let found = and_parts fits (bytes_eq asked line) h in
        let sizes = and_parts (length key == 66) (length signature == 128) found.0 in
        let key_size = eqb-true (length key) 66 sizes.0 in
        let signature_size = eqb-true (length signature) 128 sizes.1 in
        let is = (bytes_eq-Decides asked line).0 found.1 in
        matches_by (triple_of line)
        (key_of_parts key (32 ∷ []) signature (32 ∷ []) digest line key_size refl signature_size refl is)
        (signature_of_parts key (32 ∷ []) signature (32 ∷ []) digest line key_size refl signature_size refl is)
        (digest_of_parts key (32 ∷ []) signature (32 ∷ []) digest line key_size refl signature_size refl is)

    -- the triple's line is the one that was asked for
    asked_matches : matches (triple_of line) ≡ true → (fits && bytes_eq asked line) ≡ true
    asked_matches h =
        let told = spaced line triple in
        let same = same_parts (triple_of line) h in
        let is : asked ≡ line = rw (← same.0, ← same.1, ← same.2) (joined_parts line (32 ∷ []) (32 ∷ []) told.first told.second) in
        let key_size : length key ≡ 66 = omega (arith, told.size, ap length same.0, length-take 66 line) in
        let signature_size : length signature ≡ 128 = omega (arith, told.size, ap length same.1, length-take 128 (drop 67 line), length-drop 67 line) in
        and_from fits (bytes_eq asked line)
        (and_from (length key == 66) (length signature == 128) (eq-eqb (length key) 66 key_size) (eq-eqb (length signature) 128 signature_size))
        ((bytes_eq-Decides asked line).1 is)

    pub same_answer : (fits && bytes_eq asked line) ≡ matches (triple_of line)
    same_answer = same_from_decides {P = matches (triple_of line) ≡ true} (fits && bytes_eq asked line) (matches (triple_of line))
        (matches_asked, asked_matches) (λ h. h, λ h. h)

  -- no line that is asked for is empty
  pub asked_filled : (line : List ℕ) → is_empty line ≡ true → bytes_eq asked line ≡ false
  asked_filled line empty = false_from_ne_true (bytes_eq asked line) (λ h.
      let is = (bytes_eq-Decides asked line).0 h in
      absurd (omega (
        arith,
        eqb-true (length line) 0 empty,
        ap length is,
        length-append (key ++ 32 ∷ [] ++ signature ++ 32 ∷ []) digest,
        length-append
            (key ++ 32 ∷ [] ++ signature) (32 ∷ []),
      )))
