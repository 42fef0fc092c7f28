-- Attestation lists: signatures that were tested elsewhere. The form of the lines is this project's own.
use Rattle.std.specs.Prelude.{ℕ, ◌+◌, Bool, ◌&&◌, not, List, [], ◌∷◌, map, filter, length, take, drop, Option, option_map, ◌==◌}
use Rattle.std.specs.List.{list_all, list_any, position, slice_split}
use Rattle.std.specs.Str.{bytes_eq}
use Rattle.hex.specs.Hex.{encode_lower}
use Rattle.saw_address.specs.Texts.{is_hex_digit}
use Rattle.sha2.specs.Sha512.{sha512}

-- what stands between the bytes 10. What stands behind the last of them is a line too, or has no bytes, which says nothing.
abbrev pub lines_of : List ℕ → List (List ℕ)
lines_of bytes = slice_split (λ b. b == 10) bytes

-- a key, a signature and the digest of a message
pub record Triple : Type 0 where
  pub key : List ℕ
  pub signature : List ℕ
  pub digest : List ℕ

-- the triple of a line: 66 digits, a space, 128 digits, a space, 128 digits
abbrev pub triple_of : List ℕ → Triple
triple_of line = record { key = take 66 line; signature = take 128 (drop 67 line); digest = drop 196 line }

-- exactly that many hex digits, with a space between them
abbrev pub is_triple : List ℕ → Bool
is_triple line =
    length line == 324
    && list_all is_hex_digit (triple_of line).key
    && bytes_eq (take 1 (drop 66 line)) (32 ∷ [])
    && list_all is_hex_digit (triple_of line).signature
    && bytes_eq (take 1 (drop 195 line)) (32 ∷ [])
    && list_all is_hex_digit (triple_of line).digest

abbrev pub is_empty : List ℕ → Bool
is_empty line = length line == 0

abbrev pub is_bad_line : List ℕ → Bool
is_bad_line line = not (is_empty line) && not (is_triple line)

-- the first line that is neither empty nor a triple, counted from 1
abbrev pub first_bad_line : List ℕ → Option ℕ
first_bad_line bytes = option_map (λ i. i + 1) (position is_bad_line (lines_of bytes))

-- the triples that the lines list
abbrev pub triples_of : List ℕ → List Triple
triples_of bytes = map triple_of (filter (λ line. not (is_empty line)) (lines_of bytes))

-- whether a triple is that of a key, a signature and a message, by the hex digits of the message's SHA-512
abbrev pub attests_to : List ℕ → List ℕ → List ℕ → Triple → Bool
attests_to key message signature triple =
    bytes_eq triple.key key
    && bytes_eq triple.signature signature
    && bytes_eq triple.digest (encode_lower (sha512 message))

-- whether the lines list the triple of a key, a message and a signature
abbrev pub attests : List ℕ → List ℕ → List ℕ → List ℕ → Bool
attests bytes key message signature = list_any (attests_to key message signature) (triples_of bytes)
