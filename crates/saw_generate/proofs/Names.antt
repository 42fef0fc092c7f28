-- The names of a generated stream: texts that differ.
use Rattle.std.proofs.Common.{◌≡◌, ℕ, ◌<◌, ◌≤◌, ◌^◌, eqb, List, [], ◌∷◌, length, ap, arith}
use Rattle.std.specs.Fmt.{decimal}
use Rattle.std.specs.Str.{IsAscii, bytes_eq, chars}
use Rattle.std.proofs.lemmas.Bool.Decides.{same_from_decides, Decides-eqb, Decides-like}
use Rattle.std.proofs.lemmas.Fmt.{IsAscii-decimal, decimal_injective, length-decimal-le}
use Rattle.std.proofs.lemmas.Slice.Eq.{bytes_eq-Decides}
use Rattle.std.proofs.lemmas.Str.{IsUtf8-from_ascii, chars-IsAscii, is_utf8-from_IsUtf8}
use Rattle.std.proofs.lemmas.Str.Ascii.{IsAscii-cons, IsAscii-nil}
use Rattle.saw_generate.specs.Operations.{hot, name_at}
use Rattle.saw_generate.proofs.Entries.{IsName}

-- ---- they are names

ascii_name : (text : List ℕ) → IsAscii text → 1 ≤ length text → length text ≤ 20 → IsName text
ascii_name text ascii some few =
    let same : length (chars text) ≡ length text = ap length (chars-IsAscii text ascii) in
    record {
      utf8 = is_utf8-from_IsUtf8 text (IsUtf8-from_ascii text ascii);
      short = omega arith;
      some = omega arith;
      few = omega arith;
    }

pub hot_is_name : IsName hot
hot_is_name =
    ascii_name hot
    (IsAscii-cons 104 (111 ∷ 116 ∷ []) (omega arith)
    (IsAscii-cons 111 (116 ∷ []) (omega arith) (IsAscii-cons 116 [] (omega arith) IsAscii-nil))) (omega arith) (omega arith)

lettered : (digits : List ℕ) → IsAscii digits → length digits ≤ 4 → IsName (110 ∷ digits)
lettered digits ascii few = ascii_name (110 ∷ digits) (IsAscii-cons 110 digits (omega arith) ascii) (omega arith) (omega arith)

pub name_at_is_name : (k : ℕ) → k < 5000 → IsName (name_at k)
name_at_is_name k low =
    let short : k < 2 ^ 64 = omega arith in
    lettered (decimal k) (IsAscii-decimal k short) (length-decimal-le 4 k (omega arith) (omega arith) short)

-- ---- they differ

behind_letter : (xs ys : List ℕ) → 110 ∷ xs ≡ 110 ∷ ys → xs ≡ ys
behind_letter xs ys e = cc

-- names of two places are equal where the places are
pub names_at : (k j : ℕ) → k < 5000 → j < 5000 → bytes_eq (name_at k) (name_at j) ≡ eqb k j
names_at k j low other =
    same_from_decides (bytes_eq (name_at k) (name_at j)) (eqb k j)
    (Decides-like {P = name_at k ≡ name_at j} {Q = k ≡ j} (bytes_eq (name_at k) (name_at j))
    (λ e. decimal_injective k j (omega arith) (omega arith) (behind_letter (decimal k) (decimal j) e))
    (λ e. ap name_at e) (bytes_eq-Decides (name_at k) (name_at j)))
    (Decides-eqb k j)
