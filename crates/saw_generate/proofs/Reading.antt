-- A generated transaction is read back from its bytes, and does what its payload says.
use Rattle.std.proofs.Common.{◌≡◌, ℕ, zero, suc, ◌+◌, ◌<◌, ◌≤◌, ◌^◌, ◌==◌, true, nat_lt, List, [], ◌∷◌, ◌++◌, length, codes, Ok, refl, ap, arith}
use Rattle.std.specs.Fmt.{decimal}
use Rattle.std.specs.List.{list_all}
use Rattle.std.specs.Str.{IsAscii}
use Rattle.std.proofs.lemmas.Bool.{and_from, and_parts, eq-eqb, ltb-true}
use Rattle.std.proofs.lemmas.Fmt.{IsAscii-decimal, length-decimal-le}
use Rattle.std.proofs.lemmas.List.{length-append}
use Rattle.std.proofs.lemmas.Str.{IsAscii-append, IsUtf8-from_ascii, is_utf8-from_IsUtf8}
use Rattle.std.proofs.lemmas.Str.Ascii.{IsAscii-cons, IsAscii-nil}
use Rattle.hex.specs.Hex.{IsBytes, encode_lower, lower_digits}
use Rattle.hex.proofs.HexLemmas.{length-encode_with}
use Rattle.sha2.specs.Sha512.{sha512}
use Rattle.sha2.proofs.Facts512.{length-sha512}
use Rattle.saw_address.proofs.Digits.{is_address_text-encode_lower, list_all-encode_lower}
use Rattle.saw_address.specs.Texts.{is_hex_digit, is_hex_text}
use Rattle.saw_intkey.specs.Actions.{address_of, family_name, family_version}
use Rattle.saw_intkey.specs.Payloads.{payload_bytes}
use Rattle.saw_intkey.specs.declared.payload.Payload.{Payload}
use Rattle.saw_messages.specs.ReadBack.{IsText}
use Rattle.saw_messages.specs.Transactions.{transaction_header}
use Rattle.saw_messages.specs.TxShapes.{header_by, shape_in}
use Rattle.saw_publish.proofs.HexTexts.{hex_text, length-hex_text}
use Rattle.saw_publish.specs.Candidates.{Signing}
use Rattle.saw_generate.specs.Signed.{header_bytes, header_of, nonce_at, transaction}
use Rattle.saw_generate.proofs.Addresses.{address_is, sha512_are}
use Rattle.saw_generate.proofs.HeadersBack.{header_back}
use Rattle.saw_generate.proofs.Shapes.{IsFor}
use Rattle.saw_generate.proofs.Sizes.{header_short}

-- ---- texts

text_of : (text : List ℕ) → IsAscii text → IsText text
text_of text ascii = is_utf8-from_IsUtf8 text (IsUtf8-from_ascii text ascii)

-- bytes below 128, by a test of all
codes_ascii : (text : List ℕ) → list_all (λ c. nat_lt c 128) text ≡ true → IsAscii text
codes_ascii [] all = IsAscii-nil
codes_ascii (c ∷ text) all =
    let parts = and_parts (nat_lt c 128) (list_all (λ c. nat_lt c 128) text) all in
    IsAscii-cons c text (ltb-true c 128 parts.0) (codes_ascii text parts.1)

byte_at_place : (xs : List ℕ) → list_all (λ b. nat_lt b 256) xs ≡ true → IsBytes xs
byte_at_place [] are i = omega arith
byte_at_place (x ∷ xs) are zero = ltb-true x 256 (and_parts (nat_lt x 256) _ are).0
byte_at_place (x ∷ xs) are (suc i) = byte_at_place xs (and_parts (nat_lt x 256) _ are).1 i

-- a digest in digits
digest_text : (bytes : List ℕ) → is_hex_text 128 (encode_lower (sha512 bytes)) ≡ true
digest_text bytes =
    let digits = encode_lower (sha512 bytes) in
    let size = length-sha512 bytes in
    let twice = length-encode_with lower_digits (sha512 bytes) in
    and_from (length digits == 128) (list_all is_hex_digit digits) (eq-eqb (length digits) 128 (omega (arith, size, twice)))
    (list_all-encode_lower (sha512 bytes) (byte_at_place (sha512 bytes) (sha512_are bytes)))

family_text : IsText family_name
family_text = text_of family_name (codes_ascii family_name refl)

version_text : IsText family_version
version_text = text_of family_version (codes_ascii family_version refl)

-- a nonce of small numbers
pub record IsNonce (nonce : List ℕ) : Type 0 where
  pub text : IsText nonce
  pub short : length nonce ≤ 200

slash_ascii : IsAscii (codes "/")
slash_ascii = IsAscii-cons 47 [] (omega arith) IsAscii-nil

pub is_nonce : (b k t : ℕ) → b < 10000 → k < 10000 → t < 10000 → IsNonce (nonce_at b k t)
is_nonce b k t one two three =
    let first = decimal b in
    let second = decimal k in
    let third = decimal t in
    let low : b < 2 ^ 64 = omega arith in
    let mid : k < 2 ^ 64 = omega arith in
    let high : t < 2 ^ 64 = omega arith in
    let a = length-decimal-le 4 b (omega arith) (omega arith) low in
    let c = length-decimal-le 4 k (omega arith) (omega arith) mid in
    let d = length-decimal-le 4 t (omega arith) (omega arith) high in
    let slash = codes "/" in
    let s1 = length-append first slash in
    let s2 = length-append (first ++ slash) second in
    let s3 = length-append (first ++ slash ++ second) slash in
    let s4 : length (nonce_at b k t) ≡ length (first ++ slash ++ second ++ slash) + length third = length-append (first ++ slash ++ second ++ slash) third in
    record {
      text = text_of (nonce_at b k t)
          (IsAscii-append (first ++ slash ++ second ++ slash) third
          (IsAscii-append (first ++ slash ++ second) slash
          (IsAscii-append (first ++ slash) second (IsAscii-append first slash (IsAscii-decimal b low) slash_ascii) (IsAscii-decimal k mid)) slash_ascii)
          (IsAscii-decimal t high));
      short = omega (arith, a, c, d, s1, s2, s3, s4);
    }

-- ---- the header

module _ (signing : Signing) (key : is_hex_text 66 signing.key ≡ true) (nonce : List ℕ) (is : IsNonce nonce) (payload : Payload) where
  abbrev address_text : List ℕ
  address_text = encode_lower (address_of payload.name)

  is_address_text : is_hex_text 70 address_text ≡ true
  is_address_text = is_address_text-encode_lower (address_of payload.name) (address_is payload.name)

  pub short : length (header_bytes signing.key nonce payload) ≤ 700
  short =
      let long = length-hex_text 66 signing.key key in
      let wide = length-hex_text 70 address_text is_address_text in
      let digest = length-hex_text 128 (encode_lower (sha512 (payload_bytes payload))) (digest_text (payload_bytes payload)) in
      header_short (header_of signing.key nonce payload) address_text address_text refl refl refl (omega (arith, long)) (omega arith) (omega arith)
      (omega (arith, wide)) is.short (omega (arith, wide)) (omega (arith, digest)) (omega (arith, long))

  pub read : transaction_header (header_bytes signing.key nonce payload) ≡ Ok (header_of signing.key nonce payload)
  read =
      header_back (header_of signing.key nonce payload) (header_bytes signing.key nonce payload) (record {
        batcher_public_key = hex_text 66 signing.key key;
        dependencies = tt;
        family_name = family_text;
        family_version = version_text;
        inputs = (hex_text 70 address_text is_address_text, tt);
        nonce = is.text;
        outputs = (hex_text 70 address_text is_address_text, tt);
        payload_sha512 = hex_text 128 (encode_lower (sha512 (payload_bytes payload))) (digest_text (payload_bytes payload));
        signer_public_key = hex_text 66 signing.key key;
      }) refl (omega (arith, short))

  -- the transaction does what its payload says
  pub is_for : IsFor payload (shape_in (transaction signing nonce payload))
  is_for = record {
    payload_is = refl;
    family = ap (λ r. (header_by r).family_name) read;
    version = ap (λ r. (header_by r).family_version) read;
    inputs = ap (λ r. (header_by r).inputs) read;
    outputs = ap (λ r. (header_by r).outputs) read;
    free = ap (λ r. (header_by r).dependencies) read;
  }
