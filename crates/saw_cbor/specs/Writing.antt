-- The one written form of an item: RFC 8949, section 4.2.1, heads as short as they can be.
use Rattle.std.specs.Prelude.{◌+◌, ◌*◌, ◌^◌, ◌<◌, ◌≡◌, ℕ, true, false, List, [], ◌∷◌, ◌++◌, length, nat_lt, if◌then◌else◌}
use Rattle.std.specs.Int.{w16, w32, w64, to_be_bytes}
use Rattle.std.specs.Str.{is_utf8}
use Rattle.saw_cbor.specs.Data.{Cbor, unsigned, negative, bytes, text, list, pairs, null, boolean, Items, no_items, item, Pairs, no_pairs, pair, items_count, pairs_count}

-- the shortest head of a major type with this argument
unfoldable pub head : ℕ → ℕ → List ℕ
head major n =
    if nat_lt n 24 then (major * 32 + n) ∷ []
    else if nat_lt n (2 ^ 8) then (major * 32 + 24) ∷ n ∷ []
    else if nat_lt n (2 ^ 16) then (major * 32 + 25) ∷ to_be_bytes w16 n
    else if nat_lt n (2 ^ 32) then (major * 32 + 26) ∷ to_be_bytes w32 n
    else (major * 32 + 27) ∷ to_be_bytes w64 n

abbrev mutual
  pub written : Cbor → List ℕ
  written (unsigned n) = head 0 n
  written (negative n) = head 1 n
  written (bytes content) = head 2 (length content) ++ content
  written (text content) = head 3 (length content) ++ content
  written (list items) = head 4 (items_count items) ++ items_written items
  written (pairs ps) = head 5 (pairs_count ps) ++ pairs_written ps
  written null = 0xf6 ∷ []
  written (boolean false) = 0xf4 ∷ []
  written (boolean true) = 0xf5 ∷ []

  pub items_written : Items → List ℕ
  items_written no_items = []
  items_written (item c rest) = written c ++ items_written rest

  pub pairs_written : Pairs → List ℕ
  pairs_written no_pairs = []
  pairs_written (pair key value rest) = written key ++ written value ++ pairs_written rest

-- what a program can hold: numbers, lengths and counts of 64 bits, and texts in UTF-8
abbrev mutual
  pub IsHeld : Cbor → Type 0
  IsHeld (unsigned n) = n < 2 ^ 64
  IsHeld (negative n) = n < 2 ^ 64
  IsHeld (bytes content) = length content < 2 ^ 64
  IsHeld (text content) = (length content < 2 ^ 64) × (is_utf8 content ≡ true)
  IsHeld (list items) = (items_count items < 2 ^ 64) × AreHeld items
  IsHeld (pairs ps) = (pairs_count ps < 2 ^ 64) × ArePairsHeld ps
  IsHeld null = Unit {0}
  IsHeld (boolean b) = Unit {0}

  pub AreHeld : Items → Type 0
  AreHeld no_items = Unit {0}
  AreHeld (item c rest) = IsHeld c × AreHeld rest

  pub ArePairsHeld : Pairs → Type 0
  ArePairsHeld no_pairs = Unit {0}
  ArePairsHeld (pair key value rest) = IsHeld key × IsHeld value × ArePairsHeld rest
