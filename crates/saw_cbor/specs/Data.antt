-- The items of the profile of CBOR (RFC 8949), apart from how a program keeps them.
use Rattle.std.specs.Prelude.{ℕ, Bool, ◌+◌, max, List}

mutual
  pub data Cbor : Type 0 where
    unsigned : ℕ → Cbor
    -- minus 1 minus this number
    negative : ℕ → Cbor
    bytes : List ℕ → Cbor
    text : List ℕ → Cbor
    list : Items → Cbor
    pairs : Pairs → Cbor
    null : Cbor
    boolean : Bool → Cbor

  pub data Items : Type 0 where
    no_items : Items
    item : Cbor → Items → Items

  pub data Pairs : Type 0 where
    no_pairs : Pairs
    pair : Cbor → Cbor → Pairs → Pairs

abbrev pub items_count : Items → ℕ
items_count no_items = 0
items_count (item c rest) = items_count rest + 1

abbrev pub pairs_count : Pairs → ℕ
pairs_count no_pairs = 0
pairs_count (pair key value rest) = pairs_count rest + 1

-- how many containers the innermost item stands inside
abbrev mutual
  pub nesting : Cbor → ℕ
  nesting (unsigned n) = 0
  nesting (negative n) = 0
  nesting (bytes content) = 0
  nesting (text content) = 0
  nesting (list items) = items_nesting items
  nesting (pairs ps) = pairs_nesting ps
  nesting null = 0
  nesting (boolean b) = 0

  -- of what stands in a container: 0 where it is empty
  pub items_nesting : Items → ℕ
  items_nesting no_items = 0
  items_nesting (item c rest) = max (nesting c + 1) (items_nesting rest)

  pub pairs_nesting : Pairs → ℕ
  pairs_nesting no_pairs = 0
  pairs_nesting (pair key value rest) = max (max (nesting key + 1) (nesting value + 1)) (pairs_nesting rest)
