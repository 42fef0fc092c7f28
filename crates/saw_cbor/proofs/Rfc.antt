-- Examples of RFC 8949, appendix A, and heads that the profile refuses.
use Rattle.std.proofs.Common.{◌≡◌, ℕ, List, [], ◌∷◌, codes, Ok, Err, refl}
use Rattle.saw_cbor.specs.declared.fault.CborFault.TheVariants.{Unsupported, Deep, Rest}
use Rattle.saw_cbor.specs.Data.{Cbor, unsigned, negative, bytes, text, list, pairs, no_items, item, no_pairs, pair}
use Rattle.saw_cbor.specs.Reading.{head_from, head_at, content_at, leaf_at, item_at, items_at, pairs_at, reading}
use Rattle.saw_cbor.specs.Writing.{head, written}

last_of_one_byte : written (unsigned 23) ≡ 0x17 ∷ []
unfolding head
last_of_one_byte = refl

first_of_two_bytes : written (unsigned 24) ≡ 0x18 ∷ 0x18 ∷ []
unfolding head
first_of_two_bytes = refl

thousand : written (unsigned 1000) ≡ 0x19 ∷ 0x03 ∷ 0xe8 ∷ []
unfolding head
thousand = refl

million : written (unsigned 1000000) ≡ 0x1a ∷ 0x00 ∷ 0x0f ∷ 0x42 ∷ 0x40 ∷ []
unfolding head
million = refl

largest : written (unsigned 18446744073709551615) ≡ 0x1b ∷ 0xff ∷ 0xff ∷ 0xff ∷ 0xff ∷ 0xff ∷ 0xff ∷ 0xff ∷ 0xff ∷ []
unfolding head
largest = refl

minus_thousand : written (negative 999) ≡ 0x39 ∷ 0x03 ∷ 0xe7 ∷ []
unfolding head
minus_thousand = refl

-- [1, [2, 3], [4, 5]]
abbrev nested : Cbor
nested = list (item (unsigned 1) (item (list (item (unsigned 2) (item (unsigned 3) no_items)))
    (item (list (item (unsigned 4) (item (unsigned 5) no_items))) no_items)))

abbrev nested_bytes : List ℕ
nested_bytes = 0x83 ∷ 0x01 ∷ 0x82 ∷ 0x02 ∷ 0x03 ∷ 0x82 ∷ 0x04 ∷ 0x05 ∷ []

nested-written : written nested ≡ nested_bytes
unfolding head
nested-written = refl

nested-read : reading 2 nested_bytes ≡ Ok nested
unfolding reading item_at items_at pairs_at head_at head_from content_at leaf_at
nested-read = refl

nested-deep : reading 1 nested_bytes ≡ Err Deep
unfolding reading item_at items_at pairs_at head_at head_from content_at leaf_at
nested-deep = refl

-- {"a": 1, "b": [2, 3]}
abbrev mapped : Cbor
mapped = pairs (pair (text (codes "a")) (unsigned 1) (pair (text (codes "b")) (list (item (unsigned 2) (item (unsigned 3) no_items))) no_pairs))

abbrev mapped_bytes : List ℕ
mapped_bytes = 0xa2 ∷ 0x61 ∷ 0x61 ∷ 0x01 ∷ 0x61 ∷ 0x62 ∷ 0x82 ∷ 0x02 ∷ 0x03 ∷ []

mapped-written : written mapped ≡ mapped_bytes
unfolding head
mapped-written = refl

four_bytes-read : reading 0 (0x44 ∷ 0x01 ∷ 0x02 ∷ 0x03 ∷ 0x04 ∷ []) ≡ Ok (bytes (1 ∷ 2 ∷ 3 ∷ 4 ∷ []))
unfolding reading item_at items_at pairs_at head_at head_from content_at leaf_at
four_bytes-read = refl

-- half of a float, a tag, a list with no length, and a value that is undefined
float-refused : reading 0 (0xf9 ∷ 0x00 ∷ 0x00 ∷ []) ≡ Err (Unsupported 0)
unfolding reading item_at items_at pairs_at head_at head_from content_at leaf_at
float-refused = refl

tag-refused : reading 0 (0xc1 ∷ 0x1a ∷ 0x51 ∷ 0x4b ∷ 0x67 ∷ 0xb0 ∷ []) ≡ Err (Unsupported 0)
unfolding reading item_at items_at pairs_at head_at head_from content_at leaf_at
tag-refused = refl

open_list-refused : reading 2 (0x82 ∷ 0x01 ∷ 0x9f ∷ 0xff ∷ []) ≡ Err (Unsupported 2)
unfolding reading item_at items_at pairs_at head_at head_from content_at leaf_at
open_list-refused = refl

undefined-refused : reading 0 (0xf7 ∷ []) ≡ Err (Unsupported 0)
unfolding reading item_at items_at pairs_at head_at head_from content_at leaf_at
undefined-refused = refl

two_items-refused : reading 0 (0xf6 ∷ 0xf5 ∷ []) ≡ Err (Rest 1)
unfolding reading item_at items_at pairs_at head_at head_from content_at leaf_at
two_items-refused = refl
