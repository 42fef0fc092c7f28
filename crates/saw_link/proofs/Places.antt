-- The place of an address text is that of the address.
use Rattle.std.proofs.Common.{◌≡◌, ℕ, true, List, Ok, ap, sym, refl, ◌∙◌}
use Rattle.hex.specs.Hex.{decode_of, encode_lower}
use Rattle.hex.proofs.HexLemmas.{decode_of-encode_lower}
use Rattle.saw_address.specs.Maps.{is_address}
use Rattle.saw_address.specs.Texts.{is_address_text}
use Rattle.saw_address.proofs.Digits.{IsBytes-is_address}
use Rattle.saw_messages.specs.declared.talk.Place.TheVariants.{At}
use Rattle.saw_link.specs.Hearing.{place_of}

pub place_at : (text address : List ℕ) → is_address_text text ≡ true → is_address address ≡ true → encode_lower address ≡ text → At address ≡ place_of text
unfolding place_of
place_at text address valid is value =
    let read : decode_of text ≡ Ok address = ap decode_of (sym value) ∙ decode_of-encode_lower address (IsBytes-is_address address is) in
    rw (valid, read) refl
