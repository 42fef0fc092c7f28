-- The texts of places are known again.
use Rattle.std.proofs.Common.{◌≡◌, ℕ, true, List, [], refl, sym, ap, ◌∙◌}
use Rattle.hex.specs.Hex.{encode_lower}
use Rattle.saw_address.specs.Maps.{is_address}
use Rattle.saw_address.specs.Texts.{is_address_text}
use Rattle.saw_address.proofs.Digits.{is_address_text-encode_lower}
use Rattle.saw_link.proofs.Places.{place_at}
use Rattle.saw_link.specs.Hearing.{place_of}
use Rattle.saw_messages.specs.declared.talk.Place.TheVariants.{At, Bad}

pub no_place : place_of [] ≡ Bad
unfolding place_of
no_place = refl

pub place_again : (text address : List ℕ) → is_address address ≡ true → text ≡ encode_lower address → place_of text ≡ At address
place_again text address is value =
    sym (place_at text address (ap is_address_text value ∙ is_address_text-encode_lower address is) is (sym value))
