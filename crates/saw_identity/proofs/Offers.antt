-- Offers in common of stations that all serve the family.
use Rattle.std.proofs.Common.{◌≡◌, ℕ, Bool, true, false, cond, not, ◌&&◌, ◌||◌, List, [], ◌∷◌, map, refl, sym, ap, ap₂, ◌∙◌}
use Rattle.std.proofs.lemmas.Bool.{and_parts}
use Rattle.std.proofs.lemmas.Slice.Eq.{bytes_eq-Decides}
use Rattle.std.specs.List.{filter, list_any}
use Rattle.std.specs.Str.{bytes_eq}
use Rattle.saw_station.specs.CommonOffers.{common, is_common}
use Rattle.saw_station.specs.Serving.{is_offered}
use Rattle.saw_station.specs.declared.offer.Offer.{Offer}
use Rattle.saw_identity.specs.Actions.{family_name, family_version}
use Rattle.saw_identity.specs.Stations.{identity_offers, is_identity}

abbrev is_other : Offer → Bool
is_other offer = not (is_identity offer.family offer.version)

abbrev fits : List ℕ → List ℕ → Offer → Bool
fits family version offer = bytes_eq family offer.family && bytes_eq version offer.version

clash : (b : Bool) → b ≡ false → not b ≡ false → ⊥
clash true is other = absurd cc
clash false is other = absurd cc

not_true : (b : Bool) → not b ≡ true → b ≡ false
not_true true other = absurd cc
not_true false other = refl

-- ---- an offer of another family

-- no offer of the family is one of it
apart_by : (family version : List ℕ) (offer : Offer) (b : Bool) → is_identity family version ≡ false → is_other offer ≡ false
    → fits family version offer ≡ b → fits family version offer ≡ false
apart_by family version offer false other own is = is
apart_by family version offer true other own is =
    let both = and_parts _ _ is in
    let name = (bytes_eq-Decides family offer.family).0 both.0 in
    let its_version = (bytes_eq-Decides version offer.version).0 both.1 in
    absurd (clash (is_identity offer.family offer.version) (ap₂ is_identity (sym name) (sym its_version) ∙ other) own)

any_by : (family version : List ℕ) (offer : Offer) (offers : List Offer) (b : Bool) → is_identity family version ≡ false → is_other offer ≡ b
    → list_any (fits family version) (filter is_other offers) ≡ list_any (fits family version) offers
    → list_any (fits family version) (cond b (offer ∷ filter is_other offers) (filter is_other offers)) ≡ list_any (fits family version) (offer ∷ offers)
any_by family version offer offers true other is so_far = ap (λ more. fits family version offer || more) so_far
any_by family version offer offers false other is so_far =
    so_far ∙ ap (λ first. first || list_any (fits family version) offers) (sym (apart_by family version offer _ other is refl))

any_same : (family version : List ℕ) (offers : List Offer) → is_identity family version ≡ false
    → list_any (fits family version) (filter is_other offers) ≡ list_any (fits family version) offers
any_same family version [] other = refl
any_same family version (offer ∷ offers) other = any_by family version offer offers _ other refl (any_same family version offers other)

offered_same : (family version : List ℕ) (offers : List Offer) → is_identity family version ≡ false
    → is_offered (identity_offers offers) family version ≡ is_offered offers family version
offered_same family version offers other = rw other (any_same family version offers other)

common_same : (offer : Offer) (lists : List (List Offer)) → is_identity offer.family offer.version ≡ false
    → is_common (map identity_offers lists) offer ≡ is_common lists offer
common_same offer [] other = refl
common_same offer (offers ∷ lists) other =
    rw (offered_same offer.family offer.version offers other)
    (ap (λ more. is_offered offers offer.family offer.version && more) (common_same offer lists other))

-- ---- the family itself

own_common : (lists : List (List Offer)) → is_common (map identity_offers lists) (record { family = family_name; version = family_version }) ≡ true
own_common [] = refl
own_common (offers ∷ lists) = own_common lists

-- ---- all

swapped_by : (others : List (List Offer)) (offer : Offer) (offers : List Offer) (other own : Bool) → is_other offer ≡ other → is_common others offer ≡ own
    → filter (is_common (map identity_offers others)) (filter is_other offers) ≡ filter is_other (filter (is_common others) offers)
    → filter (is_common (map identity_offers others)) (cond other (offer ∷ filter is_other offers) (filter is_other offers))
    ≡ filter is_other (cond own (offer ∷ filter (is_common others) offers) (filter (is_common others) offers))
swapped_by others offer offers true true is common so_far =
    rw (common_same offer others (not_true (is_identity offer.family offer.version) is), common, is) (ap (λ more. offer ∷ more) so_far)
swapped_by others offer offers true false is common so_far =
    rw (common_same offer others (not_true (is_identity offer.family offer.version) is), common) so_far
swapped_by others offer offers false true is common so_far = rw is so_far
swapped_by others offer offers false false is common so_far = so_far

swapped : (others : List (List Offer)) (offers : List Offer)
    → filter (is_common (map identity_offers others)) (filter is_other offers) ≡ filter is_other (filter (is_common others) offers)
swapped others [] = refl
swapped others (offer ∷ offers) = swapped_by others offer offers _ _ refl refl (swapped others offers)

pub common_with_identity : (first : List Offer) (others : List (List Offer)) → common (map identity_offers (first ∷ others)) ≡ identity_offers (common (first ∷ others))
common_with_identity first others =
    rw (own_common others) (ap (λ (more : List Offer). record { family = family_name; version = family_version } ∷ more) (swapped others first))
