-- What several external processors all offer.
use Rattle.std.specs.Prelude.{Bool, List, [], ◌∷◌}
use Rattle.std.specs.List.{filter, list_all}
use Rattle.saw_station.specs.Serving.{is_offered}
use Rattle.saw_station.specs.declared.offer.Offer.{Offer}

-- whether the offer is among all of these
abbrev pub is_common : List (List Offer) → Offer → Bool
is_common lists offer = list_all (λ offers. is_offered offers offer.family offer.version) lists

-- the offers of the first that all others have, in its order
abbrev pub common : List (List Offer) → List Offer
common [] = []
common (first ∷ others) = filter (is_common others) first
