-- Whether transactions are of families that external processors offer.
use Rattle.std.specs.Prelude.{Bool, List}
use Rattle.std.specs.List.{list_any}
use Rattle.saw_messages.specs.TxShapes.{TxShape}
use Rattle.saw_station.specs.Serving.{is_offered}
use Rattle.saw_station.specs.declared.offer.Offer.{Offer}

abbrev pub tx_offered : List Offer → TxShape → Bool
tx_offered offers tx = is_offered offers tx.header.family_name tx.header.family_version

-- some transaction is
abbrev pub are_offered : List Offer → List (List TxShape) → Bool
are_offered offers batches = list_any (list_any (tx_offered offers)) batches
