-- The room of a candidate.
use Rattle.std.specs.Prelude.{ℕ, ◌+◌, Bool, ◌&&◌, List, [], ◌∷◌, ◌++◌, length, sum_by, nat_le, Some, None, if◌then◌else◌}
use Rattle.saw_messages.specs.Batches.{batch_pieces}
use Rattle.saw_messages.specs.declared.batch.Batch.{Batch}
use Rattle.saw_receipts.specs.declared.loss.LossCause.TheVariants as causes
use Rattle.saw_wire.specs.Writing.{spelled}
use Rattle.saw_publish.specs.Fates.{Fates}

-- how many transactions batches have in all
abbrev pub transactions_in : List Batch → ℕ
transactions_in batches = sum_by (λ batch. length batch.transactions) batches

-- the bytes of a batch as it is written
abbrev pub encoded : Batch → List ℕ
encoded batch = spelled (batch_pieces batch)

-- how many bytes batches have in all, as they are written
abbrev pub bytes_in : List Batch → ℕ
bytes_in batches = sum_by (λ batch. length (encoded batch)) batches

-- whether a batch finds room beside those that found it: 20,000 transactions and 12,582,912 bytes in all
abbrev pub finds_room : List Batch → Batch → Bool
finds_room there batch =
    nat_le (transactions_in there + length batch.transactions) 20000 && nat_le (bytes_in there + length (encoded batch)) 12582912

-- the fates of batches that are put in one after another beside some, each where it finds room
abbrev pub room_fates : List Batch → List Batch → Fates
room_fates there [] = []
room_fates there (batch ∷ batches) =
    if finds_room there batch then None ∷ room_fates (there ++ batch ∷ []) batches
    else Some causes.Room ∷ room_fates there batches
