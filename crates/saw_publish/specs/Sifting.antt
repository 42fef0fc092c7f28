-- The batches of a list that may be run, so far.
use Rattle.std.specs.Prelude.{◌≡◌, ◌≤◌, ℕ, Bool, List, [], map}
use Rattle.saw_messages.specs.declared.batch.Batch.{Batch}
use Rattle.saw_receipts.specs.Shapes.{batch_in}
use Rattle.saw_publish.specs.Drafts.{check_fates}
use Rattle.saw_publish.specs.Fates.{further, still_in}
use Rattle.saw_publish.specs.Room.{bytes_in, encoded, room_fates, transactions_in}
use Rattle.saw_publish.specs.declared.sift.Sifted.{Sifted}

-- the batches without fault
abbrev pub good_of : (List ℕ → List ℕ → List ℕ → Bool) → List Batch → List Batch
good_of accepts batches = still_in (check_fates accepts batches) batches

-- those of them that find room
abbrev pub roomy_of : List Batch → List Batch
roomy_of good = still_in (room_fates [] good) good

-- what is kept of batches: the fates of all, and those that may be run, as they are read and as they are written
pub record IsSifted (accepts : List ℕ → List ℕ → List ℕ → Bool) (waiting : List Batch) (sifted : Sifted) : Type 0 where
  pub fates : sifted.fates ≡ further (check_fates accepts waiting) (room_fates [] (good_of accepts waiting))
  pub batches : sifted.batches ≡ map batch_in (roomy_of (good_of accepts waiting))
  pub encodings : sifted.encodings ≡ map encoded (roomy_of (good_of accepts waiting))
  pub transactions : sifted.transactions ≡ transactions_in (roomy_of (good_of accepts waiting))
  pub bytes : sifted.bytes ≡ bytes_in (roomy_of (good_of accepts waiting))
  pub few : sifted.transactions ≤ 20000
  pub small : sifted.bytes ≤ 12582912
