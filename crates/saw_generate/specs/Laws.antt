-- What is true of generated streams.
use Rattle.std.specs.Prelude.{◌≡◌, ◌<◌, ◌≤◌, ℕ, true, List, [], map}
use Rattle.std.specs.List.{AllByRecursion}
use Rattle.saw_address.specs.Texts.{is_hex_text}
use Rattle.saw_context.specs.Serial.{serial}
use Rattle.saw_context.specs.declared.batch_result.BatchResult.{BatchResult}
use Rattle.saw_context.specs.declared.batch_result.BatchResult.TheVariants.{Applied, Failed}
use Rattle.saw_plan.specs.BatchShapes.{txs_of}
use Rattle.saw_publish.specs.Candidates.{Signing}
use Rattle.saw_receipts.specs.Shapes.{batch_in}
use Rattle.saw_station.specs.Serving.{alone}
use Rattle.saw_generate.specs.Draws.{draw_at, state_after}
use Rattle.saw_generate.specs.Streams.{batches_at, map_after_blocks}
use Rattle.saw_generate.specs.declared.wish.GenerateWish.{GenerateWish}

-- the results of the batches of block b over the map that the blocks before it leave
abbrev pub results_at : Signing → GenerateWish → ℕ → List BatchResult
results_at signing wish b = serial (alone []) (map_after_blocks signing wish b) (txs_of (map batch_in (batches_at signing wish b)))

abbrev pub IsApplied : BatchResult → Type 0
IsApplied (Applied outcomes) = Unit {0}
IsApplied (Failed t reason) = ⊥

-- every batch of every block applies, whoever signs
abbrev pub EveryBatchApplies : Type 0
EveryBatchApplies = (signing : Signing) (wish : GenerateWish) → is_hex_text 66 signing.key ≡ true → wish.blocks ≤ 1000 → wish.batches ≤ 5000
    → (b : ℕ) → b < wish.blocks → AllByRecursion IsApplied (results_at signing wish b)

-- the first state and the first draw from 7 on
abbrev pub DrawsOfSeven : Type 0
DrawsOfSeven = (state_after 7 1 ≡ 9098160460397411210) × (draw_at 7 0 ≡ 1059165278)
