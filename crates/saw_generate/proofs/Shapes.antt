-- Transactions and batches of a generated stream by themselves: what they do, and the maps that they leave.
use Rattle.std.specs.Prelude.{◌≡◌, ℕ, zero, suc, List, [], ◌∷◌, map}
use Rattle.std.specs.List.{range_with_len}
use Rattle.hex.specs.Hex.{encode_lower}
use Rattle.saw_address.specs.Maps.{StateMap, no_entries}
use Rattle.saw_context.specs.Serial.{left_after, serial}
use Rattle.saw_intkey.specs.Actions.{address_of, family_name, family_version}
use Rattle.saw_intkey.specs.Payloads.{payload_bytes}
use Rattle.saw_intkey.specs.declared.payload.Payload.{Payload}
use Rattle.saw_messages.specs.TxShapes.{TxShape}
use Rattle.saw_station.specs.Serving.{alone}
use Rattle.saw_generate.specs.Operations.{first_of, second_of}
use Rattle.saw_generate.specs.declared.wish.GenerateWish.{GenerateWish}

-- a transaction that does what an IntegerKey payload says, and declares just its address
pub record IsFor (payload : Payload) (tx : TxShape) : Type 0 where
  pub payload_is : tx.payload ≡ payload_bytes payload
  pub family : tx.header.family_name ≡ family_name
  pub version : tx.header.family_version ≡ family_version
  pub inputs : tx.header.inputs ≡ encode_lower (address_of payload.name) ∷ []
  pub outputs : tx.header.outputs ≡ encode_lower (address_of payload.name) ∷ []
  pub free : tx.header.dependencies ≡ []

-- the two transactions of batch k of block b
pub record IsBatch (wish : GenerateWish) (b k : ℕ) (txs : List TxShape) : Type 0 where
  pub first : TxShape
  pub second : TxShape
  pub both : txs ≡ first ∷ second ∷ []
  pub sets : IsFor (first_of wish b k) first
  pub adds : IsFor (second_of wish b k) second

module _ (txs : ℕ → ℕ → List TxShape) (wish : GenerateWish) where
  -- the batches of block b
  abbrev pub batches_by : ℕ → List (List TxShape)
  batches_by b = map (txs b) (range_with_len 0 wish.batches)

  -- the map that so many blocks leave
  unfoldable pub map_behind : ℕ → StateMap
  map_behind zero = no_entries
  map_behind (suc b) = left_after (map_behind b) (serial (alone []) (map_behind b) (batches_by b))
