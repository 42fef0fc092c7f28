-- What a judged block leaves, and what it would.
use Rattle.std.specs.Prelude.{◌≡◌, ℕ, List, Option, Some, Ok, Err}
use Rattle.saw_address.specs.Maps.{StateMap}
use Rattle.saw_node.specs.Trees.{root_of_map}
use Rattle.saw_receipts.specs.declared.block.BlockRecord.{BlockRecord}
use Rattle.saw_receipts.specs.declared.verdict.BlockFault.TheVariants.{Root}
use Rattle.saw_journal.specs.Judgement.{Kept, Rules, judged, would_leave}

-- what a block without fault leaves is its map, and one that states another root is told the root of its own
abbrev pub KeptIsLeft : Type 0
KeptIsLeft = (rules : Rules) (map_behind : Option BlockRecord → StateMap) (blocks : List BlockRecord) (content : List ℕ)
    → ((kept : Kept) → judged rules map_behind blocks content ≡ Ok kept → would_leave rules map_behind blocks content ≡ Some kept.left)
    × ((stated computed : List ℕ) → judged rules map_behind blocks content ≡ Err (Root stated computed)
    → (m : StateMap) × (would_leave rules map_behind blocks content ≡ Some m) × (computed ≡ root_of_map rules.hash m))
