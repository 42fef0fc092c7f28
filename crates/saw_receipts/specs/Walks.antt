-- Walks along a branch, over accepted blocks in order of arrival.
use Rattle.std.specs.Prelude.{ℕ, List, take, reverse}
use Rattle.saw_receipts.specs.declared.block.BlockRecord.{BlockRecord}
use Rattle.saw_receipts.specs.Branches.{branch_back}

-- the branch that ends with this id, among the blocks that stand before this place
abbrev pub branch_below : List BlockRecord → ℕ → List ℕ → List BlockRecord
branch_below blocks place wanted = branch_back (λ block. block) (reverse (take place blocks)) wanted
