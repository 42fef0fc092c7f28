-- The choice of the head.
use Rattle.std.specs.Prelude.{ℕ, Bool, true, ◌&&◌, ◌||◌, List, [], ◌∷◌, ◌++◌, Option, Some, None, nat_lt, ◌==◌, if◌then◌else◌}
use Rattle.std.specs.Ordering.{nat_cmp, is_lt}
use Rattle.std.specs.Cmp.Lexicographic.{slice_cmp}
use Rattle.sha2.specs.Sha256.{sha256}
use Rattle.saw_address.specs.Maps.{no_entries}
use Rattle.saw_node.specs.Trees.{root_of_map}
use Rattle.saw_receipts.specs.declared.block.BlockRecord.{BlockRecord}
use Rattle.saw_receipts.specs.declared.block.Parent.{Parent}
use Rattle.saw_receipts.specs.Branches.{branch_of}

-- by which blocks of equal number are told apart
abbrev pub weight_of : BlockRecord → List ℕ
weight_of block = sha256 (block.signer ++ block.previous)

-- whether a block replaces the head: its number is greater, or equal with the lower weight
abbrev pub replaces : BlockRecord → BlockRecord → Bool
replaces new head =
    nat_lt head.number new.number
    || (new.number == head.number && is_lt (slice_cmp nat_cmp (weight_of new) (weight_of head)))

abbrev pub is_new_head : Option BlockRecord → BlockRecord → Bool
is_new_head None new = true
is_new_head (Some head) new = replaces new head

abbrev pub head_after : Option BlockRecord → List BlockRecord → Option BlockRecord
head_after head [] = head
head_after head (new ∷ others) = head_after (if is_new_head head new then Some new else head) others

-- the head of accepted blocks, in order of arrival
abbrev pub head_of : List BlockRecord → Option BlockRecord
head_of blocks = head_after None blocks

abbrev pub branch_to : List BlockRecord → Option BlockRecord → List BlockRecord
branch_to blocks None = []
branch_to blocks (Some block) = branch_of (λ block. block) blocks block.id

-- the branch that ends with the head
abbrev pub head_branch : List BlockRecord → List BlockRecord
head_branch blocks = branch_to blocks (head_of blocks)

-- what a new block behind this one takes of it
abbrev pub as_parent : BlockRecord → Parent
as_parent block = record { number = block.number; id = block.id; root = block.root }

-- the root of the map that a new block is run over: that which the block before it leaves, or that of the empty map
abbrev pub root_behind : (List ℕ → List ℕ) → Option (List ℕ) → List ℕ
root_behind hash None = root_of_map hash no_entries
root_behind hash (Some root) = root
