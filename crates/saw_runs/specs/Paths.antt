-- The nodes on the way from the root towards an address.
use Rattle.std.specs.Prelude.{ℕ, zero, suc, cond, List, [], ◌∷◌, ◌++◌, nat_eq, take, Option, Some, None}
use Rattle.saw_address.specs.Maps.{Entries}
use Rattle.saw_node.specs.Nodes.{Shape}
use Rattle.saw_node.specs.Trees.{has_under, node_at}
use Rattle.saw_runs.specs.Entries.{Entry}
use Rattle.saw_runs.specs.Entries.Entry.{OfNode, OfRun}
use Rattle.saw_runs.specs.Runs.{nodes_of_run}

module _ (hash : List ℕ → List ℕ) (es : Entries) where
  -- the nodes below a place towards further bytes, as long as the node above has a child for the next one
  unfoldable pub nodes_towards : ℕ → List ℕ → List ℕ → List Shape
  nodes_towards zero place bytes = []
  nodes_towards (suc levels) place [] = []
  nodes_towards (suc levels) place (b ∷ bytes) =
      cond (has_under es (place ++ b ∷ [])) (node_at hash es levels (place ++ b ∷ []) ∷ nodes_towards levels (place ++ b ∷ []) bytes) []

  -- the node at a place, so many levels above the values, and those below it
  abbrev pub path_from : ℕ → List ℕ → List ℕ → List Shape
  path_from levels place bytes = node_at hash es levels place ∷ nodes_towards levels place bytes

  -- the path of an address: the nodes at its first 0, 1, 2, .. bytes, up to the first one without a child for the next byte
  abbrev pub path_of : List ℕ → List Shape
  path_of address = path_from 35 [] address

-- ---- by pieces

-- how many nodes of a run lie on the way to bytes: one more than the bytes that are equal, as far as the run goes
abbrev pub along : List ℕ → List ℕ → ℕ
along [] bytes = 0
along (c ∷ path) [] = 1
along (c ∷ path) (b ∷ bytes) = suc (cond (nat_eq c b) (along path bytes) 0)

-- the nodes of an entry that lie on the way to bytes
abbrev pub passed : (List ℕ → List ℕ) → Option Entry → List ℕ → List Shape
passed hash None bytes = []
passed hash (Some (OfNode shape)) bytes = shape ∷ []
passed hash (Some (OfRun path bottom)) bytes = take (along path bytes) (nodes_of_run hash path bottom)
