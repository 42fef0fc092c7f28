-- What a node holds.
use Rattle.std.specs.Prelude.{ℕ, List, Option}
use Rattle.saw_node.specs.declared.node.Child.{Child}

-- a value, if it has one, and children
pub record Node : Type 0 where
  pub value : Option (List ℕ)
  pub children : List Child
