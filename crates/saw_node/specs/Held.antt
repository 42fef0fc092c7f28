-- What a node holds, wherever it lies.
use Rattle.std.specs.Prelude.{[], ◌∷◌, Some, None}
use Rattle.std.specs.Arc.{arc_value}
use Rattle.saw_node.specs.Contents.{Node}
use Rattle.saw_node.specs.declared.node.Held.{Held}
use Rattle.saw_node.specs.declared.node.Held.TheVariants.{Value, One, Listed, Both}

abbrev pub held_in : Held → Node
held_in (Value value) = record { value = Some value; children = [] }
held_in (One child) = record { value = None; children = child ∷ [] }
held_in (Listed children) = record { value = None; children = children.items }
held_in (Both value children) = record { value = Some (arc_value value); children = children.items }
