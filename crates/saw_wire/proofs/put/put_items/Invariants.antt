use Rattle.std.proofs.Common.{◌≡◌, ◌++◌, take}
use Rattle.saw_wire.specs.Writing.{spelled}
use Rattle.saw_wire.specs.Written.{items_pieces}
use Rattle.saw_wire.proofs.put.put_items.Given as goal

abbrev pub invariant-loop-item : goal.invariant-loop-item
invariant-loop-item g l = l.out.items ≡ l.fn.out.items ++ spelled (items_pieces g.M.Message.pieces l.field (take l.item-index l.items))
