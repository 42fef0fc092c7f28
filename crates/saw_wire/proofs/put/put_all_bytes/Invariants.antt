use Rattle.std.proofs.Common.{◌≡◌, ◌++◌, take}
use Rattle.saw_wire.specs.Writing.{spelled}
use Rattle.saw_wire.specs.Written.{texts_pieces}
use Rattle.saw_wire.proofs.put.put_all_bytes.Given as goal

abbrev pub invariant-loop-item : goal.invariant-loop-item
invariant-loop-item l = l.out.items ≡ l.fn.out.items ++ spelled (texts_pieces l.field (take l.item-index l.items))
