use Rattle.std.proofs.Common.{◌≡◌, ◌++◌, take}
use Rattle.saw_wire.specs.Writing.{spelled}
use Rattle.saw_wire.specs.Written.{texts_pieces}
use Rattle.saw_wire.proofs.put.put_texts.Given as goal

abbrev pub invariant-loop-text : goal.invariant-loop-text
invariant-loop-text l = l.out.items ≡ l.fn.out.items ++ spelled (texts_pieces l.field (take l.text-index l.texts))
