use Rattle.std.proofs.Common.{vec_len}
use Rattle.saw_context.specs.Conversation.{Overlay}
use Rattle.saw_context.specs.Undo.{CameBy}
use Rattle.saw_context.proofs.overlay.Overlay.take_all_back.Given as goal

abbrev pub invariant-loop-undo : goal.invariant-loop-undo
invariant-loop-undo l = (before : Overlay) → CameBy before l.fn.undos.items l.fn.self → CameBy before l.undos.items l.self

abbrev pub decreases-loop-undo : goal.decreases-loop-undo
decreases-loop-undo l = vec_len l.undos
