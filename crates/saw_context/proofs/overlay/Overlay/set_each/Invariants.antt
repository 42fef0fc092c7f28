use Rattle.std.proofs.Common.{◌≡◌, take}
use Rattle.saw_context.specs.Conversation.{Overlay, set_all}
use Rattle.saw_context.specs.Undo.{CameBy}
use Rattle.saw_context.proofs.overlay.Overlay.set_each.Given as goal

abbrev pub invariant-loop-entry : goal.invariant-loop-entry
invariant-loop-entry l = record {
  so_far : l.self ≡ set_all l.fn.self (take l.entry-index l.entries);
  undos : (earlier : Overlay) → CameBy earlier l.fn.undos.items l.fn.self → CameBy earlier l.undos.items l.self;
}
