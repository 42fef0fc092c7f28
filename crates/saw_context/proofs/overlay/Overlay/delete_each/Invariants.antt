use Rattle.std.proofs.Common.{◌≡◌, take}
use Rattle.saw_context.specs.Conversation.{Overlay, delete_all}
use Rattle.saw_context.specs.Undo.{CameBy}
use Rattle.saw_context.proofs.overlay.Overlay.delete_each.Given as goal

abbrev pub invariant-loop-place : goal.invariant-loop-place
invariant-loop-place l = record {
  so_far : l.self ≡ delete_all l.fn.self (take l.place-index l.places);
  undos : (earlier : Overlay) → CameBy earlier l.fn.undos.items l.fn.self → CameBy earlier l.undos.items l.self;
}
