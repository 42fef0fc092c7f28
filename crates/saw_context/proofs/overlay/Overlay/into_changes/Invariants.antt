use Rattle.std.proofs.Common.{◌≡◌, ◌++◌, map}
use Rattle.saw_context.proofs.Overlays.{change_of}
use Rattle.saw_context.proofs.overlay.Overlay.into_changes.Given as goal

abbrev pub invariant-loop-address : goal.invariant-loop-address
invariant-loop-address l = l.changes ++ map change_of l.address-iterator ≡ map change_of l.initial.address-iterator
