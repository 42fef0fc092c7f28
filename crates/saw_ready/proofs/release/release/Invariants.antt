use Rattle.std.proofs.Common.{◌≡◌, length}
use Rattle.saw_ready.specs.Cursors.{AreFlagged, AreHalfCursors}
use Rattle.saw_ready.proofs.release.release.Given as goal

abbrev pub invariant-loop-place : goal.invariant-loop-place
invariant-loop-place l = record {
  points : length l.cursors.items ≡ length l.marks;
  long : length l.ready ≡ length l.marks;
  half : AreHalfCursors l.layout.preds l.layout.succs l.marks l.first l.j l.place l.cursors.items;
  flagged : AreFlagged l.layout.preds l.layout.starts.items l.marks l.first l.cursors.items l.ready;
}
