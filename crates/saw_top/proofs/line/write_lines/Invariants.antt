use Rattle.std.proofs.Common.{◌≤◌, take}
use Rattle.std.specs.Io.KnownBytes.{Appends}
use Rattle.std.specs.List.{flat_map}
use Rattle.saw_top.proofs.line.write_lines.Given as goal

abbrev pub invariant-loop-item : goal.invariant-loop-item
invariant-loop-item g l = record {
  written : Appends (g.O.Sink.written l.initial.output) (g.O.Sink.written l.output) (flat_map g.T.Lined.line_of (take l.item-index l.items));
  later : g.O.Sink.faults l.initial.output ≤ g.O.Sink.faults l.output;
}
