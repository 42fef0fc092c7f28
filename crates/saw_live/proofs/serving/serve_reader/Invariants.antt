use Rattle.std.proofs.Common.{◌-◌, ◌≡◌, ◌≤◌}
use Rattle.saw_live.specs.Passes.{IsSame, history}
use Rattle.saw_live.specs.Serving.{max_answers, moment}
use Rattle.saw_live.proofs.Serves.{HasServed}
use Rattle.saw_live.proofs.serving.serve_reader.Given as goal

abbrev pub invariant-loop-answers : goal.invariant-loop-answers
invariant-loop-answers g l = record {
  cell : l.pass.pass.table_id ≡ l.initial.pass.pass.table_id;
  same : IsSame l.initial.pass l.pass;
  end : l.reader.end ≡ l.initial.reader.end;
  most : l.answers ≤ max_answers;
  served : HasServed g.H.NodeHasher.hash_of
      (moment (g.A.Source.unread l.initial.reader.source) (g.K.Sink.written l.initial.reader.sink) (history l.initial.pass))
      (moment (g.A.Source.unread l.reader.source) (g.K.Sink.written l.reader.sink) (history l.pass)) l.answers;
  source : g.A.Source.faults l.initial.reader.source ≤ g.A.Source.faults l.reader.source;
  sink : g.K.Sink.faults l.initial.reader.sink ≤ g.K.Sink.faults l.reader.sink;
}

abbrev pub decreases-loop-answers : goal.decreases-loop-answers
decreases-loop-answers g l = max_answers - l.answers
