use Rattle.std.proofs.Common.{refl}
use Rattle.saw_top.proofs.tasks.judge_lines.Goals as goal

pub returns-in-All-clause-judges : goal.returns-in-All-clause-judges
returns-in-All-clause-judges g c = λ held new_held.
    let e = c.judge_stream.ensures in
    rw c.in-All.is (record {
      judges = e.judges;
      aside = refl;
      wrote = e.wrote;
      kind = e.kind;
      nodes = e.nodes;
      input = e.input;
      output = e.output;
      later =
          e.later;
      peer = e.peer;
    })

pub returns-in-Refused-clause-judges : goal.returns-in-Refused-clause-judges
returns-in-Refused-clause-judges g c = λ held new_held.
    let e = c.judge_stream-in-Refused.ensures in
    rw c.in-Refused.is (record {
      judges = e.judges;
      aside = refl;
      wrote = e.wrote;
      kind = e.kind;
      nodes = e.nodes;
      input = e.input;
      output = e.output;
      later =
          e.later;
      peer = e.peer;
    })
