use Rattle.saw_runs.proofs.OnPath.{ends_apart, ends_short}
use Rattle.saw_runs.proofs.paths.along.Goals.{then-at-bytes-via-then-at-bytes, then-at-bytes-via-else-at-bytes+then-path-at}
use Rattle.saw_runs.proofs.paths.along.Goals as goal

pub returns-then-at-bytes : goal.returns-then-at-bytes
returns-then-at-bytes c =
    elim c.then-at-bytes.branch [
      | then-at-bytes-via-then-at-bytes w ↦
          ends_short c.args.path.now c.args.bytes.now c.loop-at.at c.loop-at-test.true c.loop-at.invariant w.if-at-bytes.true
      | then-at-bytes-via-else-at-bytes+then-path-at w ↦
          ends_apart c.args.path.now c.args.bytes.now c.loop-at.at c.loop-at-test.true c.loop-at.invariant w.if-at-bytes.false w.if-path-at.true
    ]
