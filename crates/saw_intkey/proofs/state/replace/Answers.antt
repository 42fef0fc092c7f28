use Rattle.saw_intkey.proofs.Replaces.{replaces, leaves}
use Rattle.saw_intkey.proofs.state.replace.Goals as goal
use Rattle.saw_intkey.proofs.state.replace.Goals.{then-eq, else-eq}

pub loop-entry-preserved : goal.loop-entry-preserved
loop-entry-preserved c =
    let l = c.loop-entry in
    elim c.if-eq.branch [
      | then-eq w ↦ replaces c.args.name.now c.args.value c.args.names.now l.names c.if-eq.names l.entry-index c.entry-item.result c.as_str.result.now
          c.loop-entry-test.true l.invariant c.entry-item.is
          c.as_str.ensures w.if-eq.ensures w.names-is
      | else-eq w ↦ leaves c.args.name.now c.args.value c.args.names.now l.names c.if-eq.names l.entry-index c.entry-item.result c.as_str.result.now
          c.loop-entry-test.true l.invariant c.entry-item.is
          c.as_str.ensures w.if-eq.ensures w.names-is
    ]
