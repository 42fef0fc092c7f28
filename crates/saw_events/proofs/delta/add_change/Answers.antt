use Rattle.saw_events.proofs.Deltas.{one_more}
use Rattle.saw_events.proofs.delta.add_change.Goals as goal

pub returns : goal.returns
returns c = one_more c.args.last.now.entries c.insert.new.self.entries _ _ c.args.change.now c.in_ok-try_clone.ensures c.in_ok-try_clone-2.ensures
    c.in_ok-insert.ensures.updates.0
