use Rattle.saw_ids.proofs.IdSets.{holds_one_more, tells_repeated}
use Rattle.saw_ids.proofs.seen.add_id.Goals as goal

pub returns-clause-ok : goal.returns-clause-ok
returns-clause-ok c = λ ids holds.
    let new = c.in_ok-added.ensures in (
      tells_repeated c.args.seen.now c.insert.new.self c.args.id.now c.in_ok-try_clone.field-0 c.in_ok-try_clone.ensures ids holds c.in_ok-added.added
          new.added,
      holds_one_more c.args.seen.now c.insert.new.self c.args.id.now c.in_ok-try_clone.field-0 c.in_ok-try_clone.ensures ids holds new.updates.0,
    )
