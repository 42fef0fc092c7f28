use Rattle.std.proofs.Common.{◌+◌, None, Some, [], get_or, refl, sym, subst}
use Rattle.saw_runs.specs.Below.{LeadsTo}
use Rattle.saw_runs.specs.Readings.{read_at}
use Rattle.saw_runs.proofs.Descending.{leads_first, leads_more, leads_nowhere}
use Rattle.saw_runs.proofs.listing.run_below.Goals as goal

pub loop-byte-init : goal.loop-byte-init
loop-byte-init g c =
    subst (λ run. LeadsTo (read_at c.args.tables.now) c.args.root.now [] (Some run)) (sym c.opened_at-below.ensures)
    (leads_first (read_at c.args.tables.now) c.args.root.now)

pub returns-in-None : goal.returns-in-None
returns-in-None g c =
    let read = read_at c.args.tables.now in
    let i = c.loop-byte.byte-index in
    leads_nowhere read c.args.root.now c.args.prefix.now (i + 1)
    (leads_more read c.args.root.now c.args.prefix.now i c.loop-byte.below.0.now c.loop-byte.below.1 (get_or c.args.prefix.now i 0) None c.requires
    c.loop-byte-test.true refl c.loop-byte.invariant c.in-None.ensures)

pub loop-byte-preserved : goal.loop-byte-preserved
loop-byte-preserved g c =
    let i = c.loop-byte.byte-index in
    leads_more (read_at c.args.tables.now) c.args.root.now c.args.prefix.now i c.loop-byte.below.0.now c.loop-byte.below.1 (get_or c.args.prefix.now i 0)
    (Some (c.in-Some.next.0.now, c.in-Some.next.1)) c.requires c.loop-byte-test.true refl c.loop-byte.invariant c.in-Some.ensures
