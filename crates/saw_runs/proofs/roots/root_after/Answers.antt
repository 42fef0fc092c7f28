use Rattle.std.proofs.Common.{sym, ◌∙◌}
use Rattle.std.proofs.lemmas.Bool.{eqb-true}
use Rattle.std.proofs.lemmas.List.{nil_from_length}
use Rattle.saw_runs.specs.Readings.{read_at}
use Rattle.saw_runs.proofs.AtRoot.{changed, fits_some, not_changed}
use Rattle.saw_runs.proofs.roots.root_after.Goals as goal

pub returns-then-is_empty : goal.returns-then-is_empty
returns-then-is_empty g c =
    not_changed g.H.NodeHasher.hash_of (read_at c.args.tables.now) c.args.empty.now c.args.root.now c.args.changes.now c.args.news.now.items
    (nil_from_length c.args.changes.now (eqb-true _ 0 (sym c.is_empty.ensures ∙ c.if-is_empty.true)))

pub shared_under-requires-clause-fits : goal.shared_under-requires-clause-fits
shared_under-requires-clause-fits g c κs within = fits_some c.args.changes.now c.show_addresses.ensures c.requires.rising

pub returns : goal.returns
returns g c =
    changed g.H.NodeHasher.hash_of (read_at c.args.tables.now) c.args.empty.now c.args.root.now c.args.changes.now c.opened-bottom.result.0.now
    c.opened-bottom.result.1 c.in_ok-below.below c.in_ok-answer.answer c.args.news.now.items c.shared_under.new.news.items c.closed_root.new.news.items
    c.requires.rising c.opened-bottom.ensures.opened c.in_ok-below.ensures c.in_ok-answer.ensures
