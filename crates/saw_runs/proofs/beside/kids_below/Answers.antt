use Rattle.std.proofs.Common.{◌∙◌, length, sym, ap}
use Rattle.std.specs.Prelude.{option_copied}
use Rattle.std.proofs.lemmas.Bool.{both_ways, eq-eqb, eqb-true}
use Rattle.std.proofs.lemmas.List.{nil_from_length}
use Rattle.saw_runs.specs.Readings.{read_at}
use Rattle.saw_runs.proofs.InOrder.{none_rise, one_rises}
use Rattle.saw_runs.proofs.Leads.{leads_rise, node_have, only_have}
use Rattle.saw_runs.proofs.beside.kids_below.Goals as goal

pub returns-in_default-clause-rising : goal.returns-in_default-clause-rising
returns-in_default-clause-rising g c = none_rise

pub returns-then-is_empty-clause-have : goal.returns-then-is_empty-clause-have
returns-then-is_empty-clause-have g c = λ levels place.
    node_have (read_at c.args.tables.now) levels place c.args.way.path.now (option_copied c.args.way.bottom) c.in-Some.bottom.now c.children_read.result.now
    (nil_from_length c.args.way.path.now (eqb-true (length c.args.way.path.now) 0 (sym c.is_empty.ensures ∙ c.if-is_empty.true)))
    (ap option_copied c.in-Some.is) c.children_read.ensures.same

pub returns-then-is_empty-clause-rising : goal.returns-then-is_empty-clause-rising
returns-then-is_empty-clause-rising g c = leads_rise (read_at c.args.tables.now) c.children_read.result.now c.children_read.ensures.rising

pub returns-clause-have : goal.returns-clause-have
returns-clause-have g c = λ levels place.
    only_have (read_at c.args.tables.now) levels place c.args.way.path.now (option_copied c.args.way.bottom) c.in-Some.bottom.now
    (λ none. both_ways _ c.if-is_empty.false (c.is_empty.ensures ∙ eq-eqb (length c.args.way.path.now) 0 (ap length none)))
    (ap option_copied c.in-Some.is)

pub returns-clause-rising : goal.returns-clause-rising
returns-clause-rising g c = one_rises _
