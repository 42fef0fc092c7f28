use Rattle.std.proofs.Common.{◌≡◌, length, sym, subst, ap, ◌∙◌}
use Rattle.std.specs.Prelude.{option_copied}
use Rattle.std.proofs.lemmas.Bool.{both_ways, eqb-true, eq-eqb}
use Rattle.std.proofs.lemmas.List.{nil_from_length}
use Rattle.saw_runs.specs.Below.{read_by}
use Rattle.saw_runs.specs.Differing.{part_of}
use Rattle.saw_runs.specs.Listing.{entry_at}
use Rattle.saw_runs.specs.Readings.{read_at}
use Rattle.saw_runs.proofs.SideBySide.{no_leaf, one_leaf}
use Rattle.saw_runs.proofs.differing.leaf_of.Goals as goal

pub returns-then-not-is_empty : goal.returns-then-not-is_empty
returns-then-not-is_empty g c = no_leaf (read_at c.args.tables.now) c.args.way.path.now (option_copied c.args.way.bottom)
    (λ none. both_ways _ c.if-not-is_empty.true (c.is_empty.ensures ∙ eq-eqb (length c.args.way.path.now) 0 (ap length none)))

pub returns : goal.returns
returns g c = λ place.
    let none = nil_from_length c.args.way.path.now (eqb-true (length c.args.way.path.now) 0 (sym c.is_empty.ensures ∙ c.if-not-is_empty.false)) in
    subst (λ b. entry_at place (option_copied c.value_of.result) ≡ read_by (read_at c.args.tables.now) 0 place (part_of c.args.way.path.now b)) (ap option_copied (sym c.in-Some.is))
    (one_leaf (read_at c.args.tables.now) c.args.way.path.now c.in-Some.bottom.now (option_copied c.value_of.result) none c.value_of.ensures place)
