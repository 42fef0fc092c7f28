use Rattle.std.proofs.Common.{rules, tests, ◌∙◌}
use Rattle.std.specs.Arc.{arc_value}
use Rattle.std.proofs.lemmas.Iterator.{YieldsList-from_slice}
use Rattle.std.proofs.lemmas.Iterator.Search.{all_from_yields_List}
use Rattle.saw_rules.specs.Courses.{is_like}
use Rattle.saw_rules.proofs.Alike.{alike_is}
use Rattle.saw_rules.proofs.counting.are_alike.Goals as goal

pub returns-in-Some : goal.returns-in-Some
returns-in-Some c = all_from_yields_List (λ tx. is_like (arc_value c.in-Some.first.now) (arc_value tx)) _ _ c.all.result c.all.ensures.ran
    (YieldsList-from_slice c.args.txs.now (cc)) (λ x b q k. search (rules, tests))
    ∙ alike_is arc_value c.in-Some.first.now c.args.txs.now c.in-Some.ensures.value
