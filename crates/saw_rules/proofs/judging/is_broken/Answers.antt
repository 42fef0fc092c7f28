use Rattle.std.proofs.Common.{rules, tests, map, ap, ◌∙◌}
use Rattle.std.specs.Arc.{arc_value}
use Rattle.std.specs.List.{list_any}
use Rattle.std.proofs.lemmas.Iterator.{YieldsList-from_slice}
use Rattle.std.proofs.lemmas.Iterator.Search.{any_from_yields_List}
use Rattle.saw_rules.specs.OnChainRules.{is_of_other}
use Rattle.saw_rules.proofs.judging.is_broken.Goals as goal

pub returns-in-Local : goal.returns-in-Local
returns-in-Local c = λ before counted earlier.
    rw c.in-Local.is (any_from_yields_List (is_of_other c.args.signer.now c.args.earlier (map arc_value c.args.txs.now)) _ _ c.any.result c.any.ensures.ran
    (YieldsList-from_slice c.in-Local.indices (cc)) (λ x b q k. search (rules, tests))
    ∙ ap (λ n. list_any (is_of_other c.args.signer.now n (map arc_value c.args.txs.now)) c.in-Local.indices) earlier)
