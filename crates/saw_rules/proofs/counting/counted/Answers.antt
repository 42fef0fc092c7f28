use Rattle.std.proofs.Common.{rules, tests, ◌∙◌}
use Rattle.std.specs.Arc.{arc_value}
use Rattle.std.proofs.lemmas.Iterator.{YieldsList-from_slice}
use Rattle.std.proofs.lemmas.Iterator.Consumers.{YieldsList-from_filter, count_from_yields_List}
use Rattle.saw_rules.specs.OnChainRules.{is_of}
use Rattle.saw_rules.proofs.Search.{filter_seen}
use Rattle.saw_rules.proofs.counting.counted.Goals as goal

pub returns : goal.returns
returns c = count_from_yields_List c.filter.result c.count.result c.count.ensures.ran
    (YieldsList-from_filter _ (λ tx. is_of c.args.family.now (arc_value tx)) (YieldsList-from_slice c.args.txs.now (cc)) c.filter.ensures.closure
    (λ x b q k. search (rules, tests)))
    ∙ filter_seen arc_value (is_of c.args.family.now) c.args.txs.now
