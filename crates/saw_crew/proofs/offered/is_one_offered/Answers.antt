use Rattle.std.proofs.Common.{rules, tests, ◌∙◌}
use Rattle.std.specs.Arc.{arc_value}
use Rattle.std.proofs.lemmas.Iterator.{YieldsList-from_slice}
use Rattle.std.proofs.lemmas.Iterator.Search.{any_from_yields_List}
use Rattle.saw_crew.specs.Offered.{tx_offered}
use Rattle.saw_crew.proofs.Unoffered.{any_seen}
use Rattle.saw_crew.proofs.offered.is_one_offered.Goals as goal

pub returns : goal.returns
returns c = any_from_yields_List (λ tx. tx_offered c.args.offers.now (arc_value tx)) _ _ c.any.result c.any.ensures.ran
    (YieldsList-from_slice c.args.txs.now (cc)) (λ x b q k. search (rules, tests))
    ∙ any_seen arc_value (tx_offered c.args.offers.now) c.args.txs.now
