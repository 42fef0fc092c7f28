use Rattle.std.proofs.Common.{rules, tests, not, ◌∙◌}
use Rattle.std.specs.Arc.{arc_value}
use Rattle.std.proofs.lemmas.Iterator.{YieldsList-from_slice}
use Rattle.std.proofs.lemmas.Iterator.Search.{position_from_yields_List}
use Rattle.saw_messages.specs.TxShapes.{TxShape}
use Rattle.saw_rules.specs.OnChainRules.{is_allowed}
use Rattle.saw_rules.proofs.Search.{position_seen}
use Rattle.saw_rules.proofs.judging.first_other.Goals as goal

pub returns : goal.returns
returns c = position_from_yields_List (λ tx. not (is_allowed c.args.families.now (arc_value tx))) _ _ c.position.result c.position.ensures.ran
    (YieldsList-from_slice c.args.txs.now (cc)) (λ x b q k. search (rules, tests))
    ∙ position_seen arc_value (λ (tx : TxShape). not (is_allowed c.args.families.now tx)) c.args.txs.now
