use Rattle.std.proofs.Common.{rules, tests, ◌∙◌}
use Rattle.std.specs.List.{list_any}
use Rattle.std.proofs.lemmas.Iterator.{YieldsList-from_slice}
use Rattle.std.proofs.lemmas.Iterator.Search.{any_from_yields_List}
use Rattle.saw_messages.specs.TxShapes.{BatchShape}
use Rattle.saw_crew.specs.Offered.{tx_offered}
use Rattle.saw_crew.proofs.Unoffered.{any_seen}
use Rattle.saw_crew.proofs.offered.are_offered.Goals as goal

pub returns : goal.returns
returns c = any_from_yields_List (λ (batch : BatchShape). list_any (tx_offered c.args.offers.now) batch.txs) _ _ c.any.result c.any.ensures.ran
    (YieldsList-from_slice c.args.batches.now (cc)) (λ x b q k. search (rules, tests))
    ∙ any_seen (λ (batch : BatchShape). batch.txs) (list_any (tx_offered c.args.offers.now)) c.args.batches.now
