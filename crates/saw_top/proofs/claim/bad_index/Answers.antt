use Rattle.std.proofs.Common.{rules, tests}
use Rattle.std.proofs.lemmas.Iterator.Search.{position_from_yields_List}
use Rattle.std.proofs.lemmas.Iterator.Splits.{YieldsList-from_slice_split}
use Rattle.saw_top.specs.Claims.{is_bad_node}
use Rattle.saw_top.proofs.claim.bad_index.Goals as goal

pub returns : goal.returns
returns c = position_from_yields_List is_bad_node _ _ c.position.result c.position.ensures.ran
    (YieldsList-from_slice_split _ _ c.args.lines.now c.split.ensures.rest c.split.ensures.done c.split.ensures.closure (λ x r q k. search (rules, tests)))
    (λ x b q k. search (rules, tests))
