use Rattle.std.proofs.Common.{rules, tests, lit<, not, length}
use Rattle.std.specs.Prelude.{◌==◌}
use Rattle.std.proofs.lemmas.Iterator.{YieldsList-from_map_by}
use Rattle.std.proofs.lemmas.Iterator.Consumers.{YieldsList-at, YieldsList-from_filter, map_from_collect}
use Rattle.std.proofs.lemmas.Iterator.Splits.{YieldsList-from_str_split}
use Rattle.saw_settings.specs.Values.{trimmed}
use Rattle.saw_rules.proofs.rule.parts_in.Goals as goal

pub returns : goal.returns
returns c = map_from_collect _ c.collect.ensures.ran (YieldsList-from_filter _ (λ part. not (length part == 0))
    (YieldsList-at c.filter.ensures.source (YieldsList-from_map_by _ (λ part. part.now) trimmed
    (YieldsList-at c.map.ensures.source (YieldsList-from_str_split 59 c.args.text.now (lit< tt) c.split.ensures.text c.split.ensures.has_more c.split.ensures.pattern))
    c.map.ensures.closure (λ x r q k. search (rules, tests)))) c.filter.ensures.closure
    (λ x r q k. search (rules, tests)))
