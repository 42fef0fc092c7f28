use Rattle.std.proofs.Common.{◌++◌, map, ap, ◌∙◌}
use Rattle.std.specs.Arc.{arc_value}
use Rattle.std.proofs.lemmas.List.{take_all}
use Rattle.saw_rules.specs.Courses.{count_for}
use Rattle.saw_rules.proofs.Counted.{counted_at, counts_more}
use Rattle.saw_rules.proofs.counting.counts_behind.Goals as goal

pub loop-place-preserved : goal.loop-place-preserved
loop-place-preserved c = λ earlier are.
    let rules = c.args.rules.now in
    let place = c.loop-place.place in
    let rule = c.index-rules-place.result in
    let more = c.loop-place-test.true in
    let here = c.index-rules-place.is in
    rw c.in_ok-push.ensures.items (counts_more (earlier ++ map arc_value c.args.txs.now) rules c.loop-place.made.items place rule
    c.in_ok-count_behind.field-0 more here (c.loop-place.invariant earlier are)
    (c.in_ok-count_behind.ensures earlier (c.count_at.ensures ∙ counted_at earlier rules c.args.counts.now place rule more here are)))

pub returns : goal.returns
returns c = λ earlier are.
    c.loop-place.invariant earlier are
    ∙ ap (map (count_for (earlier ++ map arc_value c.args.txs.now))) (take_all c.loop-place.place c.args.rules.now c.loop-place-test.false)
