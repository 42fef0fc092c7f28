use Rattle.std.proofs.Common.{sym, ◌∙◌}
use Rattle.saw_events.proofs.News.{known_here, known_nowhere}
use Rattle.saw_events.proofs.replaying.news_back.Goals as goal

pub returns-then-is_known-clause-ok : goal.returns-then-is_known-clause-ok
returns-then-is_known-clause-ok c =
    known_here c.args.known.now c.loop-block.walk c.next.new.self c.in-Some.block.now _ _ c.in-Some.ensures.some c.loop-block.invariant.whole
    (sym c.is_known.ensures ∙ c.if-is_known.true) c.loop-block.invariant.unknown

pub returns-clause-unknown : goal.returns-clause-unknown
returns-clause-unknown c = λ _.
    known_nowhere c.args.known.now c.loop-block.walk _ _ c.in_default.ensures.none.0 c.loop-block.invariant.whole
    c.loop-block.invariant.unknown (sym c.is_empty.ensures ∙ c.if-is_empty.false)
