use Rattle.std.proofs.Common.{◌<◌, ◌∙◌, length, arith, below_more}
use Rattle.saw_tickets.proofs.Seats.{steals_at, stays_at, queues_at, empty_at}
use Rattle.saw_tickets.proofs.theft.steal_from.Goals as goal

pub returns-in-Some-clause-rule : goal.returns-in-Some-clause-rule
returns-in-Some-clause-rule g c =
    let lt : c.loop-i.i < length c.loop-i.others = omega (arith, c.loop-i.auto.others) in steals_at c.loop-i.others _ c.loop-i.i c.index-others-i.result c.steal.new.self c.in-Some.entry lt c.in-Some.ensures.rule c.loop-i.invariant.views

pub returns-in-Some-clause-queues : goal.returns-in-Some-clause-queues
returns-in-Some-clause-queues g c = queues_at c.loop-i.others c.loop-i.i c.index-others-i.result c.steal.new.self c.in-Some.ensures.queue ∙ c.loop-i.invariant.queues

pub loop-i-preserved : goal.loop-i-preserved
loop-i-preserved g c =
    let lt : c.loop-i.i < length c.loop-i.others = omega (arith, c.loop-i.auto.others) in record {
      views = stays_at c.loop-i.others c.loop-i.i c.index-others-i.result c.steal.new.self c.in_default.ensures.rule.0 ∙ c.loop-i.invariant.views;
      queues = queues_at c.loop-i.others c.loop-i.i c.index-others-i.result c.steal.new.self c.in_default.ensures.queue ∙ c.loop-i.invariant.queues;
      empty = below_more _ _ c.loop-i.invariant.empty (empty_at c.loop-i.others _ c.loop-i.i c.index-others-i.result lt c.loop-i.invariant.views c.in_default.ensures.rule.1);
    }
