use Rattle.std.proofs.Common.{rules, ◌<◌, length, arith}
use Rattle.std.proofs.lemmas.Grind.{common_steps}
use Rattle.saw_tickets.proofs.Pools.{meets_next}
use Rattle.saw_tickets.proofs.pool.introduce.Goals as goal

pub loop-i-preserved : goal.loop-i-preserved
loop-i-preserved c = let lt : c.loop-i.i < length c.args.seats.now = omega (arith, c.loop-i.auto.seats) in record {
  met = grind (arith, common_steps);
  rest = search rules;
  queues = grind (arith, common_steps);
  views = meets_next _ _ _ _ _ _ c.args.seats.now c.loop-i.i c.index-seats-i.result lt c.loop-i.invariant.views c.in_ok-guest.ensures.guest.1
      c.in_ok-meet.ensures.views c.in_ok-guest-2.ensures.views;
  capacity = search rules;
}
