use Rattle.std.proofs.Common.{ap, arith, length}
use Rattle.saw_store.proofs.Putting.{leads_on}
use Rattle.saw_store.proofs.store.put_each.Goals as goal

pub loop-new-preserved : goal.loop-new-preserved
loop-new-preserved c =
    let longer = ap length c.in-Some.ensures.steps.0 in
    record {
      room = omega (arith, longer, c.loop-new.invariant.room, c.put_new.ensures.room);
      leads = leads_on c.args.nodes.now.entries c.loop-new.nodes.entries c.put_new.new.nodes.entries c.args.news.items c.loop-new.new-iterator.rest.items
          c.next.new.self.rest.items c.in-Some.new c.in-Some.ensures.steps.0 c.put_new.ensures.updates.0 c.loop-new.invariant.leads;
    }
