use Rattle.std.proofs.Common.{rules}
use Rattle.saw_context.proofs.Origins.{granted_at}
use Rattle.saw_context.proofs.context.Context.reads_of.Goals as goal

pub push_read-requires : goal.push_read-requires
push_read-requires g c = (
  search rules,
  granted_at c.args.self.now.header.inputs c.args.places.now c.loop-place.place-index c.place-item.result
      c.requires c.loop-place-test.true c.place-item.is,
)
