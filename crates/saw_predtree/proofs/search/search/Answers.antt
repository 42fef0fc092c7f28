use Rattle.saw_predtree.specs.Places.{readers_at, writer_at}
use Rattle.saw_predtree.proofs.Searching.{gathers-more}
use Rattle.saw_predtree.proofs.search.search.Goals as goal

pub loop-key-preserved : goal.loop-key-preserved
loop-key-preserved c = λ marked.
    let places = c.args.places.now in
    gathers-more c.args.usage (writer_at places) (readers_at places) c.args.keys.now c.loop-key.key-index c.key-item.result c.args.found.now.items
    c.loop-key.found.items c.gather.new.found.items c.loop-key-test.true c.key-item.is (c.loop-key.invariant marked) (c.in_ok-gather.ensures marked)
