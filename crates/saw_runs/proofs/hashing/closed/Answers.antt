use Rattle.std.proofs.Common.{◌+◌, refl, subst, sym, take}
use Rattle.saw_node.specs.declared.node.Child.{Child}
use Rattle.saw_runs.specs.Changes.{ClosesAll}
use Rattle.saw_runs.proofs.Closing.{closes_more, closes_none}
use Rattle.saw_runs.proofs.hashing.closed.Goals as goal

pub loop-at-preserved : goal.loop-at-preserved
loop-at-preserved g c =
    let child : Child = record { byte = c.index-kids-at.result.byte; hash = c.index-hash.result.now } in
    subst (λ xs. ClosesAll g.H.NodeHasher.hash_of (take (c.loop-at.at + 1) c.args.kids.now) xs c.args.news.now.items c.keep_under.new.news.items)
    (sym c.in_ok-push.ensures.items)
    (closes_more g.H.NodeHasher.hash_of c.args.kids.now c.loop-at.at c.index-kids-at.result c.loop-at.children.items child
    c.index-hash.result.now c.args.news.now.items c.loop-at.news.items c.keep_under.new.news.items
    c.index-kids-at.is c.loop-at-test.true refl c.in_ok-keep_under.ensures c.loop-at.invariant)

pub loop-at-init : goal.loop-at-init
loop-at-init g c =
    subst (λ xs. ClosesAll g.H.NodeHasher.hash_of (take 0 c.args.kids.now) xs c.args.news.now.items c.args.news.now.items) (sym c.in_ok-children.ensures.items)
    (closes_none g.H.NodeHasher.hash_of c.args.news.now.items)
