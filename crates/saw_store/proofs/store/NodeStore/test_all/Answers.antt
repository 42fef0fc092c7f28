use Rattle.std.proofs.Common.{◌≡◌, arith, length}
use Rattle.saw_store.proofs.Tested.{all_clear}
use Rattle.saw_store.proofs.store.NodeStore.test_all.Goals as goal

pub returns-clause-clear : goal.returns-clause-clear
returns-clause-clear g c =
    let all : c.loop-at.at ≡ length c.args.news.now = omega arith in
    all_clear g.H.NodeHasher.hash_of c.args.self.now c.args.news.now c.loop-at.at c.loop-at.places.entries all c.requires.named c.loop-at.invariant.free
    c.loop-at.invariant.noted
