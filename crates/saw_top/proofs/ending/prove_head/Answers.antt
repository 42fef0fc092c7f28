use Rattle.saw_top.proofs.Listed.{head_is_known}
use Rattle.saw_top.proofs.ending.prove_head.Goals as goal

pub unreachable-requires : goal.unreachable-requires
unreachable-requires g c =
    let head = rw c.in-Some.is at c.head.ensures.is in
    let none = rw c.in-None-tree.is at c.tree.ensures.is in
    head_is_known c.state.result.now _ c.in-Some.head.now head c.state.ensures.known none
