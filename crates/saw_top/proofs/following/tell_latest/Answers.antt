use Rattle.std.proofs.Common.{sym}
use Rattle.std.specs.Prelude.{IsSome}
use Rattle.saw_merkle.specs.States.{state_at}
use Rattle.saw_top.proofs.Elements.{holds_at, parted_at}
use Rattle.saw_top.proofs.following.tell_latest.Goals as goal

pub hear-requires-clause-id : goal.hear-requires-clause-id
hear-requires-clause-id g c =
    let some = rw c.in-Some.is at c.latest.ensures in
    let parts = parted_at _ _ _ (sym some) in
    (c.are_linked.ensures parts.0 parts.1 _ parts.2).form

pub hear-requires-clause-known : goal.hear-requires-clause-known
hear-requires-clause-known g c =
    let some = rw c.in-Some.is at c.latest.ensures in
    holds_at (λ block. IsSome (state_at c.state.result.now block.root)) _ _ _ c.state.ensures.known (sym some)
