use Rattle.std.proofs.Common.{Some, ap}
use Rattle.saw_tpside.specs.declared.serving.Serving.{Serving}
use Rattle.saw_tpside.proofs.Coming.{as_come, has_begun}
use Rattle.saw_tpside.specs.ProcessorConversation.{starting}
use Rattle.saw_tpside.proofs.peer.FamilyPeer.new.Goals as goal

pub invariant_of-result : goal.invariant_of-result
invariant_of-result c =
    as_come _ c.new-2.result.items (Some (starting c.args.offers c.args.version)) (Some c.new.result) c.new-2.ensures.items
    (ap (λ (p : Serving). Some p) c.new.ensures) (has_begun c.args.offers c.args.version c.requires.offers c.requires.version)
