use Rattle.std.proofs.Common.{Err, arith}
use Rattle.std.proofs.lemmas.Result.{err_from_is_err_and}
use Rattle.saw_tpside.proofs.Stepping.{at_first, it_ends, starved}
use Rattle.saw_tpside.specs.ProcessorConversation.{starting}
use Rattle.saw_tpside.specs.declared.fault.TpFault.TheVariants.{OutOfMemory}
use Rattle.saw_top.specs.Processing.{family_offers}
use Rattle.saw_top.proofs.processor.serve.Goals as goal

pub returns-in_err-offers-clause-served : goal.returns-in_err-offers-clause-served
returns-in_err-offers-clause-served g c =
    let L = g.L.Link in
    let told = L.told c.args.link.now in
    let faults = L.faults c.args.link.now in
    let start = starting family_offers 2 in
    let p = err_from_is_err_and c.from_residual.result c.from_residual.ensures.1 in
    rw (p.1, p.2) (it_ends start start (Err OutOfMemory) told told told faults faults faults (omega arith) (at_first start told) (starved start told faults faults))
