use Rattle.std.proofs.Common.{◌≡◌, List, Err, sym, ap, subst, ◌∙◌, arith}
use Rattle.std.proofs.lemmas.Result.{err_from_is_err_and}
use Rattle.saw_station.specs.declared.offer.Offer.{Offer}
use Rattle.saw_tpside.specs.ProcessorConversation.{starting}
use Rattle.saw_tpside.specs.declared.fault.TpFault.TheVariants.{OutOfMemory}
use Rattle.saw_tpside.specs.declared.serving.Serving.{Serving}
use Rattle.saw_tpside.proofs.Stepping.{SoFar, at_first, it_ends, one_more, starved}
use Rattle.saw_tpside.proofs.serve.serve_link.Goals as goal

pub returns-in_err-copy_offers-clause-served : goal.returns-in_err-copy_offers-clause-served
returns-in_err-copy_offers-clause-served g c =
    let L = g.L.Link in
    let told = L.told c.args.link.now in
    let faults = L.faults c.args.link.now in
    let start = starting c.args.offers.now c.args.version in
    let p = err_from_is_err_and c.from_residual.result c.from_residual.ensures.1 in
    rw (p.1, p.2) (it_ends start start (Err OutOfMemory) told told told faults faults faults (omega arith) (at_first start told) (starved start told faults faults))

pub loop-init : goal.loop-init
loop-init g c =
    let told = g.L.Link.told c.args.link.now in
    let start = starting c.args.offers.now c.args.version in (
      subst (λ (p : Serving). SoFar start told told p)
          (sym (c.new-serving.ensures ∙ ap (λ (offers : List Offer). starting offers c.args.version) c.in_ok-copy_offers.ensures)) (at_first start told),
      omega arith,
    )

pub loop-preserved : goal.loop-preserved
loop-preserved g c =
    let L = g.L.Link in
    let l = c.loop in (
      one_more (starting c.args.offers.now c.args.version) l.serving c.in-On.next (L.told c.args.link.now) (L.told l.link) (L.told c.step.new.link)
          l.invariant.0 (rw c.in-On.is at c.in_ok-next.ensures.stepped),
      omega (arith, l.invariant.1, c.in_ok-next.ensures.later),
    )
