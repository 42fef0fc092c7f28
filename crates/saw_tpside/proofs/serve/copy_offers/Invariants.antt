use Rattle.std.proofs.Common.{◌≡◌, take}
use Rattle.saw_tpside.proofs.serve.copy_offers.Given as goal

abbrev pub invariant-loop-offer : goal.invariant-loop-offer
invariant-loop-offer l = l.made ≡ take l.offer-index l.offers
