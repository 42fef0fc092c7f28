use Rattle.std.proofs.Common.{◌≡◌, length}
use Rattle.std.specs.Prelude.{All}
use Rattle.std.specs.Arc.{arc_value}
use Rattle.std.specs.Global.{Vec}
use Rattle.saw_station.specs.declared.offer.Offer.{Offer}
use Rattle.saw_top.proofs.seats.shares.Given as goal

abbrev pub invariant-loop : goal.invariant-loop
invariant-loop l = record {
  count : length l.shared.items ≡ l.counter;
  same : All (λ share. (arc_value {X = Vec Offer} share).items ≡ l.fn.offers.items) l.shared.items;
}
