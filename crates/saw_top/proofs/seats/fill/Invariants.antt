use Rattle.std.proofs.Common.{◌≡◌, ◌≤◌, ◌+◌, ◌++◌, true, List, length, reverse, vec_len, vec_capacity}
use Rattle.std.specs.Prelude.{All}
use Rattle.std.specs.Arc.{arc_value}
use Rattle.std.specs.Global.{Vec}
use Rattle.saw_top.specs.Seats.{HaveOffers, remotes_at}
use Rattle.saw_station.specs.declared.offer.Offer.{Offer}
use Rattle.saw_top.proofs.seats.fill.Given as goal

abbrev pub invariant-loop-share : goal.invariant-loop-share
invariant-loop-share g l = record {
  seated : l.fn.remotes.items ≡ l.remotes.items ++ reverse (remotes_at l.desks.items);
  offers : (offers : List Offer) → All (λ share. (arc_value {X = Vec Offer} share).items ≡ offers) l.fn.shared.items → HaveOffers offers l.desks.items;
  count : length l.desks.items + length l.shared.items ≡ length l.fn.shared.items;
  room : length l.fn.shared.items ≤ vec_capacity l.desks;
  some : length l.shared.items ≤ vec_len l.remotes;
  kept : vec_capacity l.remotes ≡ vec_capacity l.fn.remotes;
  begun : All (λ remote. g.R.Station.begun remote ≡ true) l.remotes.items;
  same : (offers : List Offer) → All (λ share. (arc_value {X = Vec Offer} share).items ≡ offers) l.fn.shared.items
      → All (λ share. (arc_value {X = Vec Offer} share).items ≡ offers) l.shared.items;
}

abbrev pub decreases-loop-share : goal.decreases-loop-share
decreases-loop-share g l = goal.left-loop-share g l
