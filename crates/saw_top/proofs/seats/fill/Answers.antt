use Rattle.std.proofs.Common.{◌≡◌, List, [], ◌∷◌, ◌++◌, length, reverse, true, sym, ap, subst, ◌∙◌, append_assoc, arith}
use Rattle.std.proofs.lemmas.List.{length-append}
use Rattle.std.specs.Prelude.{All}
use Rattle.std.specs.Arc.{arc_value}
use Rattle.std.specs.Global.{Vec}
use Rattle.saw_station.specs.declared.offer.Offer.{Offer}
use Rattle.saw_station.specs.DeskPlaces.{Place}
use Rattle.saw_top.specs.Seats.{HaveOffers, remotes_at}
use Rattle.saw_top.proofs.Seating.{front_all, have_more, last_all, last_first}
use Rattle.saw_top.proofs.seats.fill.Goals as goal

pub loop-share-preserved : goal.loop-share-preserved
loop-share-preserved g c =
    let inv = c.loop-share.invariant in
    let share = c.in-Some.share in
    let remote = c.in-Some-pop.remote in
    let desk = c.new.result in
    let left = c.in-Some.ensures.items in
    let taken = c.in-Some-pop.ensures.items in
    let more = c.put.ensures.more in
    let made = c.new.ensures in
    let back = ap reverse (ap remotes_at more) ∙ last_first c.loop-share.desks.items desk remote (ap (λ (p : Place _). p.remote) made) in
    let begun = subst (All (λ remote. g.R.Station.begun remote ≡ true)) taken inv.begun in
    record {
      seated = inv.seated ∙ ap (λ (l : List _). l ++ reverse (remotes_at c.loop-share.desks.items)) taken
          ∙ append_assoc c.pop-in-Some.new.self.items (remote ∷ []) (reverse (remotes_at c.loop-share.desks.items))
          ∙ ap (λ (l : List _). c.pop-in-Some.new.self.items ++ l) (sym back);
      offers = λ offers all.
          let same = subst (All (λ share. (arc_value {X = Vec Offer} share).items ≡ offers)) left (inv.same offers all) in
          subst (HaveOffers offers) (sym more)
          (have_more offers c.loop-share.desks.items desk (inv.offers offers all)
          (ap (λ (p : Place _). p.offers) made
          ∙ last_all (λ share. (arc_value {X = Vec Offer} share).items ≡ offers) c.pop.new.self.items share same));
      count = omega (
        arith,
        ap length more,
        length-append c.loop-share.desks.items (desk ∷ []),
        ap length left,
        length-append c.pop.new.self.items (share ∷ []),
        inv.count,
      );
      room = omega (arith, inv.room, c.put.ensures.room);
      some = omega (arith, inv.some, ap length left, length-append c.pop.new.self.items (share ∷ []), c.in-Some-pop.ensures.cases);
      kept = c.in-Some-pop.ensures.capacity ∙ inv.kept;
      begun = front_all (λ remote. g.R.Station.begun remote ≡ true) c.pop-in-Some.new.self.items remote begun;
      same = λ offers all.
          front_all (λ share. (arc_value {X = Vec Offer} share).items ≡ offers) c.pop.new.self.items share
          (subst (All (λ share. (arc_value {X = Vec Offer} share).items ≡ offers)) left (inv.same offers all));
    }
