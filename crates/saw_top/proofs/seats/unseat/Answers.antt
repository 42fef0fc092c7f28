use Rattle.std.proofs.Common.{◌≡◌, true, List, [], ◌∷◌, ◌++◌, length, reverse, Option, sym, ap, subst, ◌∙◌, append_assoc, arith}
use Rattle.std.specs.Prelude.{All, IfSome}
use Rattle.std.proofs.lemmas.List.{length-append, length-reverse}
use Rattle.std.proofs.lemmas.List.Elements.{All-push}
use Rattle.saw_top.specs.Seats.{remotes_at}
use Rattle.saw_top.proofs.Seating.{last_first, last_none}
use Rattle.saw_top.proofs.seats.unseat.Goals as goal

pub put-requires : goal.put-requires
put-requires g c =
    let is = c.in-Some.ensures.items in
    let remote = c.in-Some-into_remote.remote in
    let back = ap reverse (ap remotes_at is) ∙ last_first c.pop.new.self.items c.in-Some.desk remote (sym c.into_remote.ensures.remote ∙ c.in-Some-into_remote.is) in
    let count = ap length back in
    let now = length-reverse (remotes_at c.loop-desk.desks.items) in
    let new = length-reverse (remotes_at c.pop.new.self.items) in
    omega (arith, count, now, new, c.loop-desk.invariant.room)

pub loop-desk-preserved-in-Some-into_remote : goal.loop-desk-preserved-in-Some-into_remote
loop-desk-preserved-in-Some-into_remote g c =
    let is = c.in-Some.ensures.items in
    let remote = c.in-Some-into_remote.remote in
    let back = ap reverse (ap remotes_at is) ∙ last_first c.pop.new.self.items c.in-Some.desk remote (sym c.into_remote.ensures.remote ∙ c.in-Some-into_remote.is) in
    let count = ap length back in
    let now = length-reverse (remotes_at c.loop-desk.desks.items) in
    let new = length-reverse (remotes_at c.pop.new.self.items) in
    let inv = c.loop-desk.invariant in
    record {
      moved = ap (λ (l : List _). l ++ reverse (remotes_at c.pop.new.self.items)) c.put.ensures.more
          ∙ append_assoc c.loop-desk.remotes.items (remote ∷ []) (reverse (remotes_at c.pop.new.self.items))
          ∙ ap (λ (l : List _). c.loop-desk.remotes.items ++ l) (sym back) ∙ inv.moved;
      begun = λ all. subst (All (λ remote. g.R.Station.begun remote ≡ true)) (sym c.put.ensures.more)
          (All-push (λ remote. g.R.Station.begun remote ≡ true) c.loop-desk.remotes.items remote (inv.begun all)
          (subst (λ (found : Option _). IfSome found (λ remote. g.R.Station.begun remote ≡ true)) c.in-Some-into_remote.is c.into_remote.ensures.begun));
      room = omega (arith, count, now, new, inv.room, c.put.ensures.room, ap length c.put.ensures.more, length-append c.loop-desk.remotes.items (remote ∷ []));
    }

pub loop-desk-preserved : goal.loop-desk-preserved
loop-desk-preserved g c =
    let is = c.in-Some.ensures.items in
    let none = c.in_default-into_remote.not-Some in
    let same = ap remotes_at is ∙ last_none c.pop.new.self.items c.in-Some.desk (sym c.into_remote.ensures.remote ∙ c.in_default-into_remote.is) in
    let inv = c.loop-desk.invariant in
    record {
      moved = ap (λ (l : List _). c.loop-desk.remotes.items ++ reverse l) (sym same) ∙ inv.moved;
      begun = inv.begun;
      room = omega (arith, ap length same, inv.room);
    }
