use Rattle.std.proofs.Common.{◌≡◌, true, List, [], ◌∷◌, ◌++◌, length, map, reverse, sym, ap, subst, ◌∙◌, append_assoc, arith}
use Rattle.std.proofs.lemmas.List.{length-append}
use Rattle.std.proofs.lemmas.List.Elements.{All-push}
use Rattle.std.specs.Prelude.{All}
use Rattle.saw_identity.specs.Stations.{identity_offers}
use Rattle.saw_top.specs.Wrapping.{inner_of}
use Rattle.saw_top.proofs.Wrapped.{last_inner}
use Rattle.saw_top.proofs.wrapping.unwrap_each.Goals as goal

pub loop-one-preserved : goal.loop-one-preserved
loop-one-preserved g c =
    let inv = c.loop-one.invariant in
    let is = c.in-Some.ensures.items in
    let rest = c.pop.new.self.items in
    let one = c.in-Some.one in
    let inner = c.into_inner.result in
    let stations = c.loop-one.stations.items in
    let back = ap (λ (l : List _). reverse (map inner_of l)) is ∙ last_inner rest one
    ∙ ap (λ (x : _). x ∷ reverse (map inner_of rest)) (sym c.into_inner.ensures.inner) in
    record {
      moved = ap (λ (l : List _). l ++ reverse (map inner_of rest)) c.put.ensures.more
          ∙ append_assoc stations (inner ∷ []) (reverse (map inner_of rest))
          ∙ ap (λ (l : List _). stations ++ l) (sym back) ∙ inv.moved;
      begun = λ all. subst (All (λ station. g.R.Station.begun station ≡ true)) (sym c.put.ensures.more)
          (All-push (λ station. g.R.Station.begun station ≡ true) stations inner (inv.begun all) c.into_inner.ensures.begun);
      room = omega (
        arith,
        ap length is,
        length-append rest (one ∷ []),
        inv.room,
        c.put.ensures.room,
        ap length c.put.ensures.more,
        length-append stations (inner ∷ []),
      );
      done = (
        one ∷ inv.done.0,
        inv.done.1 ∙ ap (λ (l : List _). l ++ inv.done.0) is ∙ append_assoc rest (one ∷ []) inv.done.0,
        (c.into_inner.ensures.offers ∙ ap (λ (s : _). identity_offers (g.R.Station.offered s)) c.into_inner.ensures.inner, inv.done.2),
      );
    }
