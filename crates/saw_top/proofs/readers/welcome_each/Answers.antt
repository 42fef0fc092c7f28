-- A reader and a pass more are a guest.
use Rattle.std.proofs.Common.{[], ◌∷◌, length, ap, arith}
use Rattle.std.proofs.lemmas.List.{length-append}
use Rattle.saw_top.specs.declared.readers.Guest.{Guest}
use Rattle.saw_top.proofs.Guests.{one_in}
use Rattle.saw_top.proofs.readers.welcome_each.Goals as goal

pub loop-pass-preserved : goal.loop-pass-preserved
loop-pass-preserved g c =
    let inv = c.loop-pass.invariant in
    let pass = c.in-Some.pass in
    let reader = c.in-Some-pop.reader in
    let guests = c.loop-pass.guests.items in
    let more = c.put.ensures.more in
    let left = c.in-Some.ensures.items in
    let taken = c.in-Some-pop.ensures.items in
    let readers = c.pop-in-Some.new.self.items in
    let one : Guest _ _ = record { reader = reader; pass = pass } in
    record {
      moved = one_in (λ guest. guest.reader) _ _ readers guests _ one inv.moved taken more;
      passed = one_in (λ guest. guest.pass) _ _ c.pop.new.self.items guests _ one inv.passed left more;
      many = omega (
        arith,
        inv.many,
        ap length left,
        length-append c.pop.new.self.items (pass ∷ []),
        ap length taken,
        length-append readers (reader ∷ []),
      );
      room = omega (
        arith,
        inv.room,
        c.put.ensures.room,
        ap length more,
        length-append guests (one ∷ []),
        ap length left,
        length-append c.pop.new.self.items (pass ∷ []),
      );
      kept = omega (
        arith,
        inv.kept,
        ap length more,
        length-append guests (one ∷ []),
        ap length taken,
        length-append readers (reader ∷ []),
        c.in-Some-pop.ensures.capacity,
      );
    }
