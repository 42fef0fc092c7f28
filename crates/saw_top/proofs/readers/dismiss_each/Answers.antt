-- The pass of one more has ended, and its reader was moved back.
use Rattle.std.proofs.Common.{◌≡◌, List, [], ◌∷◌, ◌++◌, length, sym, ap, subst, ◌∙◌, arith}
use Rattle.std.proofs.lemmas.List.{length-append, nil_from_length}
use Rattle.std.proofs.lemmas.List.Elements.{All-from_recursion}
use Rattle.std.specs.Prelude.{All}
use Rattle.saw_live.specs.Cells.{leads_to, own_cell}
use Rattle.saw_live.specs.Heads.{StartsWith}
use Rattle.saw_live.specs.Passes.{history}
use Rattle.saw_live.specs.Words.{Head}
use Rattle.saw_top.proofs.Guests.{one_out}
use Rattle.saw_top.specs.declared.readers.Guest.{Guest}
use Rattle.saw_top.proofs.Seating.{front_all, last_all, moved_on}
use Rattle.saw_top.proofs.readers.dismiss_each.Goals as goal

pub retire-requires-clause-own : goal.retire-requires-clause-own
retire-requires-clause-own g c = λ κs alive.
    let is = c.in-Some.ensures.items in
    let inv = c.loop-guest.invariant in
    last_all (λ guest. leads_to guest.pass ≡ own_cell c.args.live.now) c.pop.new.self.items c.in-Some.guest
    (subst (All (λ guest. leads_to guest.pass ≡ own_cell c.args.live.now)) is inv.cells)

pub loop-guest-preserved : goal.loop-guest-preserved
loop-guest-preserved g c =
    let inv = c.loop-guest.invariant in
    let is = c.in-Some.ensures.items in
    let one = c.in-Some.guest in
    let rest = c.pop.new.self.items in
    let readers = c.loop-guest.readers.items in
    record {
      moved = one_out (λ guest. guest.reader) _ readers _ _ rest one inv.moved is c.put.ensures.more;
      room = omega (
        arith,
        inv.room,
        ap length is,
        length-append rest (one ∷ []),
        c.put.ensures.room,
        ap length c.put.ensures.more,
        length-append readers (one.reader ∷ []),
      );
      cell = c.retire.ensures.cell ∙ inv.cell;
      first = c.retire.ensures.same.first ∙ inv.first;
      same = c.retire.ensures.history ∙ inv.same;
      cells = front_all (λ guest. leads_to guest.pass ≡ own_cell c.args.live.now) rest one
          (subst (All (λ guest. leads_to guest.pass ≡ own_cell c.args.live.now)) is inv.cells);
      done = (
        one ∷ inv.done.0,
        moved_on c.args.guests.items rest inv.done.0 one (inv.done.1 ∙ ap (λ (l : List (Guest _ _)). l ++ inv.done.0) is),
        (subst (λ (heads : List Head). StartsWith heads (history one.pass)) (c.retire.ensures.history ∙ inv.same) c.retire.ensures.begins, inv.done.2),
      );
    }

pub returns-clause-begins : goal.returns-clause-begins
returns-clause-begins g c =
    let inv = c.loop-guest.invariant in
    let none = nil_from_length c.loop-guest.guests.items (omega (arith, c.in_default.ensures.cases, c.loop-guest.guests.ok.0)) in
    subst (All (λ guest. StartsWith (history c.args.first.now) (history guest.pass)))
    (sym (inv.done.1 ∙ ap (λ (l : List (Guest _ _)). l ++ inv.done.0) none))
    (All-from_recursion (λ guest. StartsWith (history c.args.first.now) (history guest.pass)) inv.done.0 inv.done.2)
