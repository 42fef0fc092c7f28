-- Moved back from the last one on, of what was turned.
use Rattle.std.proofs.Common.{◌≡◌, List, map, reverse, ap, sym, subst, ◌∙◌}
use Rattle.std.specs.Prelude.{All}
use Rattle.saw_live.specs.Cells.{leads_to, own_cell}
use Rattle.saw_live.specs.Heads.{StartsWith}
use Rattle.saw_live.specs.Passes.{history}
use Rattle.saw_top.proofs.Guests.{all_turned, all_turned_back}
use Rattle.saw_top.proofs.Wrapped.{back_again}
use Rattle.saw_top.proofs.readers.dismiss.Goals as goal

pub dismiss_each-requires-clause-cells : goal.dismiss_each-requires-clause-cells
dismiss_each-requires-clause-cells g c =
    subst (All (λ guest. leads_to guest.pass ≡ own_cell c.args.live.now)) (sym c.reverse.ensures.items)
    (all_turned (λ guest. leads_to guest.pass ≡ own_cell c.args.live.now) c.args.guests.items c.requires.cells)

pub returns-clause-readers : goal.returns-clause-readers
returns-clause-readers g c =
    c.dismiss_each.ensures.moved ∙ ap (λ (l : List _). reverse (map (λ guest. guest.reader) l)) c.reverse.ensures.items
    ∙ back_again (λ guest. guest.reader) c.args.guests.items

pub returns-clause-begins : goal.returns-clause-begins
returns-clause-begins g c =
    all_turned_back (λ guest. StartsWith (history c.args.first.now) (history guest.pass)) c.args.guests.items
    (subst (All (λ guest. StartsWith (history c.args.first.now) (history guest.pass))) c.reverse.ensures.items c.dismiss_each.ensures.begins)
