-- What the vector holds is what its slice does.
use Rattle.std.proofs.Common.{◌≡◌, List, drop, length, sym, ap, subst, ◌∙◌}
use Rattle.std.specs.Prelude.{All}
use Rattle.saw_live.specs.Cells.{leads_to, own_cell}
use Rattle.saw_live.specs.Passes.{history}
use Rattle.saw_live.specs.Words.{Head}
use Rattle.saw_top.specs.Readers.{AllEnd, Asker, asker}
use Rattle.saw_top.specs.declared.readers.Guest.{Guest}
use Rattle.saw_top.proofs.Seated.{written_back}
use Rattle.saw_top.proofs.readers.serve.Goals as goal

pub returns : goal.returns
returns g c =
    let olds = c.args.guests.now in
    let news = c.serve_all.new.guests in
    let e = c.serve_all.ensures in
    let same = c.deref_mut.ensures.value in
    let back = written_back olds.len news (drop (length news) olds.items) (e.count ∙ c.deref_mut.ensures.len) in
    let of : Guest _ _ → Asker = λ guest. asker g.A.Source g.K.Sink guest.reader.source guest.reader.sink guest.reader.end in
    let seen : Guest _ _ → List Head = λ guest. history guest.pass in
    record {
      count = ap length back ∙ e.count ∙ ap length same;
      cell = subst (All (λ (guest : Guest _ _). leads_to guest.pass ≡ own_cell c.args.live.now)) (sym back) e.cell;
      ends = subst (AllEnd of seen olds.items) (sym back) (subst (λ (l : List (Guest _ _)). AllEnd of seen l news) same e.ends);
    }
