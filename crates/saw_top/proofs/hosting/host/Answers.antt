-- Nobody was served for want of memory, or all were.
use Rattle.std.proofs.Common.{◌≡◌, List, [], Some, inr, refl}
use Rattle.std.proofs.lemmas.Result.{err_from_is_err_and}
use Rattle.saw_live.specs.Cells.{leads_to, own_cell}
use Rattle.saw_live.specs.Passes.{history}
use Rattle.saw_live.specs.Words.{Head}
use Rattle.saw_live.specs.declared.pass.LivePass.{LivePass}
use Rattle.saw_live.specs.declared.reader.Reader.{Reader}
use Rattle.saw_top.specs.Outside.{outside_with, shelf_end}
use Rattle.saw_top.specs.Readers.{Asker, asker}
use Rattle.saw_top.specs.Wishes.{wish_in}
use Rattle.saw_top.specs.declared.readers.Guest.{Guest}
use Rattle.saw_top.proofs.Carrying.{signs}
use Rattle.saw_top.proofs.Guests.{all_guests, readers_answered}
use Rattle.saw_top.proofs.Heads.{not_begun}
use Rattle.saw_top.proofs.hosting.host.Goals as goal

pub returns-in_err-live-clause-carries : goal.returns-in_err-live-clause-carries
returns-in_err-live-clause-carries g c =
    let signing = signs (g.G.Signer.key_text c.args.signer.now) (g.G.Signer.signature c.args.signer.now) in
    let accepts = g.V.Verifier.accepts c.args.verifier.now in
    let p = err_from_is_err_and c.from_residual.result c.from_residual.ensures.1 in
    let before = outside_with g.S.Source g.O.Sink g.N.Sink c.args.input.now c.args.output.now c.args.notes.now (shelf_end g.F.Shelf c.args.shelf.now) [] in
    rw (p.1, p.2) (not_begun accepts signing before (Some (wish_in c.args.job.now)) (wish_in c.args.job.now) refl)

pub returns-in_err-guests-clause-carries : goal.returns-in_err-guests-clause-carries
returns-in_err-guests-clause-carries g c =
    let signing = signs (g.G.Signer.key_text c.args.signer.now) (g.G.Signer.signature c.args.signer.now) in
    let accepts = g.V.Verifier.accepts c.args.verifier.now in
    let failed = c.from_residual-in_err-guests in
    let p = err_from_is_err_and failed.result failed.ensures.1 in
    let before = outside_with g.S.Source g.O.Sink g.N.Sink c.args.input.now c.args.output.now c.args.notes.now (shelf_end g.F.Shelf c.args.shelf.now) [] in
    rw (p.1, p.2) (not_begun accepts signing before (Some (wish_in c.args.job.now)) (wish_in c.args.job.now) refl)

pub apply_and_serve-came-requires-clause-cells : goal.apply_and_serve-came-requires-clause-cells
apply_and_serve-came-requires-clause-cells g c κs within =
    all_guests (λ (guest : Guest _ _). guest.pass) (λ (pass : LivePass). leads_to pass ≡ own_cell c.in_ok-live.field-0.live)
    c.in_ok-guests.guests.items c.in_ok-live.field-0.passes.items c.in_ok-guests.ensures.passes c.in_ok-live.ensures.new.lead

pub apply_and_serve-came-requires-clause-fresh : goal.apply_and_serve-came-requires-clause-fresh
apply_and_serve-came-requires-clause-fresh g c κs within =
    all_guests (λ (guest : Guest _ _). guest.pass) (λ (pass : LivePass). history pass ≡ []) c.in_ok-guests.guests.items
    c.in_ok-live.field-0.passes.items c.in_ok-guests.ensures.passes c.in_ok-live.ensures.new.fresh

pub returns-clause-served : goal.returns-clause-served
returns-clause-served g c =
    let e = c.apply_and_serve-came.ensures in
    let heads = history c.apply_and_serve-came.new.first in
    let of : Reader _ _ → Asker = λ r. asker g.A.Source g.K.Sink r.source r.sink r.end in
    let seen : Guest _ _ → List Head = λ guest. history guest.pass in
    inr (
      heads,
      e.heard,
      readers_answered (λ (guest : Guest _ _). guest.reader) of seen heads c.in_ok-guests.guests.items c.apply_and_serve-came.new.guests.items
          c.args.readers.now.items c.dismiss.new.readers.items c.in_ok-guests.ensures.readers c.dismiss.ensures.readers e.count e.ends
          c.dismiss.ensures.begins,
    )
