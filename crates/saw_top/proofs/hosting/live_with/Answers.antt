-- Nothing was begun: the words ask for nothing, or memory was refused.
use Rattle.std.proofs.Common.{[], map, sym}
use Rattle.std.proofs.lemmas.Result.{err_from_is_err_and}
use Rattle.std.specs.Prelude.{string_bytes}
use Rattle.saw_top.specs.LiveWords.{live_of}
use Rattle.saw_top.specs.Outside.{outside_with, shelf_end}
use Rattle.saw_top.proofs.Carrying.{signs}
use Rattle.saw_top.proofs.Heads.{not_asked, not_read}
use Rattle.saw_top.proofs.hosting.live_with.Goals as goal

pub returns-in_err-job-clause-carries : goal.returns-in_err-job-clause-carries
returns-in_err-job-clause-carries g c =
    let signing = signs (g.G.Signer.key_text c.args.signer.now) (g.G.Signer.signature c.args.signer.now) in
    let accepts = g.V.Verifier.accepts c.args.verifier.now in
    let p = err_from_is_err_and c.from_residual.result c.from_residual.ensures.1 in
    let before = outside_with g.S.Source g.O.Sink g.N.Sink c.args.input.now c.args.output.now c.args.notes.now (shelf_end g.F.Shelf c.args.shelf.now) [] in
    rw (p.1, p.2) (not_read accepts signing before (live_of (map string_bytes c.args.words.now)) c.in_err-job.ensures.memory)

pub returns-in_default-clause-carries : goal.returns-in_default-clause-carries
returns-in_default-clause-carries g c =
    let signing = signs (g.G.Signer.key_text c.args.signer.now) (g.G.Signer.signature c.args.signer.now) in
    let accepts = g.V.Verifier.accepts c.args.verifier.now in
    let before = outside_with g.S.Source g.O.Sink g.N.Sink c.args.input.now c.args.output.now c.args.notes.now (shelf_end g.F.Shelf c.args.shelf.now) [] in
    let none = rw c.in_default.is at c.in_ok-job.ensures.ok in
    not_asked accepts signing before (live_of (map string_bytes c.args.words.now)) (sym none)
