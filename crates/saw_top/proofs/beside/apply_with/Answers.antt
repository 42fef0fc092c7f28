use Rattle.std.proofs.Common.{◌≡◌, ◌<◌, ◌^◌, [], List, Err, true, length, map, sym, ap, subst, ◌∙◌}
use Rattle.std.proofs.lemmas.Result.{err_from_is_err_and}
use Rattle.std.specs.Prelude.{string_bytes}
use Rattle.saw_live.proofs.Knowing.{fresh_known}
use Rattle.saw_live.specs.Passes.{history}
use Rattle.saw_live.specs.Words.{Head, head_in}
use Rattle.saw_live.specs.declared.rule.Known.{Known}
use Rattle.saw_node.specs.Hashes.{first_half}
use Rattle.saw_report.specs.declared.run_fault.RunFault.TheVariants as runs
use Rattle.saw_top.specs.Following.{Follows, HearsJob}
use Rattle.saw_top.specs.LiveWords.{apply_of}
use Rattle.saw_top.specs.Outside.{outside_with, shelf_end}
use Rattle.saw_top.specs.Wishes.{wish_in}
use Rattle.saw_top.specs.World.{processors_alone, world_with}
use Rattle.saw_top.proofs.Carrying.{signs}
use Rattle.saw_top.proofs.Heads.{none_heard, not_asked, not_begun, not_heard, not_read}
use Rattle.saw_top.proofs.beside.apply_with.Goals as goal

pub returns-in_err-read : goal.returns-in_err-read
returns-in_err-read g c =
    let signing = signs (g.G.Signer.key_text c.args.signer.now) (g.G.Signer.signature c.args.signer.now) in
    let accepts = g.V.Verifier.accepts c.args.verifier.now in
    let p = err_from_is_err_and c.from_residual.result c.from_residual.ensures.1 in
    let before = outside_with g.S.Source g.O.Sink g.N.Sink c.args.input.now c.args.output.now c.args.notes.now (shelf_end g.F.Shelf c.args.shelf.now) [] in
    let asked = apply_of (map string_bytes c.args.words.now) in
    record {
      carries = rw (p.1, p.2) (not_read accepts signing before asked c.in_err-read.ensures.memory);
      heard = rw (p.1, p.2) (none_heard accepts signing before asked true (history c.args.pass.now));
      cell = c.requires.cell;
      first = c.requires.first;
    }

pub returns-in-None : goal.returns-in-None
returns-in-None g c =
    let signing = signs (g.G.Signer.key_text c.args.signer.now) (g.G.Signer.signature c.args.signer.now) in
    let accepts = g.V.Verifier.accepts c.args.verifier.now in
    let before = outside_with g.S.Source g.O.Sink g.N.Sink c.args.input.now c.args.output.now c.args.notes.now (shelf_end g.F.Shelf c.args.shelf.now) [] in
    let asked = apply_of (map string_bytes c.args.words.now) in
    let none = rw c.in-None.is at c.in_ok-read.ensures.ok in
    record {
      carries = not_asked accepts signing before asked (sym none);
      heard = not_heard accepts signing before asked true (history c.args.pass.now) (sym none);
      cell = c.requires.cell;
      first = c.requires.first;
    }

pub returns-in_err-forget-in-Some : goal.returns-in_err-forget-in-Some
returns-in_err-forget-in-Some g c =
    let signing = signs (g.G.Signer.key_text c.args.signer.now) (g.G.Signer.signature c.args.signer.now) in
    let accepts = g.V.Verifier.accepts c.args.verifier.now in
    let failed = c.from_residual-in_err-forget-in-Some in
    let p = err_from_is_err_and failed.result failed.ensures.1 in
    let before = outside_with g.S.Source g.O.Sink g.N.Sink c.args.input.now c.args.output.now c.args.notes.now (shelf_end g.F.Shelf c.args.shelf.now) [] in
    let asked = apply_of (map string_bytes c.args.words.now) in
    let some = rw c.in-Some.is at c.in_ok-read.ensures.ok in
    let e = c.in_err-forget-in-Some.ensures in
    let same : history c.forget.new.self ≡ history c.args.pass.now = ap (λ (v : Known). map head_in v.seen) e.view in
    record {
      carries = rw (p.1, p.2) (not_begun accepts signing before asked (wish_in c.in-Some.job) some);
      heard = rw (p.1, p.2) (subst (λ (seen : List Head). HearsJob (world_with accepts signing processors_alone) asked (g.F.Shelf.files c.args.shelf.now)
          (Follows true (history c.args.pass.now) seen) (g.S.Source.unread c.args.input.now) (Err runs.Memory)) (sym same)
          (none_heard accepts signing before asked true (history c.args.pass.now)));
      cell = e.cell ∙ c.requires.cell;
      first = ap (λ (v : Known). v.publishes) e.view ∙ c.requires.first;
    }

pub judge_alone-requires-clause-belongs : goal.judge_alone-requires-clause-belongs
judge_alone-requires-clause-belongs g c = λ κs alive.
    let e = c.in_ok-forget-in-Some.ensures in
    (e.cell ∙ c.requires.cell, ap (λ (v : Known). v.publishes) e.view ∙ c.requires.first)

pub judge_alone-requires-clause-knows : goal.judge_alone-requires-clause-knows
judge_alone-requires-clause-knows g c = λ κs alive. fresh_known first_half c.forget.new.self c.in_ok-forget-in-Some.ensures.fresh

pub judge_alone-requires-clause-few : goal.judge_alone-requires-clause-few
judge_alone-requires-clause-few g c = λ κs alive yes.
    subst (λ (seen : List Head). length seen < 2 ^ 32)
    (sym (ap (λ (v : Known). map head_in v.seen) c.in_ok-forget-in-Some.ensures.view)) c.requires.few
