use Rattle.std.proofs.Common.{◌≡◌, ap, subst, ℕ, List, Err}
use Rattle.std.specs.Prelude.{option_map, unwrap_or}
use Rattle.std.proofs.lemmas.Result.{err_from_is_err_and}
use Rattle.saw_verify.specs.Lists.{first_bad_line}
use Rattle.saw_verify.specs.declared.attest.AttestFault.TheVariants as lists
use Rattle.saw_top.specs.Outside.{shelf_end}
use Rattle.saw_top.proofs.Prepares.{bad_list, unlisted}
use Rattle.saw_top.proofs.prepare.prepare.Goals as goal

pub returns-in_err-bytes : goal.returns-in_err-bytes
returns-in_err-bytes g c =
    let p = err_from_is_err_and c.from_residual-in_err-bytes.result c.from_residual-in_err-bytes.ensures.1 in
    let e = c.in_err-bytes.ensures in
    record {
      prepares = λ signing. rw (p.1, p.2, c.in-Some.is)
          (unlisted (g.V.Verifier.accepts c.args.verifier.now) signing (option_map (λ name. name.now) c.args.batches)
          (shelf_end g.F.Shelf c.args.shelf.now) c.in-Some.name.now
          (shelf_end g.F.Shelf c.fetch.new.self) c.in_err-bytes.field-0.0 e.told (λ is. e.cause (ap Err is)));
    }

pub returns-in_err-listed : goal.returns-in_err-listed
returns-in_err-listed g c =
    let p = err_from_is_err_and c.from_residual-in_err-listed.result c.from_residual-in_err-listed.ensures.1 in
    let bytes = c.in_ok-bytes.ensures in
    let why = subst (λ (l : List ℕ). c.in_err-listed.field-0.0 ≡ unwrap_or (option_map lists.BadLine (first_bad_line l)) lists.OutOfMemory)
    c.deref.ensures.value c.in_err-listed.ensures.fault in
    record {
      prepares = λ signing. rw (p.1, p.2, c.in-Some.is)
          (bad_list (g.V.Verifier.accepts c.args.verifier.now) signing (option_map (λ name. name.now) c.args.batches)
          (shelf_end g.F.Shelf c.args.shelf.now) c.in-Some.name.now c.in_ok-bytes.bytes bytes.told bytes.within
          (shelf_end g.F.Shelf c.fetch.new.self) c.in_err-listed.field-0.0 why);
    }
