use Rattle.std.proofs.Common.{ap, subst, ℕ, List, Err, refl}
use Rattle.std.proofs.lemmas.Result.{err_from_is_err_and}
use Rattle.saw_top.specs.Claims.{max_proof, nodes_of}
use Rattle.saw_top.specs.Fetching.{ReadsBy}
use Rattle.saw_top.specs.Outside.{shelf_end}
use Rattle.saw_top.proofs.Fetched.{file_read, no_file}
use Rattle.saw_top.proofs.NodeLines.{long_proof}
use Rattle.saw_top.proofs.claim.fetch_nodes.Goals as goal

pub returns-in_err-bytes : goal.returns-in_err-bytes
returns-in_err-bytes g c =
    let p = err_from_is_err_and c.from_residual.result c.from_residual.ensures.1 in
    let e = c.in_err-bytes.ensures in
    record {
      fetches = rw (p.1, p.2) (no_file nodes_of max_proof c.args.name.now (shelf_end g.F.Shelf c.args.shelf.now) (shelf_end g.F.Shelf c.fetch.new.self) refl long_proof
          c.in_err-bytes.field-0.0 e.told (λ is. e.cause (ap Err is)));
    }

pub returns : goal.returns
returns g c =
    let e = c.in_ok-bytes.ensures in
    record {
      fetches = file_read nodes_of max_proof c.args.name.now (shelf_end g.F.Shelf c.args.shelf.now) (shelf_end g.F.Shelf c.fetch.new.self)
          c.in_ok-bytes.bytes e.told e.within c.read_nodes.result
          (subst (λ (l : List ℕ). ReadsBy nodes_of l c.read_nodes.result) c.deref.ensures.value c.read_nodes.ensures.reads);
    }
