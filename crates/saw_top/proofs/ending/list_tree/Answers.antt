use Rattle.std.proofs.lemmas.Result.{err_from_is_err_and}
use Rattle.saw_top.proofs.Listed.{listed_all}
use Rattle.saw_top.proofs.ending.list_tree.Goals as goal

pub returns-in_err-write_lines-clause-err : goal.returns-in_err-write_lines-clause-err
returns-in_err-write_lines-clause-err g c =
    let p = err_from_is_err_and c.from_residual-in_err-write_lines.result c.from_residual-in_err-write_lines.ensures.1 in
    rw (
      p.1,
      ← listed_all c.args.prefix.now c.args.tree.now c.in_ok-listed.listed.items c.deref.result.now c.deref.ensures.value
          c.in_ok-listed.ensures,
    ) c.in_err-write_lines.ensures.err

pub returns-clause-ok : goal.returns-clause-ok
returns-clause-ok g c =
    rw (← listed_all c.args.prefix.now c.args.tree.now c.in_ok-listed.listed.items c.deref.result.now c.deref.ensures.value c.in_ok-listed.ensures)
    c.in_ok-write_lines.ensures.ok
