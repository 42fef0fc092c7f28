use Rattle.std.proofs.Common.{length, drop, [], arith, ◌≡◌}
use Rattle.std.proofs.lemmas.List.{drop_all}
use Rattle.saw_checks.proofs.Differences.{ends_first}
use Rattle.saw_checks.proofs.ids.first_difference.Goals as goal

pub returns-then-found-listed : goal.returns-then-found-listed
returns-then-found-listed g c =
    let n = c.loop-index.index in
    let none : drop n c.args.found.now ≡ [] = drop_all n c.args.found.now (omega arith) in
    let whole : n ≡ length c.args.found.now = omega arith in
    rw (c.loop-index.invariant.so_far, none, ends_first c.args.listed.now n (omega arith), whole)
