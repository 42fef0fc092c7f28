use Rattle.std.proofs.lemmas.Result.{err_from_is_err_and}
use Rattle.saw_top.proofs.Beginning.{stops_set}
use Rattle.saw_top.proofs.seats.begin_each.Goals as goal

pub returns-in_err-begin_one-clause-stops : goal.returns-in_err-begin_one-clause-stops
returns-in_err-begin_one-clause-stops g c =
    let l = c.loop-place in
    let p = err_from_is_err_and c.from_residual.result c.from_residual.ensures.1 in
    rw (p.1)
    (stops_set g.R.Station.begun c.args.remotes.now l.remotes l.place c.begin_one.new.remote l.invariant.count l.invariant.begun l.invariant.rest)
