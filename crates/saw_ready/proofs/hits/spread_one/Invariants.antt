use Rattle.saw_ready.specs.Hits.{IsSpread}
use Rattle.saw_ready.proofs.hits.spread_one.Given as goal

abbrev pub invariant-loop-place : goal.invariant-loop-place
invariant-loop-place l = IsSpread l.succs l.end l.m l.place l.fn.hits l.hits
