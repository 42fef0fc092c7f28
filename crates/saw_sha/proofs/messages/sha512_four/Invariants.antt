use Rattle.saw_sha.specs.Lane.{lane}
use Rattle.saw_sha.proofs.Blocks.{IsAfter}
use Rattle.saw_sha.proofs.messages.sha512_four.Given as goal

abbrev pub invariant-turns : goal.invariant-turns
invariant-turns l =
    IsAfter l.a l.i (lane 0 l.states) l.out_a × IsAfter l.b l.i (lane 1 l.states) l.out_b
    × IsAfter l.c l.i (lane 2 l.states) l.out_c × IsAfter l.d l.i (lane 3 l.states) l.out_d
