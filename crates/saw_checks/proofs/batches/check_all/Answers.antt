use Rattle.saw_checks.proofs.JudgedLists.{judged_length, judged_give}
use Rattle.saw_checks.proofs.batches.check_all.Goals as goal

pub all_read-requires : goal.all_read-requires
all_read-requires g c =
    rw (judged_length (g.V.Verifier.accepts c.args.verifier.now) c.args.batches.now c.in_ok-judged.judged.items c.in_ok-judged.ensures) c.requires.few

pub returns : goal.returns
returns g c =
    judged_give (g.V.Verifier.accepts c.args.verifier.now) c.args.batches.now c.in_ok-judged.judged.items c.all_read.result c.in_ok-judged.ensures
    c.all_read.ensures
