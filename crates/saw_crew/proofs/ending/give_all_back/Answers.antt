use Rattle.std.proofs.Common.{◌<◌, ◌≤◌, length, arith}
use Rattle.saw_crew.proofs.Endings.{all-ended, ended-next, gave-both, gave-none}
use Rattle.saw_crew.proofs.ending.give_all_back.Goals as goal

pub loop-k-init : goal.loop-k-init
loop-k-init c = record { gave = gave-none c.args.schedule.now; ended = λ k ticket less. absurd (omega (arith, less)) }

pub loop-k-preserved : goal.loop-k-preserved
loop-k-preserved c =
    let old = c.args.schedule.now in
    let lt : c.loop-k.k < length old.steps = rw c.steps-count.ensures.steps at c.loop-k-test.true in
    record {
      gave = gave-both old c.loop-k.schedule c.give_one_back.new.schedule c.loop-k.invariant.gave c.give_one_back.ensures.gave;
      ended = ended-next old c.loop-k.schedule c.give_one_back.new.schedule c.loop-k.k c.loop-k.invariant.gave c.give_one_back.ensures.gave lt c.loop-k.invariant.ended c.give_one_back.ensures.ended;
    }

pub returns-clause-quiet : goal.returns-clause-quiet
returns-clause-quiet c =
    let old = c.args.schedule.now in
    all-ended old c.loop-k.schedule c.steps-count.ensures.replay c.loop-k.invariant.gave
    (λ k t lt at. let past : length old.steps ≤ c.loop-k.k = rw c.steps-count.ensures.steps at c.loop-k-test.false in let less : k < c.loop-k.k = omega (arith, lt, past) in c.loop-k.invariant.ended k t less at)
