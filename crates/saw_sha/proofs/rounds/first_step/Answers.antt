use Rattle.std.proofs.Common.{refl, sym}
use Rattle.sha2.proofs.Schedule512.{rounds_first}
use Rattle.saw_sha.specs.Lane.{lane, window}
use Rattle.saw_sha.proofs.LaneLemmas.{window_at}
use Rattle.saw_sha.proofs.rounds.first_step.Goals as goal

pub returns : goal.returns
returns c = λ j b h lt win held.
    rounds_first b h (window j c.args.w.now) (lane j c.args.v) c.args.t _ _ _ c.requires win held refl
    (sym (window_at j c.args.w.now c.args.t)) (c.round.ensures j lt)
