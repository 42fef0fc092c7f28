use Rattle.std.proofs.Common.{ap, ◌∙◌, arith}
use Rattle.sha2.specs.Sha512.{rounds, schedule}
use Rattle.saw_sha.proofs.rounds.first_four_steps.Goals as goal

pub returns : goal.returns
returns c = λ j b h lt win held.
    let after = rounds h (schedule b 64) in
    let s1 = c.first_step-v.ensures j b h lt win held in
    let s2 = c.first_step-v-2.ensures j b h lt win s1 in
    let s3 = c.first_step-v-3.ensures j b h lt win (s2 ∙ ap after (omega arith)) in
    c.first_step.ensures j b h lt win (s3 ∙ ap after (omega arith)) ∙ ap after (omega arith)
