use Rattle.saw_schedule.proofs.gathering.gather.Goals as goal

pub results_of-requires : goal.results_of-requires
results_of-requires c = (c.requires.0, c.requires.1, c.requires.2, c.args.steps.items, c.requires.3, c.in_ok-outcomes.ensures)

pub returns : goal.returns
returns c = λ order sizes st are. c.in_ok-results_of.ensures order sizes st c.args.steps.items are c.in_ok-outcomes.ensures
