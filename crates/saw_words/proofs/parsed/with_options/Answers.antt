use Rattle.saw_words.proofs.ClapRules.{name_at, option_more}
use Rattle.saw_words.proofs.parsed.with_options.Goals as goal

pub option-requires : goal.option-requires
option-requires c = name_at c.args.names.now c.loop-name.name-index _ c.loop-name-test.true c.requires

pub loop-name-preserved : goal.loop-name-preserved
loop-name-preserved c = option_more c.args.names.now c.loop-name.name-index _ _ _ _ c.loop-name-test.true c.loop-name.invariant c.option.ensures.rule
    (c.in_ok-command.ensures.shape c.option.ensures.local)
