-- Words that are no options of `apply` beside readers name no door.
use Rattle.std.proofs.Common.{sym}
use Rattle.saw_words.specs.Given.{options_in}
use Rattle.saw_top.specs.LiveWords.{opened_door}
use Rattle.saw_top.specs.Table.{live_options}
use Rattle.saw_top.proofs.OptionWords.{refused}
use Rattle.saw_top.proofs.opening.door_with.Goals as goal

pub returns-in-None-clause-value : goal.returns-in-None-clause-value
returns-in-None-clause-value c =
    rw c.in-Apply.is (sym (refused live_options opened_door (options_in c.args.options.now) c.in-None.ensures))
