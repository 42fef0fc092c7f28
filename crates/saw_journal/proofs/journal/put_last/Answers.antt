use Rattle.std.proofs.Common.{◌∙◌}
use Rattle.saw_journal.proofs.Joining.{keys_behind, on_ok_of, put_behind, values_behind}
use Rattle.saw_journal.proofs.journal.put_last.Goals as goal

pub returns-clause-values : goal.returns-clause-values
returns-clause-values c =
    let es = c.args.blocks.now.entries in
    values_behind es c.insert.new.self.entries c.args.key c.args.block
    (on_ok_of c.insert.result (c.insert.ensures.succeeds c.requires.room) c.insert.ensures.entries
    ∙ put_behind es c.args.key c.args.block c.requires.ids c.requires.fresh)

pub returns-clause-keys : goal.returns-clause-keys
returns-clause-keys c =
    let es = c.args.blocks.now.entries in
    keys_behind es c.insert.new.self.entries c.args.key c.args.block
    (on_ok_of c.insert.result (c.insert.ensures.succeeds c.requires.room) c.insert.ensures.entries
    ∙ put_behind es c.args.key c.args.block c.requires.ids c.requires.fresh)
