use Rattle.std.proofs.Common.{ap, ◌∙◌}
use Rattle.std.specs.List.{insert}
use Rattle.saw_settings.specs.Turns.{replies_from}
use Rattle.saw_settings.proofs.Counting.{stays, insert-remove}
use Rattle.saw_settings.proofs.action.Asking.count_up.Goals as goal

pub returns : goal.returns
returns c candidates is lt =
    let made = c.from_vec-2.ensures ∙ c.in_ok-insert.ensures.items ∙ ap (λ cs. insert cs c.args.place c.args.voted) is
    ∙ insert-remove candidates c.args.place c.args.voted lt in
    stays c.keep-2.result c.args.self.now.keys.now c.args.threshold candidates c.from_vec-2.result c.args.place c.args.voted c.as_slice-votes.result.now
    (replies_from c.args.at c.args.self.now.talk.turns.now)
    c.as_slice-votes.ensures c.if-is_won.ensures c.if-is_lost.ensures made c.keep-2.ensures
