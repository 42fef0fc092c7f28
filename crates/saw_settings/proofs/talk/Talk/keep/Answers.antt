use Rattle.std.proofs.Common.{◌≡◌, ◌∙◌, subst}
use Rattle.std.specs.Prelude.{IfOk}
use Rattle.saw_settings.specs.Actions.{write}
use Rattle.saw_settings.specs.Keys.{proposals}
use Rattle.saw_settings.specs.Turns.{replies_from}
use Rattle.saw_settings.proofs.talk.Talk.keep.Goals as goal

pub returns : goal.returns
returns c = subst (λ text. IfOk c.write.result (λ action. action ≡ write proposals text (replies_from c.args.at c.args.self.now.turns.now)))
    (c.as_str.ensures ∙ c.in_ok-text.ensures) c.write.ensures
