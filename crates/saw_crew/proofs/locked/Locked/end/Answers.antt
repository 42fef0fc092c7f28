use Rattle.std.proofs.Common.{◌∙◌}
use Rattle.saw_crew.specs.Rounds.{tickets_of}
use Rattle.saw_crew.proofs.Ended.{given-ended, stored-ended, stores-all}
use Rattle.saw_crew.proofs.locked.Locked.end.Goals as goal

pub returns-then-not-same_offers-clause-ended : goal.returns-then-not-same_offers-clause-ended
returns-then-not-same_offers-clause-ended g c =
    given-ended c.args.self.now.history c.give_all_back.new.self.history (tickets_of c.args.jobs.now) c.give_all_back.ensures.given

pub returns-clause-yes : goal.returns-clause-yes
returns-clause-yes g c = λ yes.
    stores-all c.args.self.now.history c.finish_all.new.self.history c.give_all_back-2.new.self.history c.args.jobs.now c.args.done.items c.len-count.result
    (c.len-count.ensures ∙ c.args.done.ok.0) c.finish_all.ensures.finished c.give_all_back-2.ensures.given

pub returns-clause-ended : goal.returns-clause-ended
returns-clause-ended g c =
    stored-ended c.args.self.now.history c.give_all_back-2.new.self.history c.args.jobs.now c.args.done.items c.requires.first
    (stores-all c.args.self.now.history c.finish_all.new.self.history c.give_all_back-2.new.self.history c.args.jobs.now c.args.done.items c.len-count.result
    (c.len-count.ensures ∙ c.args.done.ok.0) c.finish_all.ensures.finished c.give_all_back-2.ensures.given)
