use Rattle.std.proofs.Common.{ap, subst}
use Rattle.saw_schedule.specs.Histories.{Finishes, History}
use Rattle.saw_crew.specs.Stored.{Stored}
use Rattle.saw_crew.proofs.locked.Locked.finish.Goals as goal

pub returns-clause-finished : goal.returns-clause-finished
returns-clause-finished g c =
    (c.finish.result, subst (λ (h : History). Finishes h c.finish.new.self c.args.done c.finish.result) (ap (λ (s : Stored). s.history) c.self.view_is) c.finish.ensures)
