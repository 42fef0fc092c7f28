use Rattle.std.specs.Arc.{arc_value}
use Rattle.saw_context.specs.Outcome.{Processors}
use Rattle.saw_station.specs.Serving.{processors_at}
use Rattle.saw_crew.proofs.Stores.{take-sound}
use Rattle.saw_crew.proofs.locked.Locked.take.Goals as goal

pub invariant_of-self-then-is_some : goal.invariant_of-self-then-is_some
invariant_of-self-then-is_some g c =
    let p : Processors = processors_at g.R.Station.next g.R.Station.tells (arc_value c.self.inside.offers).items in
    take-sound p c.self.inside.schedule c.take.new.self c.self.invariant c.in_ok-job.job c.in_ok-job.ensures.ok
