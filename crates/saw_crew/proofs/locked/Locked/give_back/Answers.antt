use Rattle.std.specs.Arc.{arc_value}
use Rattle.saw_context.specs.Outcome.{Processors}
use Rattle.saw_station.specs.Serving.{processors_at}
use Rattle.saw_crew.proofs.Stores.{given-sound}
use Rattle.saw_crew.proofs.locked.Locked.give_back.Goals as goal

pub invariant_of-self : goal.invariant_of-self
invariant_of-self g c =
    let p : Processors = processors_at g.R.Station.next g.R.Station.tells (arc_value c.self.inside.offers).items in
    given-sound p c.self.inside.schedule c.give_back.new.self c.self.invariant c.args.ticket c.give_back.result c.give_back.ensures
