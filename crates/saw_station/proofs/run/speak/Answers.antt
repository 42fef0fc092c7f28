use Rattle.saw_station.proofs.run.speak.Goals as goal

pub returns-in-BuiltIn-clause-spoken : goal.returns-in-BuiltIn-clause-spoken
returns-in-BuiltIn-clause-spoken g c = rw c.in-BuiltIn.is c.converse.ensures.spoken
