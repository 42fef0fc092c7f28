use Rattle.saw_crew.proofs.serial.settle.Goals as goal

pub returns-in-Failed-clause-failed : goal.returns-in-Failed-clause-failed
returns-in-Failed-clause-failed g c = rw c.in-Failed.is c.add_ids.ensures
