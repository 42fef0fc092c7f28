use Rattle.saw_journal.proofs.Numbered.{faults_have_numbers}
use Rattle.saw_journal.proofs.laws.faults_have_numbers.Goals as goal

pub returns : goal.returns
returns c = faults_have_numbers
