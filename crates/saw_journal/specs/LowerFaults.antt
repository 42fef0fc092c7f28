-- Faults of the layers below, as the journal tells them.
use Rattle.saw_crew.specs.declared.fault.CrewFault.{CrewFault}
use Rattle.saw_crew.specs.declared.fault.CrewFault.TheVariants as crew
use Rattle.saw_store.specs.declared.fault.StoreFault.{StoreFault}
use Rattle.saw_store.specs.declared.fault.StoreFault.TheVariants as stores
use Rattle.saw_journal.specs.declared.fault.JournalFault.{JournalFault}
use Rattle.saw_journal.specs.declared.fault.JournalFault.TheVariants.{Collision, PeerFailed, OutOfMemory}

-- a fault of those who run batches
abbrev pub fault_of_crew : CrewFault → JournalFault
fault_of_crew crew.PeerFailed = PeerFailed
fault_of_crew crew.OutOfMemory = OutOfMemory

-- a fault of the state: two nodes that collide are kept
abbrev pub fault_of_store : StoreFault → JournalFault
fault_of_store (stores.Collision kept given) = Collision kept given
fault_of_store stores.OutOfMemory = OutOfMemory
