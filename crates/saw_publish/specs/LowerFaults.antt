-- Faults of the layers below, as building a candidate tells them.
use Rattle.saw_crew.specs.declared.fault.CrewFault.{CrewFault}
use Rattle.saw_crew.specs.declared.fault.CrewFault.TheVariants as crew
use Rattle.saw_store.specs.declared.fault.StoreFault.{StoreFault}
use Rattle.saw_store.specs.declared.fault.StoreFault.TheVariants as stores
use Rattle.saw_publish.specs.declared.fault.PublishFault.{PublishFault}
use Rattle.saw_publish.specs.declared.fault.PublishFault.TheVariants.{Collision, PeerFailed, OutOfMemory}

-- a fault of those who run batches
abbrev pub fault_of_crew : CrewFault → PublishFault
fault_of_crew crew.PeerFailed = PeerFailed
fault_of_crew crew.OutOfMemory = OutOfMemory

-- a fault of the state: two nodes that collide are kept
abbrev pub fault_of_store : StoreFault → PublishFault
fault_of_store (stores.Collision kept given) = Collision kept given
fault_of_store stores.OutOfMemory = OutOfMemory
