-- Faults of lower layers, as those of this one.
use Rattle.saw_io.specs.declared.fault.SinkFault.{SinkFault}
use Rattle.saw_io.specs.declared.fault.SinkFault.TheVariants as sinks
use Rattle.saw_generate.specs.declared.fault.GenerateFault.{GenerateFault}
use Rattle.saw_generate.specs.declared.fault.GenerateFault.TheVariants.{WriteFailed, OutOfMemory}

abbrev pub fault_of_sink : SinkFault → GenerateFault
fault_of_sink sinks.Failed = WriteFailed
fault_of_sink sinks.OutOfMemory = OutOfMemory
