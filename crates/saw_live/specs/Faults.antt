-- What the faults of frames and of sinks are to a reader.
use Rattle.saw_io.specs.declared.fault.FrameFault.{FrameFault}
use Rattle.saw_io.specs.declared.fault.FrameFault.TheVariants as frames
use Rattle.saw_io.specs.declared.fault.SinkFault.{SinkFault}
use Rattle.saw_io.specs.declared.fault.SinkFault.TheVariants as sinks
use Rattle.saw_live.specs.declared.reader.ReaderFault.{ReaderFault}
use Rattle.saw_live.specs.declared.reader.ReaderFault.TheVariants as readers

abbrev pub fault_of_frame : FrameFault → ReaderFault
fault_of_frame (frames.Truncated have want) = readers.Cut
fault_of_frame (frames.TooLong length) = readers.TooLong length
fault_of_frame frames.ReadFailed = readers.Failed
fault_of_frame frames.OutOfMemory = readers.OutOfMemory

abbrev pub fault_of_sink : SinkFault → ReaderFault
fault_of_sink sinks.Failed = readers.Failed
fault_of_sink sinks.OutOfMemory = readers.OutOfMemory
