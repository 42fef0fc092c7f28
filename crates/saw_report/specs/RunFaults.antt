-- Faults that end a run: the status of each, and its line on the notes.
use Rattle.std.specs.Prelude.{ℕ, Bool, true, false, List, [], ◌∷◌, ◌++◌, codes}
use Rattle.hex.specs.Hex.{encode_lower}
use Rattle.saw_io.specs.declared.fault.FrameFault.{FrameFault}
use Rattle.saw_io.specs.declared.fault.FrameFault.TheVariants as frames
use Rattle.saw_io.specs.declared.fault.ShelfFault.{ShelfFault}
use Rattle.saw_io.specs.declared.fault.ShelfFault.TheVariants as shelves
use Rattle.saw_io.specs.declared.fault.SinkFault.{SinkFault}
use Rattle.saw_io.specs.declared.fault.SinkFault.TheVariants as sinks
use Rattle.saw_node.specs.Nodes.{encoding_of, shape_of}
use Rattle.saw_node.specs.Contents.{Node}
use Rattle.saw_verify.specs.declared.attest.AttestFault.{AttestFault}
use Rattle.saw_verify.specs.declared.attest.AttestFault.TheVariants as lists
use Rattle.saw_wire.specs.declared.fault.MessageFault.{MessageFault}
use Rattle.saw_wire.specs.declared.fault.MessageFault.TheVariants as messages
use Rattle.saw_report.specs.Lines.{spaced}
use Rattle.saw_report.specs.declared.run_fault.RunFault.{RunFault}
use Rattle.saw_report.specs.declared.run_fault.RunFault.TheVariants as runs

-- ---- faults of the outside and of lists, as faults of the run

abbrev pub fault_of_frame : FrameFault → RunFault
fault_of_frame (frames.Truncated have want) = runs.Truncated have want
fault_of_frame (frames.TooLong length) = runs.TooLong length
fault_of_frame frames.ReadFailed = runs.Read
fault_of_frame frames.OutOfMemory = runs.Memory

abbrev pub fault_of_sink : SinkFault → RunFault
fault_of_sink sinks.Failed = runs.Write
fault_of_sink sinks.OutOfMemory = runs.Memory

abbrev pub fault_of_shelf : ShelfFault → RunFault
fault_of_shelf shelves.Missing = runs.FileMissing
fault_of_shelf shelves.TooLong = runs.FileTooLong
fault_of_shelf shelves.Failed = runs.FileFailed
fault_of_shelf shelves.OutOfMemory = runs.Memory

abbrev pub fault_of_list : AttestFault → RunFault
fault_of_list (lists.BadLine line) = runs.BadLine line
fault_of_list lists.OutOfMemory = runs.Memory

-- of the bytes of a batch list
abbrev pub fault_of_message : MessageFault → RunFault
fault_of_message (messages.Wire fault) = runs.BadList
fault_of_message (messages.NotUtf8 field) = runs.BadList
fault_of_message messages.OutOfMemory = runs.Memory

-- ---- what is told of a fault

-- the status of a fault
abbrev pub fault_status : RunFault → ℕ
fault_status runs.Words = 2
fault_status (runs.Truncated have want) = 3
fault_status (runs.TooLong length) = 3
fault_status runs.Frames = 3
fault_status runs.Blocks = 10
fault_status runs.Read = 4
fault_status runs.Write = 5
fault_status runs.Peer = 6
fault_status (runs.Collision kept given) = 9
fault_status runs.Memory = 7
fault_status _ = 11

-- a node as it is told: the lower-case digits of its encoding
abbrev pub node_digits : Node → List ℕ
node_digits node = encode_lower (encoding_of (shape_of node))

-- the name of a fault, and its numbers or nodes
abbrev pub fault_words : RunFault → List ℕ
fault_words runs.Words = codes " words"
fault_words (runs.Truncated have want) = codes " truncated" ++ spaced have ++ spaced want
fault_words (runs.TooLong length) = codes " toolong" ++ spaced length
fault_words runs.Frames = codes " frames"
fault_words runs.Blocks = codes " blocks"
fault_words runs.Read = codes " read"
fault_words runs.Write = codes " write"
fault_words runs.Peer = codes " peer"
fault_words (runs.Collision kept given) = codes " collision " ++ node_digits kept ++ codes " " ++ node_digits given
fault_words runs.Memory = codes " memory"
fault_words runs.FileMissing = codes " missing"
fault_words runs.FileTooLong = codes " toolong"
fault_words runs.FileFailed = codes " failed"
fault_words (runs.BadLine line) = codes " badline" ++ spaced line
fault_words runs.BadList = codes " badlist"

-- what tells why a run ended: its status and the fault
abbrev pub fault_line : RunFault → List ℕ
fault_line fault = codes "fault" ++ spaced (fault_status fault) ++ fault_words fault ++ 10 ∷ []

-- whether a fault's line may be long: it tells nodes
abbrev pub is_long : RunFault → Bool
is_long (runs.Collision kept given) = true
is_long _ = false
