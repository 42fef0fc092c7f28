-- Kinds of faults that end a run.
use Rattle.std.specs.Prelude.{◌≡◌, Bool, true, false}
use Rattle.saw_report.specs.declared.run_fault.RunFault.{RunFault}
use Rattle.saw_report.specs.declared.run_fault.RunFault.TheVariants as runs

-- a fault that words, files and stream have, or two different nodes of one hash, and not one of the outside
abbrev pub is_told : RunFault → Bool
is_told runs.Peer = false
is_told runs.Read = false
is_told runs.Write = false
is_told runs.Memory = false
is_told runs.FileFailed = false
is_told fault = true

-- a fault that the work on a stream comes to, and not one of words and files
abbrev pub is_of_stream : RunFault → Bool
is_of_stream runs.Words = false
is_of_stream runs.FileMissing = false
is_of_stream runs.FileTooLong = false
is_of_stream runs.FileFailed = false
is_of_stream (runs.BadLine line) = false
is_of_stream runs.BadList = false
is_of_stream fault = true

abbrev pub IsOfStream : RunFault → Type 0
IsOfStream fault = is_of_stream fault ≡ true
