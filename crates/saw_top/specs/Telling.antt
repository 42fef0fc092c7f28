-- Whether what is asked for goes to deterministic processors.
use Rattle.std.specs.Prelude.{◌≡◌, ℕ, Bool, true, List, Result, Ok, Err}
use Rattle.std.specs.List.{list_all}
use Rattle.saw_context.specs.Outcome.{Processors}
use Rattle.saw_receipts.specs.Telling.{tell_batches, tell_block}
use Rattle.saw_report.specs.declared.run_fault.RunFault.{RunFault}
use Rattle.saw_top.specs.Answers.{Prepared}
use Rattle.saw_top.specs.Stream.{stream_of}

-- whether all blocks of a stream do
abbrev pub tell_stream : Processors → List ℕ → Bool
tell_stream processors bytes = list_all (tell_block processors) (stream_of bytes).frames

-- Each transaction of the stream and of the batches that wait does. Where words or files have a fault nothing is read.
abbrev pub IsTold : Processors → Result Prepared RunFault → List ℕ → Type 0
IsTold processors (Ok made) bytes = (tell_stream processors bytes ≡ true) × (tell_batches processors made.waiting.batches ≡ true)
IsTold processors (Err fault) bytes = Unit {0}
