-- The reply to a request that was not carried out.
use Rattle.std.specs.Prelude.{Result, Ok, Err}
use Rattle.std.specs.Prelude.{alloc_error}
use Rattle.std.specs.declared.alloc.AllocError.{AllocError}
use Rattle.saw_messages.specs.declared.talk.Reply.{Reply}
use Rattle.saw_messages.specs.declared.talk.Reply.TheVariants as replies
use Rattle.saw_context.specs.declared.fault.AccessFault.{AccessFault}
use Rattle.saw_context.specs.declared.fault.AccessFault.TheVariants.{Unauthorized, OutOfMemory}

abbrev pub unauthorized : AccessFault → Result Reply AllocError
unauthorized (Unauthorized index) = Ok (replies.Unauthorized index)
unauthorized OutOfMemory = Err alloc_error
