-- Whether a result agrees with the task that it is of, and where it does not.
use Rattle.std.specs.Prelude.{ℕ, Bool, true, false, ◌&&◌, ◌==◌, List, [], ◌∷◌, Option, Some, None, if◌then◌else◌}
use Rattle.std.specs.Arc.{arc_value}
use Rattle.std.specs.Str.{bytes_eq}
use Rattle.saw_messages.specs.TxShapes.{TxShape}
use Rattle.saw_messages.specs.TxEquality.{tx_eq}
use Rattle.saw_context.specs.Conversation.{body_of}
use Rattle.saw_context.specs.SoundResults.{fits_dependency}
use Rattle.saw_context.specs.declared.job.Done.{Done}
use Rattle.saw_context.specs.declared.reads.Origin.{Origin}
use Rattle.saw_context.specs.declared.reads.Origin.TheVariants.{Own, Layer, Base}
use Rattle.saw_context.specs.declared.reads.Read.{Read}
use Rattle.saw_context.specs.declared.view.ViewEntry.{ViewEntry}
use Rattle.saw_machine.specs.Machine.{Task, View}
use Rattle.saw_schedule.specs.declared.ended.Difference.{Difference}
use Rattle.saw_schedule.specs.declared.ended.Difference.TheVariants as differences

-- what is read is what the view's entry says, or the base exactly where there is none
abbrev pub is_seen_as : Option ViewEntry → Origin → List ℕ → Bool
is_seen_as entry Own body = true
is_seen_as None (Layer index) body = false
is_seen_as (Some entry) (Layer index) body = entry.index == index && bytes_eq (body_of entry.value) body
is_seen_as None Base body = true
is_seen_as (Some entry) Base body = false

abbrev pub is_seen : View → Read → Bool
is_seen view read = is_seen_as (view read.address) read.from read.body

-- the address of the first read that is not what the view gives
abbrev pub first_unseen : View → List Read → Option Difference
first_unseen view [] = None
first_unseen view (read ∷ reads) = if is_seen view read then first_unseen view reads else Some (differences.Read read.address)

-- the first difference between a result and the task of this transaction
abbrev pub difference_from : TxShape → Task → Done → Option Difference
difference_from tx task done =
    if tx_eq (arc_value done.tx) tx && fits_dependency task.failed done.outcome then first_unseen task.view done.reads
    else Some differences.Transaction

abbrev pub difference_by : Option TxShape → Option Task → Done → Option Difference
difference_by None task done = Some differences.Transaction
difference_by (Some tx) None done = Some differences.Transaction
difference_by (Some tx) (Some task) done = difference_from tx task done
