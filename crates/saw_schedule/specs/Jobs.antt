-- The job of a transaction that is taken, as the code makes it.
use Rattle.std.specs.Prelude.{◌≡◌, ℕ, List, Some, None, get_or, slice_get, if◌then◌else◌}
use Rattle.std.specs.Arc.{arc_value}
use Rattle.std.specs.FinMap as finite
use Rattle.std.specs.Global.{Global}
use Rattle.std.specs.List.{list_any}
use Rattle.std.specs.declared.sync.Arc.{Arc}
use Rattle.saw_messages.specs.declared.tx.Tx.{Tx}
use Rattle.saw_context.specs.Conversation.{are_covering}
use Rattle.saw_context.specs.Views.{layers_of}
use Rattle.saw_context.specs.declared.job.Job.{Job}
use Rattle.saw_context.specs.declared.view.View.{View}
use Rattle.saw_machine.specs.Machine.{View as Shown}
use Rattle.saw_ready.specs.declared.edges.Edges.{Edges}
use Rattle.saw_ready.specs.declared.slot_state.SlotState.TheVariants.{Waiting}
use Rattle.saw_schedule.specs.Shows.{is_closed_mark, targets_of}
use Rattle.saw_schedule.specs.declared.kept.Kept.{Kept}
use Rattle.saw_schedule.specs.declared.slots.Slots.{Slots}

-- its view is what is shown at the addresses that its inputs cover; the other view is the same
pub record IsJobAt (txs : List (Arc Tx Global)) (named : Edges) (slots : Slots) (shown : Shown) (k : ℕ) (job : Job) (view : Arc View Global) : Type 0 where
  pub number : job.ticket.index ≡ k
  pub attempt : (one : Kept) → slice_get slots.kept.items k ≡ Some one → job.ticket.attempt ≡ one.attempts
  pub tx : (tx : Arc Tx Global) → slice_get txs k ≡ Some tx → arc_value job.tx ≡ arc_value tx
  pub seen : (tx : Arc Tx Global) → slice_get txs k ≡ Some tx → (at : List ℕ) → finite.get (layers_of (arc_value job.view)) at
      ≡ (if are_covering (arc_value tx).header.inputs at then shown at else None)
  pub failed : job.dependency_failed ≡ list_any (λ j. is_closed_mark (get_or slots.queue.marks j Waiting)) (targets_of named k)
  pub same : arc_value view ≡ arc_value job.view
