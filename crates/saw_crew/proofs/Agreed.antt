-- A result that agrees with its job has no difference from the machine's task.
use Rattle.std.proofs.Common.{◌≡◌, ℕ, true, List, [], ◌∷◌, Option, Some, None, slice_get, refl, sym, ◌∙◌}
use Rattle.std.proofs.lemmas.Bool.{eq-eqb}
use Rattle.std.specs.Arc.{arc_value}
use Rattle.std.specs.FinMap as finite
use Rattle.std.specs.List.{AllByRecursion}
use Rattle.saw_messages.proofs.SameTxs.{bytes-self}
use Rattle.saw_messages.specs.TxEquality.{header_eq, texts_eq, tx_eq}
use Rattle.saw_messages.specs.TxShapes.{TxShape}
use Rattle.saw_messages.specs.declared.transaction.TransactionHeader.{TransactionHeader}
use Rattle.saw_context.specs.SoundResults.{Agrees, IsSeen, IsSeenAs, fits_dependency}
use Rattle.saw_context.specs.Views.{Layers, layers_of}
use Rattle.saw_context.specs.declared.job.Done.{Done}
use Rattle.saw_context.specs.declared.job.Job.{Job}
use Rattle.saw_context.specs.declared.reads.Origin.{Origin}
use Rattle.saw_context.specs.declared.reads.Origin.TheVariants.{Own, Layer, Base}
use Rattle.saw_context.specs.declared.reads.Read.{Read}
use Rattle.saw_context.specs.declared.view.ViewEntry.{ViewEntry}
use Rattle.saw_machine.specs.Machine.{State, Task, View, task_in}
use Rattle.saw_schedule.specs.Agreement.{difference_from, first_unseen, is_seen, is_seen_as}
use Rattle.saw_schedule.specs.Histories.{difference_in}

-- ---- a transaction is the same as itself

texts-self : (texts : List (List ℕ)) → texts_eq texts texts ≡ true
texts-self [] = refl
texts-self (text ∷ texts) = rw (bytes-self text, texts-self texts) refl

header-self : (h : TransactionHeader) → header_eq h h ≡ true
header-self h =
    rw (
      bytes-self h.batcher_public_key,
      texts-self h.dependencies,
      bytes-self h.family_name,
      bytes-self h.family_version,
      texts-self h.inputs,
      bytes-self h.nonce,
      texts-self h.outputs,
      bytes-self h.payload_sha512,
      bytes-self h.signer_public_key,
    ) refl

tx-self : (tx : TxShape) → tx_eq tx tx ≡ true
unfolding tx_eq
tx-self tx = rw (bytes-self tx.id, header-self tx.header, bytes-self tx.header_bytes, bytes-self tx.payload) refl

-- ---- what is read

seen-as : (entry : Option ViewEntry) (layers : Layers) (address body : List ℕ) (from : Origin) → finite.get layers address ≡ entry
    → IsSeenAs layers address body from → is_seen_as entry from body ≡ true
seen-as entry layers address body Own same is = refl
seen-as entry layers address body (Layer index) same (value, there, told) =
    rw (sym same ∙ there, eq-eqb index index refl, told) (bytes-self body)
seen-as entry layers address body Base same is = rw (sym same ∙ is) refl

module _ (layers : Layers) (view : View) (same : (at : List ℕ) → finite.get layers at ≡ view at) where
  one-seen : (read : Read) → IsSeen layers read → is_seen view read ≡ true
  one-seen read is = seen-as (view read.address) layers read.address read.body read.from (same read.address) is

  all-seen : (reads : List Read) → AllByRecursion (IsSeen layers) reads → first_unseen view reads ≡ None
  all-seen [] are = refl
  all-seen (read ∷ reads) are = rw (one-seen read are.0) (all-seen reads are.1)

-- ---- the whole

from-job : (task : Task) (job : Job) (done : Done) → ((at : List ℕ) → finite.get (layers_of (arc_value job.view)) at ≡ task.view at)
    → job.dependency_failed ≡ task.failed → Agrees job done → difference_from (arc_value job.tx) task done ≡ None
from-job task job done same failed agrees =
    let fits : fits_dependency task.failed done.outcome ≡ true = rw (← failed) agrees.dependency in
    rw (agrees.tx, tx-self (arc_value job.tx), fits) (all-seen (layers_of (arc_value job.view)) task.view same done.reads agrees.seen)

pub no-difference : (txs : List TxShape) (st : State) (task : Task) (job : Job) (done : Done)
    → slice_get txs done.ticket.index ≡ Some (arc_value job.tx) → task_in (st.slots done.ticket.index) ≡ Some task
    → ((at : List ℕ) → finite.get (layers_of (arc_value job.view)) at ≡ task.view at) → job.dependency_failed ≡ task.failed
    → Agrees job done → difference_in txs st done ≡ None
no-difference txs st task job done there has same failed agrees = rw (there, has) (from-job task job done same failed agrees)
