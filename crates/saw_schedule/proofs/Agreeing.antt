-- A result that agrees with the task of its transaction.
use Rattle.std.proofs.Common.{◌≡◌, ℕ, Bool, true, false, ◌&&◌, if◌then◌else◌, List, [], ◌∷◌, Option, Some, None, slice_get, refl, sym, ap, ◌∙◌, bytes_eq}
use Rattle.std.proofs.lemmas.Bool.{and_parts}
use Rattle.std.proofs.lemmas.Slice.Eq.{bytes_eq-Decides}
use Rattle.std.specs.Arc.{arc_value}
use Rattle.std.specs.List.{list_all}
use Rattle.std.specs.Option.{option_or}
use Rattle.saw_messages.proofs.SameTxs.{same-is}
use Rattle.saw_messages.specs.TxEquality.{tx_eq}
use Rattle.saw_messages.specs.TxShapes.{TxShape}
use Rattle.saw_messages.specs.declared.outcome.Change.{Change}
use Rattle.saw_messages.specs.declared.outcome.Outcome.{Outcome}
use Rattle.saw_messages.specs.declared.outcome.Outcome.TheVariants.{Ok, Invalid}
use Rattle.saw_context.specs.Conversation.{are_covering}
use Rattle.saw_context.specs.Coverage.{are_changes_covered}
use Rattle.saw_context.specs.SoundResults.{fits_dependency}
use Rattle.saw_context.specs.declared.job.Done.{Done}
use Rattle.saw_machine.specs.Machine.{State, Task, task_in}
use Rattle.saw_machine.specs.Orders.{IsDeclared, change_at, made_by}
use Rattle.saw_schedule.specs.Agreement.{difference_by, difference_from, first_unseen}
use Rattle.saw_schedule.specs.Histories.{difference_in}
use Rattle.saw_schedule.specs.Orders.{order_of}
use Rattle.saw_schedule.specs.declared.ended.Difference.TheVariants as differences

-- a result of this transaction that agrees with this task
pub record AgreesWith (tx : TxShape) (task : Task) (done : Done) : Type 0 where
  pub same : arc_value done.tx ≡ tx
  pub fits : fits_dependency task.failed done.outcome ≡ true
  pub seen : first_unseen task.view done.reads ≡ None

-- a result that agrees with the task that its slot keeps
pub record IsAgreed (txs : List TxShape) (st : State) (done : Done) : Type 0 where
  pub tx : TxShape
  pub task : Task
  pub there : slice_get txs done.ticket.index ≡ Some tx
  pub has : task_in (st.slots done.ticket.index) ≡ Some task
  pub agrees : AgreesWith tx task done

-- the same of a transaction and a task at hand
agrees-from : (tx : TxShape) (task : Task) (done : Done) → difference_from tx task done ≡ None → AgreesWith tx task done
agrees-from tx task done e = go (tx_eq (arc_value done.tx) tx) refl (fits_dependency task.failed done.outcome) refl e
  where
    go : (same : Bool) → tx_eq (arc_value done.tx) tx ≡ same → (fits : Bool) → fits_dependency task.failed done.outcome ≡ fits
        → (if same && fits then first_unseen task.view done.reads else Some differences.Transaction) ≡ None → AgreesWith tx task done
    go true is true fit e = record { same = same-is (arc_value done.tx) tx is; fits = fit; seen = e }
    go true is false fit e = absurd cc
    go false is fits fit e = absurd cc

-- a result without a difference agrees
pub agreed : (txs : List TxShape) (st : State) (done : Done) → difference_in txs st done ≡ None → IsAgreed txs st done
agreed txs st done e = go (slice_get txs done.ticket.index) refl (task_in (st.slots done.ticket.index)) refl e
  where
    go : (tx : Option TxShape) → slice_get txs done.ticket.index ≡ tx → (task : Option Task) → task_in (st.slots done.ticket.index) ≡ task
        → difference_by tx task done ≡ None → IsAgreed txs st done
    go None there task has e = absurd cc
    go (Some tx) there None has e = absurd cc
    go (Some tx) there (Some task) has e = record { tx = tx; task = task; there = there; has = has; agrees = agrees-from tx task done e }

-- ---- what it changes

-- where all changed addresses are covered, that of the last change is
change_at-covered : (texts : List (List ℕ)) (changes : List Change) (at : List ℕ) (value : Option (List ℕ))
    → list_all (λ change. are_covering texts change.address) changes ≡ true → change_at changes at ≡ Some value → are_covering texts at ≡ true
change_at-covered texts [] at value covered e = absurd cc
change_at-covered texts (change ∷ changes) at value covered e =
    go (change_at changes at) refl (bytes_eq change.address at) refl e
    (λ value e. change_at-covered texts changes at value (and_parts (are_covering texts change.address) _ covered).1 e)
  where
    go : (later : Option (Option (List ℕ))) → change_at changes at ≡ later → (same : Bool) → bytes_eq change.address at ≡ same
        → option_or later (if same then Some change.value else None) ≡ Some value
        → ((value : Option (List ℕ)) → change_at changes at ≡ Some value → are_covering texts at ≡ true) → are_covering texts at ≡ true
    go (Some found) there same is e more = more found there
    go None there true is e more =
        sym (ap (are_covering texts) ((bytes_eq-Decides change.address at).0 is)) ∙ (and_parts (are_covering texts change.address) _ covered).0
    go None there false is e more = absurd cc

-- so each address that a covered outcome changes is covered
made-covered : (texts : List (List ℕ)) (outcome : Outcome) (at : List ℕ) (value : Option (List ℕ)) → are_changes_covered texts outcome ≡ true
    → made_by outcome at ≡ Some value → are_covering texts at ≡ true
made-covered texts (Ok changes events) at value covered e = change_at-covered texts changes at value covered e
made-covered texts (Invalid reason) at value covered e = absurd cc

-- a result that agrees changes what its transaction declares
pub agreed-declared : (txs : List TxShape) (st : State) (done : Done) → difference_in txs st done ≡ None
    → IsDeclared (order_of txs) done.ticket.index done.outcome
agreed-declared txs st done e at value made =
    let is : IsAgreed txs st done = agreed txs st done e in
    let covered : are_changes_covered is.tx.header.outputs done.outcome ≡ true
    = sym (ap (λ (tx : TxShape). are_changes_covered tx.header.outputs done.outcome) is.agrees.same) ∙ done.covered in
    rw is.there (made-covered is.tx.header.outputs done.outcome at value covered made)
