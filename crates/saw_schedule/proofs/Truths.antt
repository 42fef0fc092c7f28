-- What may come of numbered transactions, and that accepted results that are true may come.
use Rattle.std.proofs.Common.{◌≡◌, ℕ, Bool, true, false, ◌==◌, if◌then◌else◌, List, [], ◌∷◌, map, Option, Some, None, is_none, slice_get, inl, inr}
use Rattle.std.proofs.Common.{refl, sym, ap, subst, ◌∙◌}
use Rattle.std.proofs.lemmas.Bool.{and_parts}
use Rattle.std.proofs.lemmas.Slice.Eq.{bytes_eq-Decides}
use Rattle.std.specs.Arc.{arc_value}
use Rattle.std.specs.List.{AllByRecursion}
use Rattle.std.specs.Prelude.{⊤}
use Rattle.saw_address.specs.Maps.{StateMap, value_at}
use Rattle.saw_messages.specs.Reasons.{has_own_reason}
use Rattle.saw_messages.specs.TxShapes.{TxShape}
use Rattle.saw_messages.specs.declared.outcome.Outcome.{Outcome}
use Rattle.saw_messages.specs.declared.outcome.Reason.{Reason}
use Rattle.saw_messages.specs.declared.talk.Turn.{Turn}
use Rattle.saw_context.proofs.Alike.{IsCovered, asked_covered, granted_parts}
use Rattle.saw_context.proofs.Each.{all_weaker}
use Rattle.saw_context.proofs.Sound.{sound_comes}
use Rattle.saw_context.specs.Conversation.{are_covering, body_of}
use Rattle.saw_context.specs.Outcome.{Processors, max_requests, no_talk, refusal}
use Rattle.saw_context.specs.Possible.{MayCome}
use Rattle.saw_context.specs.SoundResults.{IsOf, IsOfBase, IsSound, IsSoundBy, as_asked, is_own, recorded}
use Rattle.saw_context.specs.Views.{layered}
use Rattle.saw_context.specs.declared.job.Done.{Done}
use Rattle.saw_context.specs.declared.reads.Origin.{Origin}
use Rattle.saw_context.specs.declared.reads.Origin.TheVariants.{Own, Layer, Base}
use Rattle.saw_context.specs.declared.reads.Read.{Read}
use Rattle.saw_context.specs.declared.view.ViewEntry.{ViewEntry}
use Rattle.saw_machine.specs.Laws.{AreTrue, IsTrue}
use Rattle.saw_machine.specs.Machine.{Running, Runs, State, Task, View, next, over, task_in}
use Rattle.saw_machine.specs.Machine as machine
use Rattle.saw_machine.specs.Orders.{Map}
use Rattle.saw_machine.specs.Serial.{ReadsOnly}
use Rattle.saw_plan.specs.Precedence.{on_tx}
use Rattle.saw_schedule.proofs.Agreeing.{AgreesWith, IsAgreed, agreed}
use Rattle.saw_schedule.specs.Agreement.{first_unseen, is_seen, is_seen_as}
use Rattle.saw_schedule.specs.Histories.{difference_in, move_of, moves_of}
use Rattle.saw_schedule.specs.Laws.{AreTrueSteps, IsTrueStep}
use Rattle.saw_schedule.specs.Orders.{order_of}
use Rattle.saw_schedule.specs.declared.ended.Difference.{Difference}
use Rattle.saw_schedule.specs.declared.ended.Difference.TheVariants as differences
use Rattle.saw_schedule.specs.declared.step.Step.{Step}
use Rattle.saw_schedule.specs.declared.step.Step.TheVariants.{Take, Finish, GiveBack}

-- ---- what may come

-- states that have what a map gives where the transaction reads
abbrev pub HasRead : TxShape → Map → StateMap → Type 0
HasRead tx m n = (at : List ℕ) → are_covering tx.header.inputs at ≡ true → m at ≡ value_at n at

-- the outcome may come of the transaction over each state that has what the map gives where it reads
abbrev pub MayComeAt : Processors → Option TxShape → Map → Bool → Outcome → Type 0
MayComeAt processors None m failed outcome = ⊤
MayComeAt processors (Some tx) m failed outcome = (n : StateMap) → HasRead tx m n → MayCome processors tx n failed outcome

-- the same by the number of the transaction
abbrev pub May : Processors → List TxShape → ℕ → Map → Bool → Outcome → Type 0
May processors txs i m failed outcome = MayComeAt processors (slice_get txs i) m failed outcome

-- it depends on what the transaction may read alone
reads-only-at : (processors : Processors) (tx : Option TxShape) (m n : Map) (failed : Bool) (outcome : Outcome)
    → ((at : List ℕ) → on_tx tx (λ tx. are_covering tx.header.inputs at) ≡ true → m at ≡ n at)
    → MayComeAt processors tx m failed outcome → MayComeAt processors tx n failed outcome
reads-only-at processors None m n failed outcome same may = tt
reads-only-at processors (Some tx) m n failed outcome same may = λ k has. may k (λ at covered. same at covered ∙ has at covered)

-- it depends on what may be read alone
pub reads-only : (processors : Processors) (txs : List TxShape) → ReadsOnly (order_of txs) (May processors txs)
reads-only processors txs i m n failed outcome same may = reads-only-at processors (slice_get txs i) m n failed outcome same may

-- ---- recorded reads

-- what is true of each mapped element
all-unmap : {A B : Type 0} (f : A → B) (P : B → Type 0) (xs : List A) → AllByRecursion P (map f xs) → AllByRecursion (λ x. P (f x)) xs
all-unmap f P [] all = tt
all-unmap f P (x ∷ xs) all = (all.0, all-unmap f P xs all.1)

-- a read at an address that the inputs cover
abbrev IsInside : TxShape → Read → Type 0
IsInside tx read = are_covering tx.header.inputs read.address ≡ true

-- no reads are inside
none-inside : (tx : TxShape) (reads : List Read) → reads ≡ [] → AllByRecursion (IsInside tx) reads
none-inside tx reads e = rw e tt

-- reads of a true result, by whether a reason comes before any conversation
inside-by : (processors : Processors) (tx : TxShape) (reads : List Read) (outcome : Outcome) (reason : Option Reason)
    → IsSoundBy processors tx reads outcome reason → AllByRecursion (IsInside tx) reads
inside-by processors tx reads outcome (Some reason) sound = none-inside tx reads sound.no_reads
inside-by processors tx reads outcome None (inl refused) = none-inside tx reads refused.no_reads
inside-by processors tx reads outcome None (inr is) =
    all_weaker (λ read. IsCovered tx.header.inputs (as_asked read)) (IsInside tx)
    (λ read covered. (granted_parts tx.header.inputs read.address covered).1) reads
    (all-unmap as_asked (IsCovered tx.header.inputs) reads
    (subst (AllByRecursion (IsCovered tx.header.inputs)) (sym is.asked) (asked_covered is.next tx.header (recorded reads) max_requests no_talk tt)))

-- a true result has read what the inputs cover
sound-inside : (processors : Processors) (tx : TxShape) (reads : List Read) (outcome : Outcome)
    → IsSound processors tx reads outcome → AllByRecursion (IsInside tx) reads
sound-inside processors tx reads outcome sound = inside-by processors tx reads outcome (refusal processors tx) sound

-- a read that a view gives, and of the base what the base has, is what the base gives with the view on top
seen-is : (below : Option (List ℕ)) (entry : Option ViewEntry) (from : Origin) (body : List ℕ) → is_seen_as entry from body ≡ true
    → (from ≡ Base → body_of below ≡ body) → is_own from ≡ false → body_of (layered entry below) ≡ body
seen-is below entry Own body seen based own = absurd cc
seen-is below None (Layer index) body seen based own = absurd cc
seen-is below (Some entry) (Layer index) body seen based own =
    (bytes_eq-Decides (body_of entry.value) body).0 (and_parts (entry.index == index) _ seen).1
seen-is below None Base body seen based own = based refl
seen-is below (Some entry) Base body seen based own = absurd cc

-- where no read is unseen, each is seen
all-seen : (view : View) (reads : List Read) → first_unseen view reads ≡ None → AllByRecursion (λ read. is_seen view read ≡ true) reads
all-seen view [] e = tt
all-seen view (read ∷ reads) e = go (is_seen view read) refl e (λ e. all-seen view reads e)
  where
    go : (seen : Bool) → is_seen view read ≡ seen → (if seen then first_unseen view reads else Some (differences.Read read.address)) ≡ None
        → (first_unseen view reads ≡ None → AllByRecursion (λ read. is_seen view read ≡ true) reads)
        → AllByRecursion (λ read. is_seen view read ≡ true) (read ∷ reads)
    go true is e more = (is, more e)
    go false is e more = absurd cc

-- such reads are what each state has that has what is given where the transaction reads
reads-are : (tx : TxShape) (m n : StateMap) (view : View) (reads : List Read) → HasRead tx (over (value_at m) view) n
    → AllByRecursion (IsInside tx) reads → AllByRecursion (λ read. is_seen view read ≡ true) reads → AllByRecursion (IsOfBase m) reads
    → AllByRecursion (IsOf n) reads
reads-are tx m n view [] has inside seen based = tt
reads-are tx m n view (read ∷ reads) has inside seen based = (
  λ own.
      sym (ap body_of (has read.address inside.0))
      ∙ seen-is (value_at m read.address) (view read.address) read.from read.body seen.0 based.0 own,
  reads-are tx m n view reads has inside.1 seen.1 based.1,
)

-- ---- accepted results

module _ (processors : Processors) (m : StateMap) (own : (tx : TxShape) (turns : List Turn) → has_own_reason (processors.next tx turns) ≡ true) where
  -- a true result that agrees with a task may come over what the task shows
  agreed-comes : (tx : TxShape) (task : Task) (done : Done) → AgreesWith tx task done
      → IsSound processors (arc_value done.tx) done.reads done.outcome → AllByRecursion (IsOfBase m) done.reads
      → MayComeAt processors (Some tx) (over (value_at m) task.view) task.failed done.outcome
  agreed-comes tx task done agrees sound based =
      let is : IsSound processors tx done.reads done.outcome
      = subst (λ (tx : TxShape). IsSound processors tx done.reads done.outcome) agrees.same sound in
      λ n has.
      sound_comes processors tx done.reads done.outcome n task.failed (own tx) is agrees.fits
      (reads-are tx m n task.view done.reads has (sound-inside processors tx done.reads done.outcome is)
      (all-seen task.view done.reads agrees.seen) based)

  module _ (txs : List TxShape) where
    finish-true : (st : State) (done : Done) → IsTrueStep processors m txs st (Finish done)
        → IsTrue (May processors txs) (value_at m) st (move_of txs st (Finish done))
    finish-true st done is = go (difference_in txs st done) refl
      where
        accepted : difference_in txs st done ≡ None → (task : Task) → Runs st done.ticket.index done.ticket.attempt task
            → May processors txs done.ticket.index (over (value_at m) task.view) task.failed done.outcome
        accepted e task runs =
            let agreement : IsAgreed txs st done = agreed txs st done e in
            let has : Some task ≡ Some agreement.task = sym (ap task_in runs) ∙ agreement.has in
            let same : agreement.task ≡ task = cc in
            rw agreement.there
            (subst (λ (task : Task). MayComeAt processors (Some agreement.tx) (over (value_at m) task.view) task.failed done.outcome) same
            (agreed-comes agreement.tx agreement.task done agreement.agrees (is e).0 (is e).1))

        go : (found : Option Difference) → difference_in txs st done ≡ found
            → IsTrue (May processors txs) (value_at m) st (machine.Finish done.ticket.index done.ticket.attempt done.outcome (is_none found))
        go None e = accepted e
        go (Some difference) e = tt

    step-true : (st : State) (step : Step) → IsTrueStep processors m txs st step → IsTrue (May processors txs) (value_at m) st (move_of txs st step)
    step-true st (Take ticket) is = tt
    step-true st (Finish done) is = finish-true st done is
    step-true st (GiveBack ticket) is = tt

    -- steps whose accepted results are true are true moves
    pub steps-true : (st : State) (steps : List Step) → AreTrueSteps processors m txs st steps
        → AreTrue (May processors txs) (value_at m) (order_of txs) st (moves_of txs st steps)
    steps-true st [] are = tt
    steps-true st (step ∷ steps) are = (step-true st step are.0, steps-true (next (order_of txs) st (move_of txs st step)) steps are.1)
