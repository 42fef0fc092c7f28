-- One worker alone: each job ends accepted, and what is left falls.
use Rattle.std.proofs.Common.{◌≡◌, ℕ, ◌<◌, true, List, [], ◌∷◌, ◌++◌, Option, Some, None, is_none, slice_get, sum, refl, sym, ap, subst, ◌∙◌}
use Rattle.std.specs.Arc.{arc_value}
use Rattle.std.specs.FinMap as finite
use Rattle.std.specs.List.{AllByRecursion}
use Rattle.saw_address.specs.Maps.{StateMap}
use Rattle.saw_messages.specs.Reasons.{has_own_reason}
use Rattle.saw_messages.specs.TxShapes.{TxShape}
use Rattle.saw_messages.specs.declared.talk.Turn.{Turn}
use Rattle.saw_context.specs.Outcome.{Processors}
use Rattle.saw_context.specs.Possible.{MayComeOfAll}
use Rattle.saw_context.specs.SoundResults.{Agrees, IsOfBase, IsSoundDone}
use Rattle.saw_context.specs.declared.job.Done.{Done}
use Rattle.saw_context.specs.Views.{layers_of}
use Rattle.saw_context.specs.declared.job.Job.{Job}
use Rattle.saw_context.specs.declared.job.Ticket.{Ticket}
use Rattle.saw_machine.proofs.Left.{left-falls, left_of, start-quiet, turn-quiet, turned}
use Rattle.saw_machine.proofs.Puts.{put-same}
use Rattle.saw_machine.specs.Laws.{IsQuiet}
use Rattle.saw_machine.specs.Machine.{IsReady, Running, Runs, State, Task, next, task_of}
use Rattle.saw_machine.specs.Machine as machine
use Rattle.saw_machine.specs.Orders.{Order}
use Rattle.saw_plan.specs.BatchShapes.{txs_of}
use Rattle.saw_schedule.proofs.Reached.{history-spans, replay-with_step, state-with_step}
use Rattle.saw_schedule.proofs.Replays.{history-not-stuck}
use Rattle.saw_schedule.proofs.Serials.{steps-are-serial}
use Rattle.saw_schedule.specs.Histories.{Finishes, History, IsNoTake, IsReplay, IsTake, RunsIn, Takes, after_steps, difference_in, move_of, order_in, sizes_in, start_of, state_of, txs_in, with_step}
use Rattle.saw_schedule.specs.Laws.{AreTrueSteps, IsTrueStep}
use Rattle.saw_schedule.specs.Orders.{order_of}
use Rattle.saw_schedule.specs.declared.ended.Difference.{Difference}
use Rattle.saw_schedule.specs.declared.ended.Finished.{Finished}
use Rattle.saw_schedule.specs.declared.ended.Finished.TheVariants as ends
use Rattle.saw_schedule.specs.declared.step.Step.{Step}
use Rattle.saw_schedule.specs.declared.step.Step.TheVariants.{Take, Finish}
use Rattle.saw_crew.proofs.Agreed.{no-difference}
use Rattle.saw_crew.specs.Alone.{IsAlone}

-- what is left of a history
abbrev pub left_in : History → ℕ
left_in h = left_of (sum (sizes_in h)) (state_of h)

-- true steps go on with a true one
true-more : (processors : Processors) (m : StateMap) (txs : List TxShape) (st : State) (steps : List Step) (step : Step)
    → AreTrueSteps processors m txs st steps → IsTrueStep processors m txs (after_steps txs st steps) step
    → AreTrueSteps processors m txs st (steps ++ step ∷ [])
true-more processors m txs st [] step are here = (here, tt)
true-more processors m txs st (one ∷ steps) step are here =
    (are.0, true-more processors m txs (next (order_of txs) st (move_of txs st one)) steps step are.1 here)

-- before the first job
pub begin-alone : (processors : Processors) (m : StateMap) (h : History) → h.steps ≡ [] → IsAlone processors m (txs_of h.batches) h
begin-alone processors m h none = record {
  plan = refl;
  replay = rw none tt;
  true_steps = rw none tt;
  quiet = rw none (start-quiet (order_in h) (sizes_in h));
}

module _ (processors : Processors) (m : StateMap) (batches : List (List TxShape)) (h : History) (alone : IsAlone processors m batches h) where
  -- a job is taken and ended with its result
  module _ (taken : History) (job : Job) (take : IsTake h taken job) (done : Done) (ticket : done.ticket ≡ job.ticket) (agrees : Agrees job done)
      (sound : IsSoundDone processors done) (of_base : AllByRecursion (IsOfBase m) done.reads) where
    abbrev order : Order
    order = order_in h

    -- what is so of the ticket of the job
    record IsTaken (t : Ticket) : Type 0 where
      pub ready : IsReady order (state_of h) t.index
      pub attempt : t.attempt ≡ (state_of h).attempts t.index
      pub tx : slice_get (txs_in taken) t.index ≡ Some (arc_value job.tx)
      pub view : (at : List ℕ) → finite.get (layers_of (arc_value job.view)) at ≡ (task_of order (state_of h).slots t.index).view at
      pub failed : job.dependency_failed ≡ (task_of order (state_of h).slots t.index).failed
      pub state : state_of taken ≡ next order (state_of h) (machine.Take t.index)

    same-txs : txs_in taken ≡ txs_in h
    same-txs = ap txs_in take.step

    is-taken : IsTaken done.ticket
    is-taken = subst IsTaken (sym ticket) (record {
      ready = take.ready;
      attempt = take.attempt;
      tx = rw same-txs take.tx;
      view = take.view;
      failed = take.failed;
      state = ap state_of take.step ∙ state-with_step h (Take job.ticket);
    })

    replay-taken : IsReplay taken
    replay-taken = subst IsReplay (sym take.step) (replay-with_step h (Take job.ticket) alone.replay (take.ready, take.attempt))

    abbrev task : Task
    task = task_of order (state_of h).slots done.ticket.index

    slot : (state_of taken).slots done.ticket.index ≡ Running done.ticket.attempt task
    slot =
        ap (λ (st : State). st.slots done.ticket.index) is-taken.state
        ∙ (put-same (state_of h).slots done.ticket.index (Running ((state_of h).attempts done.ticket.index) task)
        ∙ ap (λ (n : ℕ). Running n task) (sym is-taken.attempt))

    runs : RunsIn (state_of taken) done.ticket
    runs = (task, slot)

    none : difference_in (txs_in taken) (state_of taken) done ≡ None
    none = no-difference (txs_in taken) (state_of taken) task job done is-taken.tx (rw slot refl) is-taken.view is-taken.failed agrees

    accepted : (new : History) (fin : Finished) → Finishes taken new done fin → new ≡ with_step taken (Finish done)
    accepted new ends.Accepted is = is.0
    accepted new ends.Stale is = absurd (is.1 runs)
    accepted new (ends.Foreign difference) is = absurd (apart (sym none ∙ is.2))
      where
        apart : None ≡ Some difference → ⊥
        apart e = cc

    module _ (new : History) (is : new ≡ with_step taken (Finish done)) where
      same-order : order_in taken ≡ order
      same-order = ap order_in take.step

      state-new : state_of new ≡ turned order (state_of h) done.ticket.index done.ticket.attempt done.outcome
      state-new =
          ap state_of is ∙ (state-with_step taken (Finish done)
          ∙ (ap (λ (d : Option Difference). next (order_in taken) (state_of taken) (machine.Finish done.ticket.index done.ticket.attempt done.outcome (is_none d))) none
          ∙ (ap (λ (o : Order). next o (state_of taken) (machine.Finish done.ticket.index done.ticket.attempt done.outcome true)) same-order
          ∙ ap (λ (st : State). next order st (machine.Finish done.ticket.index done.ticket.attempt done.outcome true)) is-taken.state)))

      true-taken : AreTrueSteps processors m (txs_in taken) (start_of taken) taken.steps
      true-taken = subst (λ (g : History). AreTrueSteps processors m (txs_in g) (start_of g) g.steps) (sym take.step)
          (true-more processors m (txs_in h) (start_of h) h.steps (Take job.ticket) alone.true_steps tt)

      alone-new : IsAlone processors m batches new
      alone-new = record {
        plan = ap (λ (g : History). txs_of g.batches) is ∙ (ap (λ (g : History). txs_of g.batches) take.step ∙ alone.plan);
        replay = subst IsReplay (sym is) (replay-with_step taken (Finish done) replay-taken runs);
        true_steps = subst (λ (g : History). AreTrueSteps processors m (txs_in g) (start_of g) g.steps) (sym is)
            (true-more processors m (txs_in taken) (start_of taken) taken.steps (Finish done) true-taken (λ e. (sound, of_base)));
        quiet = subst IsQuiet (sym state-new) (turn-quiet order (state_of h) done.ticket.index done.ticket.attempt done.outcome alone.quiet);
      }

      less : left_in new < left_in h
      less =
          let falls = left-falls order (state_of h) done.ticket.index done.ticket.attempt done.outcome (sum (sizes_in h)) (history-spans h alone.replay) is-taken.ready in
          let same : sizes_in new ≡ sizes_in h = ap sizes_in is ∙ ap sizes_in take.step in
          rw (state-new, same) falls

    pub turn : (new : History) (fin : Finished) → Finishes taken new done fin → IsAlone processors m batches new × (left_in new < left_in h)
    turn new fin finishes = let is = accepted new fin finishes in (alone-new new is, less new is)

  -- where nothing may be taken, all is settled
  pub all-settled : (new : History) → IsNoTake h new → (state_of new).rest ≡ []
  all-settled new take = ap (λ (g : History). (state_of g).rest) take.same ∙ go (state_of h).rest refl
    where
      go : (rest : List ℕ) → (state_of h).rest ≡ rest → rest ≡ []
      go [] e = refl
      go (size ∷ rest) e =
          let found = history-not-stuck h alone.replay alone.quiet (λ none. absurd (apart (sym e ∙ none))) in
          absurd (take.none found.0 found.1)
        where
          apart : size ∷ rest ≡ [] → ⊥
          apart e = cc

  -- and the results are those of the batches one after another
  pub results-come : ((tx : TxShape) (turns : List Turn) → has_own_reason (processors.next tx turns) ≡ true) → (state_of h).rest ≡ []
      → MayComeOfAll processors m batches (state_of h).results
  results-come own ends =
      subst (λ (all : List (List TxShape)). MayComeOfAll processors m all (state_of h).results) alone.plan
      (steps-are-serial processors m h own alone.replay alone.true_steps ends).results

  pub ended-serial : (new : History) → IsNoTake h new → ((tx : TxShape) (turns : List Turn) → has_own_reason (processors.next tx turns) ≡ true)
      → MayComeOfAll processors m batches (state_of new).results
  ended-serial new take own =
      subst (λ (g : History). MayComeOfAll processors m batches (state_of g).results) (sym take.same)
      (results-come own (ap (λ (g : History). (state_of g).rest) (sym take.same) ∙ all-settled new take))

-- what a take that gives no job says
pub no-take : (old new : History) (given : Option Job) → Takes old new given → ((job : Job) → given ≡ Some job → ⊥) → IsNoTake old new
no-take old new None takes never = takes
no-take old new (Some job) takes never = absurd (never job refl)
