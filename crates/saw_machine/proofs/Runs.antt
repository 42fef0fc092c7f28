-- Every list of legal moves that ends finished has the results of the serial order.
use Rattle.std.proofs.Common.{◌≡◌, ℕ, ◌+◌, Bool, true, false, List, [], ◌∷◌, ◌++◌, Some, inl, inr, refl, sym, ap, subst, ◌∙◌, arith, append_assoc, append-nil}
use Rattle.std.proofs.Math.Path.{fun_ext}
use Rattle.saw_messages.specs.declared.outcome.Outcome.{Outcome}
use Rattle.saw_context.specs.declared.batch_result.BatchResult.{BatchResult}
use Rattle.saw_context.specs.declared.batch_result.BatchResult.TheVariants.{Applied, Failed}
use Rattle.saw_machine.specs.Orders.{AreMeetings, Map, Order}
use Rattle.saw_machine.specs.Serial.{MayComeFrom, MayComeOfAll, ReadsOnly, end_map, map_after}
use Rattle.saw_machine.specs.Machine.{AreLegal, Finish, GiveBack, Held, IsLegal, Move, Slot, Slots, State, Take, Task, Waiting}
use Rattle.saw_machine.specs.Machine.{closed_in, front, look, made, next, over, put, run, settle, slots_after, start, task_in}
use Rattle.saw_machine.specs.Laws.{AreTrue, IsSerial, IsTrue, MovesAreSerial}
use Rattle.saw_machine.proofs.Comings.{AreTold, front-closed, front-comes, front-map}
use Rattle.saw_machine.proofs.Fates.{fate-task_in}
use Rattle.saw_machine.proofs.Inductions.{settle-all, settled, state}
use Rattle.saw_machine.proofs.Kept.{Keeps, MayPut, keep-put, put-closed}
use Rattle.saw_machine.proofs.Moves.{given, move-puts, mover}
use Rattle.saw_machine.proofs.Puts.{put-other, put-same, same_or}
use Rattle.saw_machine.proofs.Settling.{keep-front}
use Rattle.saw_machine.proofs.Views.{look-same}

end_map-more : (m : Map) (results : List BatchResult) (result : BatchResult) → end_map m (results ++ result ∷ []) ≡ map_after (end_map m results) result
end_map-more m [] result = refl
end_map-more m (one ∷ results) result = end_map-more (map_after m one) results result

-- what may come depends on the map and the failed ones alone
same-come : (order : Order) (May : ℕ → Map → Bool → Outcome → Type 0) (n : ℕ) (sizes : List ℕ) (results : List BatchResult)
    {m now : Map} {failed gone : ℕ → Bool} → m ≡ now → failed ≡ gone
    → MayComeFrom order May now gone n sizes results → MayComeFrom order May m failed n sizes results
same-come order May n sizes results same_map same_failed coming = rw (same_map, same_failed) coming

module _ (order : Order) (May : ℕ → Map → Bool → Outcome → Type 0) (base : Map) (sizes : List ℕ) where
  -- what has settled so far, with whatever may come of the rest, may come of the whole
  pub record Comes (st : State) : Type 0 where
    pub kept : Keeps order st.slots st.first
    pub told : AreTold order May base st.slots
    pub whole : (others : List BatchResult) → MayComeFrom order May (look base st.slots st.first) (closed_in st.slots) st.first st.rest others
        → MayComeOfAll order May base sizes (st.results ++ others)
    pub map : look base st.slots st.first ≡ end_map base st.results

  module _ (meetings : AreMeetings order) (reads : ReadsOnly order May) where
    -- ---- one batch settles

    told-after : (slots : Slots) (n size : ℕ) (result : BatchResult) → AreTold order May base slots
        → AreTold order May base (slots_after order n size result slots)
    told-after slots n size (Applied outcomes) told i task outcome held = told i task outcome held
    told-after slots n size (Failed t reason) told i task outcome held =
        let stays = fate-task_in order n size t reason slots i task (ap task_in held) in
        told i task outcome (sym stays.2 ∙ held)

    come-front : (slots : Slots) (attempts : ℕ → ℕ) (results : List BatchResult) (first size : ℕ) (rest : List ℕ) (result : BatchResult)
        → front slots first size ≡ Some result
        → Comes (state slots attempts results first (size ∷ rest)) → Comes (settled order slots attempts results first size rest result)
    come-front slots attempts results first size rest result e comes = record {
      kept = keep-front order slots first size result meetings e comes.kept;
      told = told-after slots first size result comes.told;
      whole = λ others coming.
          rw (append_assoc results (result ∷ []) others)
          (comes.whole (result ∷ others) (
            result,
            others,
            front-comes order May base slots first meetings reads comes.kept comes.told first size result (omega arith) e,
            same-come order May (first + size) rest others (front-map order base slots first size result e)
                (front-closed order slots first size result) coming,
            refl,
          ));
      map = sym (front-map order base slots first size result e) ∙ ap (λ m. map_after m result) comes.map ∙ sym (end_map-more base results result);
    }

    -- ---- one slot is put

    come-put : (st : State) (attempts : ℕ → ℕ) (i : ℕ) (slot : Slot) → MayPut order st.slots st.first i slot
        → ((task : Task) (outcome : Outcome) → slot ≡ Held task outcome → May i (over base task.view) task.failed outcome)
        → Comes st → Comes (state (put st.slots i slot) attempts st.results st.first st.rest)
    come-put st attempts i slot puts true_here comes = record {
      kept = keep-put order st.slots st.first i slot meetings puts comes.kept;
      told = λ j task outcome held. elim (same_or j i) [
        | inl here ↦ rw here (true_here task outcome (rw (here, put-same st.slots i slot) at held))
        | inr other ↦ comes.told j task outcome (rw (put-other st.slots i slot j other) at held)
      ];
      whole = λ others coming. comes.whole others (same-come order May st.first st.rest others same_map same_closed coming);
      map = sym same_map ∙ comes.map;
    }
      where
        same_map : look base st.slots st.first ≡ look base (put st.slots i slot) st.first
        same_map =
            let from = puts.unsettled in
            fun_ext (look-same base st.slots (put st.slots i slot) st.first
            (λ j at less. ap (λ slot. made slot at) (sym (put-other st.slots i slot j (λ here. omega arith)))))

        same_closed : closed_in st.slots ≡ closed_in (put st.slots i slot)
        same_closed = fun_ext (put-closed order st.slots st.first i slot puts)

    -- ---- one move

    given-true : (st : State) (move : Move) → IsLegal order st move → IsTrue May base st move
        → (task : Task) (outcome : Outcome) → given order st move ≡ Held task outcome → May (mover move) (over base task.view) task.failed outcome
    given-true st (Take i) legal is task outcome e = absurd cc
    given-true st (Finish i n found true) (task, runs, declared) is other outcome e =
        let held : Held task found ≡ Held other outcome = rw runs at e in
        let same_task : task ≡ other = cc in
        let same_outcome : found ≡ outcome = cc in
        subst (λ (x : Task). May i (over base x.view) x.failed outcome) same_task (subst (May i (over base task.view) task.failed) same_outcome (is task runs))
    given-true st (Finish i n found false) legal is task outcome e = absurd cc
    given-true st (GiveBack i n) legal is task outcome e = absurd cc

    come-settle : (slots : Slots) (attempts : ℕ → ℕ) (results : List BatchResult) (first : ℕ) (rest : List ℕ)
        → Comes (state slots attempts results first rest) → Comes (settle order slots attempts results first rest)
    come-settle slots attempts results first rest comes =
        settle-all order attempts Comes (λ slots results first size rest result e here. come-front slots attempts results first size rest result e here)
        slots results first rest comes

    come-move : (st : State) (move : Move) → Comes st → IsLegal order st move → IsTrue May base st move → Comes (next order st move)
    come-move st move comes legal is =
        go move
        (λ attempts.
        come-put st attempts (mover move) (given order st move) (move-puts order st move comes.kept legal) (given-true st move legal is) comes)
      where
        go : (move : Move) → ((attempts : ℕ → ℕ) → Comes (state (put st.slots (mover move) (given order st move)) attempts st.results st.first st.rest))
            → Comes (next order st move)
        go (Take i) put_one = put_one (next order st (Take i)).attempts
        go (Finish i n outcome true) put_one =
            come-settle (put st.slots i (given order st (Finish i n outcome true))) st.attempts st.results st.first st.rest (put_one st.attempts)
        go (Finish i n outcome false) put_one = put_one st.attempts
        go (GiveBack i n) put_one = put_one st.attempts

    -- ---- all moves

    come-run : (st : State) (moves : List Move) → Comes st → AreLegal order st moves → AreTrue May base order st moves → Comes (run order st moves)
    come-run st [] comes legal are = comes
    come-run st (move ∷ moves) comes legal are = come-run (next order st move) moves (come-move st move comes legal.0 are.0) legal.1 are.1

    come-start : Comes (start order sizes)
    come-start = come-settle (λ i. Waiting) (λ i. 0) [] 0 sizes (record {
      kept = record { tasks = λ i task from e. absurd cc; running = λ i n task e. absurd cc; declared = λ j at value e. absurd cc };
      told = λ i task outcome e. absurd cc;
      whole = λ others coming. coming;
      map = refl;
    })

  come-end : (st : State) → Comes st → st.rest ≡ [] → IsSerial order May base sizes st
  come-end st comes ends = record {
    results = rw append-nil at (comes.whole [] (rw ends refl));
    map = comes.map;
  }

pub moves-are-serial : MovesAreSerial
moves-are-serial order May base sizes moves meetings reads legal are ends =
    come-end order May base sizes (run order (start order sizes) moves)
    (come-run order May base sizes meetings reads (start order sizes) moves (come-start order May base sizes meetings reads) legal are) ends
