-- What the queue calls free to take is what the machine calls ready, and it goes on to show the machine's state.
use Rattle.std.proofs.Common.{◌≡◌, ◌≢◌, ◌<◌, ◌≤◌, ℕ, Bool, true, ◌||◌, nat_lt, length, get_or, refl, sym, ap, ◌∙◌, arith, ◌⊎◌, inl, inr, get_or-set_same, get_or-set_other, length-set}
use Rattle.saw_machine.specs.Laws.{IsLawful}
use Rattle.saw_machine.specs.Machine.{IsReady, IsReadyBy, Slot, State, put}
use Rattle.saw_machine.specs.Orders.{Order}
use Rattle.saw_machine.proofs.Edges.{edges-decide}
use Rattle.saw_machine.proofs.Puts.{put-other, put-same}
use Rattle.saw_ready.specs.Edges.{target}
use Rattle.saw_ready.specs.Marks.{is_met, is_invalid, is_valid, is_waiting}
use Rattle.saw_ready.specs.Queues.{MayTake, Waits, with_mark}
use Rattle.saw_ready.specs.declared.slot_state.SlotState.TheVariants as marks
use Rattle.saw_schedule.specs.Shows.{ShowsMachine, is_edge, mark_of}
use Rattle.saw_schedule.proofs.Marking.{at-edge, edge-at, marked-invalid, marked-valid, marked-waiting}
use Rattle.saw_schedule.proofs.Meetings.{or-right}

le-or-lt : (a b : ℕ) → (a ≤ b) ⊎ (b < a)
le-or-lt a b = grind arith

not-below : (a b : ℕ) (v : Bool) → b ≤ a → (nat_lt a b || v) ≡ true → v ≡ true
not-below a b v le e = grind arith

below : (a b : ℕ) (v : Bool) → a < b → (nat_lt a b || v) ≡ true
below a b v lt = grind arith

-- ---- what may be taken

module _ (order : Order) (st : State) (q : Waits) (i : ℕ) (shows : ShowsMachine order st q) where
  by-edges : MayTake q i → IsReadyBy (is_edge q.preds) st i
  by-edges may =
      let inside = may.inside in
      record {
        waiting = marked-waiting (st.slots i) (sym (ap is_waiting (shows.marks i inside)) ∙ may.waiting);
        unsettled = rw (← shows.first) may.unsettled;
        inside = rw (← shows.count) inside;
        preds = λ j l h e.
            let at = at-edge q.preds i (shows.within i inside) j e in
            let met : is_met q.marks q.first j ≡ true = rw at.2 at (may.met at.0 at.1) in
            let lt : j < length q.marks = omega (arith, h, inside) in
            let le : q.first ≤ j = rw shows.first l in
            sym (marked-valid (st.slots j)) ∙ (sym (ap is_valid (shows.marks j lt)) ∙ not-below j q.first (is_valid (get_or q.marks j marks.Waiting)) le met);
        mates = λ j l h.
            let lt : j < length q.marks = omega (arith, h, inside) in
            sym (marked-invalid (st.slots j)) ∙ (sym (ap is_invalid (shows.marks j lt)) ∙ may.mates j (rw (shows.starts i (rw (← shows.first) may.unsettled) inside) l) h);
      }

  from-edges : IsReadyBy (is_edge q.preds) st i → MayTake q i
  from-edges ready =
      let inside : i < length q.marks = rw shows.count ready.inside in
      record {
        unsettled = rw shows.first ready.unsettled;
        inside = inside;
        waiting = ap is_waiting (shows.marks i inside) ∙ ap (λ (s : Slot). is_waiting (mark_of s)) ready.waiting;
        met = λ p at. go (target q.preds p) (shows.earlier i p inside at) (edge-at q.preds i (shows.within i inside) p at) inside (le-or-lt q.first (target q.preds p));
        mates = λ j l h.
            let lt : j < length q.marks = omega (arith, h, inside) in
            ap is_invalid (shows.marks j lt) ∙ (marked-invalid (st.slots j) ∙ ready.mates j (rw (shows.starts i ready.unsettled inside) at l) h);
      }
    where
      go : (j : ℕ) → j < i → is_edge q.preds j i ≡ true → i < length q.marks → (q.first ≤ j) ⊎ (j < q.first) → is_met q.marks q.first j ≡ true
      go j h e inside (inr s) = below j q.first (is_valid (get_or q.marks j marks.Waiting)) s
      go j h e inside (inl l) =
          or-right (nat_lt j q.first) (is_valid (get_or q.marks j marks.Waiting))
          (ap is_valid (shows.marks j (omega (arith, h, inside))) ∙ (marked-valid (st.slots j) ∙ ready.preds j (rw (← shows.first) l) h e))

  -- what the queue may take is ready, and the other way round
  pub taken-ready : IsLawful order st → MayTake q i → IsReady order st i
  taken-ready kept may = (edges-decide order (is_edge q.preds) st i shows.edges kept).0 (by-edges may)

  pub ready-taken : IsLawful order st → IsReady order st i → MayTake q i
  ready-taken kept ready = from-edges ((edges-decide order (is_edge q.preds) st i shows.edges kept).1 ready)

-- ---- a slot is changed

pub slot-shows : (order : Order) (st : State) (attempts : ℕ → ℕ) (q : Waits) (i : ℕ) (slot : Slot) → i < length q.marks → ShowsMachine order st q
    → ShowsMachine order (record st { slots = put st.slots i slot; attempts = attempts }) (with_mark q i (mark_of slot))
slot-shows order st attempts q i slot inside shows = record {
  first = shows.first;
  count = length-set q.marks i (mark_of slot) ∙ shows.count;
  marks = λ j lt. elim (same-or j i) [
    | inl e ↦ rw (e, get_or-set_same q.marks i (mark_of slot) marks.Waiting inside, put-same st.slots i slot) refl
    | inr n ↦
        get_or-set_other q.marks i j (mark_of slot) marks.Waiting n
        ∙ (shows.marks j (rw (length-set q.marks i (mark_of slot)) at lt) ∙ sym (ap mark_of (put-other st.slots i slot j n)))
  ];
  within = λ j lt. shows.within j (rw (length-set q.marks i (mark_of slot)) at lt);
  earlier = λ j p lt at. shows.earlier j p (rw (length-set q.marks i (mark_of slot)) at lt) at;
  edges = shows.edges;
  starts = λ j l lt. shows.starts j l (rw (length-set q.marks i (mark_of slot)) at lt);
}
  where
    same-or : (a b : ℕ) → (a ≡ b) ⊎ (a ≢ b)
    same-or a b = grind arith
