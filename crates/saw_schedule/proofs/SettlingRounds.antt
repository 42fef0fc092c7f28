-- One round of settling over what a schedule keeps.
use Rattle.std.proofs.Common.{◌≡◌, ◌<◌, ◌≤◌, ◌+◌, ◌-◌, ℕ, zero, suc, Bool, true, false, if◌then◌else◌, nat_lt, List, [], ◌∷◌, ◌++◌, length, drop, get_or, Option, Some, None, slice_get, vec_capacity, vec_len, refl, sym, ap, subst, ◌∙◌, arith, ◌⊎◌, inl, inr, true≢false}
use Rattle.std.proofs.lemmas.List.{get_or-drop}
use Rattle.std.proofs.lemmas.Option.{slice_get_read}
use Rattle.saw_messages.specs.declared.outcome.Outcome.TheVariants.{Ok, Invalid}
use Rattle.saw_messages.specs.declared.outcome.Reason.{Reason}
use Rattle.saw_context.specs.declared.batch_result.BatchResult.{BatchResult}
use Rattle.saw_context.specs.declared.batch_result.BatchResult.TheVariants as results
use Rattle.saw_machine.specs.Machine.{Closed, Held, Running, Slot, State, Task, Waiting, front, holds_invalid, holds_ok, own_start, task_in}
use Rattle.saw_machine.specs.Orders.{Order}
use Rattle.saw_machine.proofs.Fates.{fate-before, fate-task_in}
use Rattle.saw_machine.proofs.Inductions.{settled}
use Rattle.saw_machine.proofs.Onwards.{closed-after, open-from}
use Rattle.saw_machine.proofs.Rounds.{AreOk, front-broken, front-open, front-whole, own_start-next, settle-goes, settle-stays}
use Rattle.saw_ready.specs.Fronts.{AreValid, IsFrontOf}
use Rattle.saw_ready.specs.Marks.{is_invalid, is_valid}
use Rattle.saw_ready.specs.Queues.{with_first}
use Rattle.saw_ready.specs.Resets.{IsFailed, failed_mark}
use Rattle.saw_ready.specs.Sets.{IsEmpty}
use Rattle.saw_ready.specs.declared.front.Front.TheVariants.{Broken, Open, Whole}
use Rattle.saw_ready.specs.declared.slot_state.SlotState.{SlotState}
use Rattle.saw_ready.specs.declared.slot_state.SlotState.TheVariants as marks
use Rattle.saw_schedule.specs.Inside.{AreSlotsOf, IsKeptAt, IsResultAt, one_if_running}
use Rattle.saw_schedule.specs.Layout.{ends_of}
use Rattle.saw_schedule.specs.Settling.{GoesOnFrom, HaveState, IsOpen, settled as settled_all}
use Rattle.saw_schedule.specs.Shows.{mark_of}
use Rattle.saw_schedule.specs.declared.kept.Kept.{Kept}
use Rattle.saw_schedule.specs.declared.slots.Slots.{Slots}
use Rattle.saw_schedule.specs.declared.step.Step.{Step}
use Rattle.saw_schedule.specs.declared.verdict.Verdict.TheVariants as verdicts
use Rattle.saw_schedule.proofs.Counting.{count-less}
use Rattle.saw_schedule.proofs.Marking.{marked-invalid, marked-valid}
use Rattle.saw_schedule.proofs.Settlings.{applied-shows, count-next, failed-shows}
use Rattle.saw_schedule.proofs.Verdicts.{coming, front-holds, left-of, length-ends, verdicts-push}

le-or-lt : (a b : ℕ) → (a ≤ b) ⊎ (b < a)
le-or-lt a b = grind arith

reset : (hit : Bool) (m : SlotState) → one_if_running (failed_mark hit m) ≤ one_if_running m
reset true m = omega arith
reset false m = omega arith

module _ (order : Order) (sizes : List ℕ) (st : State) (steps : List Step) (slots : Slots) (open_ : IsOpen st) (are : AreSlotsOf order sizes st steps slots) where
  -- all batches are settled
  pub none-left : length slots.ends.items ≤ length slots.verdicts.items → settled_all order st ≡ st
  none-left over = go st.rest refl
    where
      left : length slots.verdicts.items + length st.rest ≡ length sizes
      left = left-of st 0 sizes st.results slots.verdicts.items are.verdicts

      all : length slots.ends.items ≡ length sizes
      all = ap (λ (ends : List ℕ). length ends) are.ends ∙ length-ends 0 sizes

      go : (rest : List ℕ) → st.rest ≡ rest → settled_all order st ≡ st
      go [] e = rw e refl
      go (size ∷ rest) e = let more : length st.rest ≡ suc (length rest) = rw e refl in absurd (omega (arith, left, all, over, more))

  -- or a next one ends where the code says
  pub record Next : Type 0 where
    pub size : ℕ
    pub rest : List ℕ
    pub is : st.rest ≡ size ∷ rest
    pub end : get_or slots.ends.items (length slots.verdicts.items) 0 ≡ slots.queue.first + size
    pub inside : slots.queue.first + size ≤ length slots.queue.marks

  pub next-batch : length slots.verdicts.items < length slots.ends.items → Next
  next-batch more = go st.rest refl
    where
      left : length slots.verdicts.items + length st.rest ≡ length sizes
      left = left-of st 0 sizes st.results slots.verdicts.items are.verdicts

      all : length slots.ends.items ≡ length sizes
      all = ap (λ (ends : List ℕ). length ends) are.ends ∙ length-ends 0 sizes

      come : drop (length slots.verdicts.items) slots.ends.items ≡ ends_of st.first st.rest
      come = ap (drop (length slots.verdicts.items)) are.ends ∙ coming st 0 sizes st.results slots.verdicts.items are.verdicts

      go : (rest : List ℕ) → st.rest ≡ rest → Next
      go [] e = let none : length st.rest ≡ 0 = rw e refl in absurd (omega (arith, left, all, more, none))
      go (size ∷ rest) e =
          let here : length slots.verdicts.items + 0 ≡ length slots.verdicts.items = omega arith in
          let at : get_or slots.ends.items (length slots.verdicts.items) 0 ≡ st.first + size
          = ap (λ place. get_or slots.ends.items place 0) (sym here) ∙ (sym (get_or-drop (length slots.verdicts.items) slots.ends.items 0 0) ∙ (ap (λ (ends : List ℕ). get_or ends 0 0) come ∙ rw e refl)) in
          record {
            size = size;
            rest = rest;
            is = e;
            end = at ∙ ap (λ first. first + size) (sym are.shows.first);
            inside = rw are.shows.first (let count = count-next order st slots.queue size rest e are.shows in omega (arith, count));
          }

  module _ (n : Next) where
    abbrev size : ℕ
    size = n.size

    pub slot-marked : (j : ℕ) → j < size → get_or slots.queue.marks (slots.queue.first + j) marks.Waiting ≡ mark_of (st.slots (st.first + j))
    slot-marked j less =
        let bound = n.inside in
        are.shows.marks (slots.queue.first + j) (omega (arith, bound, less)) ∙ ap (λ first. mark_of (st.slots (first + j))) are.shows.first

    ok-to : (t : ℕ) → t ≤ size → AreValid slots.queue.marks slots.queue.first t → AreOk st.slots st.first (st.first + t)
    ok-to t few valid j low high =
        let k : ℕ = j - st.first in
        let here : st.first + (j - st.first) ≡ j = omega (arith, low) in
        let less : j - st.first < t = omega (arith, low, high) in
        let ok : holds_ok (st.slots (st.first + (j - st.first))) ≡ true = sym (marked-valid (st.slots (st.first + k))) ∙ (sym (ap is_valid (slot-marked k (omega (arith, less, few)))) ∙ valid k less) in
        ap (λ place. holds_ok (st.slots place)) (sym here) ∙ ok

    -- the first batch has no result yet
    pub open-stays : IsFrontOf slots.queue.marks slots.queue.first size Open → settled_all order st ≡ st
    open-stays (t, less, valid, isnt, also) =
        settle-stays order st size n.rest n.is
        (front-open st.slots st.first size t less (ok-to t (omega (arith, less)) valid)
        (sym (marked-valid (st.slots (st.first + t))) ∙ (sym (ap is_valid (slot-marked t less)) ∙ isnt))
        (sym (marked-invalid (st.slots (st.first + t))) ∙ (sym (ap is_invalid (slot-marked t less)) ∙ also)))

    -- it is applied
    pub whole-goes : (new : Slots) → IsFrontOf slots.queue.marks slots.queue.first size Whole
        → new.queue ≡ with_first slots.queue (slots.queue.first + size) → new.ends ≡ slots.ends → new.hits ≡ slots.hits → new.kept ≡ slots.kept
        → new.verdicts.items ≡ slots.verdicts.items ++ verdicts.Applied ∷ [] → vec_capacity slots.verdicts ≤ vec_capacity new.verdicts → new.running ≡ slots.running
        → GoesOnFrom order sizes st steps new
    whole-goes new valid queue ends hits kept more capacity running =
        let found = front-whole st.slots st.first size (ok-to size (omega arith) valid) in
        let next : State = settled order st.slots st.attempts st.results st.first size n.rest (results.Applied found.0) in
        let queue_is : new.queue ≡ with_first slots.queue (st.first + size) = queue ∙ ap (λ first. with_first slots.queue (first + size)) are.shows.first in
        record {
          next = next;
          same = settle-goes order st size n.rest n.is (results.Applied found.0) found.1;
          open_ = λ j closed. let less : j < st.first = open_ j closed in omega (arith, less);
          are = record {
            shows = rw queue_is (applied-shows order st slots.queue size n.rest n.is are.shows found.0);
            ends = rw ends are.ends;
            hits_long = rw (hits, queue_is) are.hits_long;
            idle = rw hits are.idle;
            kept_long = rw (kept, queue_is) are.kept_long;
            kept = λ i one e. let k = are.kept i one (rw kept at e) in record { attempts = k.attempts; running = k.running; held = k.held };
            verdicts = rw more (verdicts-push st next 0 sizes st.results slots.verdicts.items size n.rest (results.Applied found.0) verdicts.Applied n.is refl refl (λ j less. refl)
                (let holds = front-holds st st.first size found.0 found.1 in (refl, holds.0, holds.1)) are.verdicts);
            room = let so = are.room in omega (arith, so, capacity);
            counted = rw (queue_is, running) are.counted;
            few = rw queue_is are.few;
          };
        }

    -- it is failed
    module _ (t : ℕ) (task : Task) (reason : Reason) (t_less : t < size) (valid : AreValid slots.queue.marks slots.queue.first t)
        (held : st.slots (st.first + t) ≡ Held task (Invalid reason)) where
      abbrev result : BatchResult
      result = results.Failed t reason

      found : front st.slots st.first size ≡ Some result
      found = front-broken st.slots st.first size t task reason t_less (ok-to t (omega (arith, t_less)) valid) held

      abbrev next : State
      next = settled order st.slots st.attempts st.results st.first size n.rest result

      kept-same : (i : ℕ) (one : Kept) → IsKeptAt st steps i one → IsKeptAt next steps i one
      kept-same i one k = record {
        attempts = k.attempts;
        running = λ m job e. let f = fate-task_in order st.first size t reason st.slots i job (ap task_in e) in k.running m job (sym f.2 ∙ e);
        held = λ job outcome e. let f = fate-task_in order st.first size t reason st.slots i job (ap task_in e) in k.held job outcome (sym f.2 ∙ e);
      }

      pub broken-goes : (new : Slots) → new.queue.preds ≡ slots.queue.preds → new.queue.starts ≡ slots.queue.starts → new.queue.first ≡ slots.queue.first + size
          → IsFailed slots.queue.preds slots.queue.first (slots.queue.first + size) slots.queue.marks new.queue.marks
          → new.ends ≡ slots.ends → length new.hits ≡ length slots.hits → IsEmpty new.hits → new.kept ≡ slots.kept
          → new.verdicts.items ≡ slots.verdicts.items ++ verdicts.Failed t reason ∷ [] → vec_capacity slots.verdicts ≤ vec_capacity new.verdicts → new.running ≡ slots.running
          → GoesOnFrom order sizes st steps new
      broken-goes new preds starts first failed ends hits idle kept more capacity running =
          let failed_is : IsFailed slots.queue.preds st.first (st.first + size) slots.queue.marks new.queue.marks
          = subst (λ (k : ℕ). IsFailed slots.queue.preds k (k + size) slots.queue.marks new.queue.marks) are.shows.first failed in
          let first_is : new.queue.first ≡ st.first + size = first ∙ ap (λ k. k + size) are.shows.first in
          let shows = failed-shows order st slots.queue size n.rest n.is are.shows new.queue t reason (open-from st.slots st.first open_) preds starts first_is failed_is in
          record {
            next = next;
            same = settle-goes order st size n.rest n.is result found;
            open_ = closed-after order st.slots st.first size result open_;
            are = record {
              shows = shows;
              ends = rw ends are.ends;
              hits_long = hits ∙ (are.hits_long ∙ sym failed.long);
              idle = idle;
              kept_long = rw kept (are.kept_long ∙ sym failed.long);
              kept = λ i one e. kept-same i one (are.kept i one (rw kept at e));
              verdicts = rw more (verdicts-push st next 0 sizes st.results slots.verdicts.items size n.rest result (verdicts.Failed t reason) n.is refl refl
                  (fate-before order st.first size t reason st.slots) refl are.verdicts);
              room = let so = are.room in omega (arith, so, capacity);
              counted = rw running (let fewer = count-less new.queue.marks slots.queue.marks failed.long fewer-at in let so = are.counted in omega (arith, fewer, so));
              few = rw failed.long are.few;
            };
          }
        where
          fewer-at : (i : ℕ) → i < length new.queue.marks → one_if_running (get_or new.queue.marks i marks.Waiting) ≤ one_if_running (get_or slots.queue.marks i marks.Waiting)
          fewer-at i less = elim (le-or-lt slots.queue.first i) [
            | inr early ↦ rw (failed.before i early) (omega arith)
            | inl late ↦ elim (le-or-lt (slots.queue.first + size) i) [
              | inr member ↦ rw (failed.members i late member) (omega arith)
              | inl after ↦ rw (failed.after i after) (reset (get_or failed.hits i false) (get_or slots.queue.marks i marks.Waiting))
            ]
          ]

-- ---- what the code asks

module _ (order : Order) (sizes : List ℕ) (st : State) (steps : List Step) (slots : Slots) (open_ : IsOpen st) (are : AreSlotsOf order sizes st steps slots)
    (more : length slots.verdicts.items < length slots.ends.items) (end : ℕ) (at : end ≡ get_or slots.ends.items (length slots.verdicts.items) end) where
  abbrev n : Next order sizes st steps slots open_ are
  n = next-batch order sizes st steps slots open_ are more

  pub end-is : end ≡ slots.queue.first + n.size
  end-is = at ∙ (default-same slots.ends.items (length slots.verdicts.items) end more ∙ n.end)
    where
      default-same : (xs : List ℕ) (i d : ℕ) → i < length xs → get_or xs i d ≡ get_or xs i 0
      default-same [] i d less = absurd (omega arith)
      default-same (x ∷ xs) zero d less = refl
      default-same (x ∷ xs) (suc i) d less = default-same xs i d (omega arith)

  pub low : slots.queue.first ≤ end
  low = let e = end-is in omega (arith, e)

  pub high : end ≤ length slots.queue.marks
  high = let e = end-is in let b = n.inside in omega (arith, e, b)

  pub ends-late : end < length slots.queue.marks → end ≤ get_or slots.queue.starts end 0
  ends-late inside =
      let e : end ≡ st.first + n.size = end-is ∙ ap (λ first. first + n.size) are.shows.first in
      let starts : get_or slots.queue.starts end 0 ≡ own_start st.first (n.size ∷ n.rest) end
      = subst (λ (rest : List ℕ). get_or slots.queue.starts end 0 ≡ own_start st.first rest end) n.is (are.shows.starts end (omega (arith, e)) inside) in
      let late : st.first + n.size ≤ own_start (st.first + n.size) n.rest end = own-late (st.first + n.size) n.rest end in
      rw (starts, own_start-next st.first n.size n.rest end (omega (arith, e))) (omega (arith, late, e))
    where
      own-late : (k : ℕ) (all : List ℕ) (i : ℕ) → k ≤ own_start k all i
      own-late k [] i = omega arith
      own-late k (size ∷ all) i = go (nat_lt i (k + size)) (own-late (k + size) all i)
        where
          go : (b : Bool) → k + size ≤ own_start (k + size) all i → k ≤ (if b then k else own_start (k + size) all i)
          go true l = omega arith
          go false l = omega (arith, l)

  module _ (f : ℕ) (f_is : f ≡ slots.queue.first) where
    pub size-is : end - f ≡ n.size
    size-is = let e = end-is in omega (arith, e, f_is)

    pub open-code : IsFrontOf slots.queue.marks slots.queue.first (end - f) Open → settled_all order st ≡ st
    open-code front = open-stays order sizes st steps slots open_ are n (subst (λ (size : ℕ). IsFrontOf slots.queue.marks slots.queue.first size Open) size-is front)

    pub valid-code : IsFrontOf slots.queue.marks slots.queue.first (end - f) Whole → (j : ℕ) → slots.queue.first ≤ j → j < end → is_valid (get_or slots.queue.marks j marks.Waiting) ≡ true
    valid-code valid j from less =
        let here : slots.queue.first + (j - slots.queue.first) ≡ j = omega (arith, from) in
        ap (λ place. is_valid (get_or slots.queue.marks place marks.Waiting)) (sym here) ∙ valid (j - slots.queue.first) (omega (arith, from, less, f_is))

    pub whole-code : (new : Slots) → IsFrontOf slots.queue.marks slots.queue.first (end - f) Whole
        → new.queue ≡ with_first slots.queue end → new.ends ≡ slots.ends → new.hits ≡ slots.hits → new.kept ≡ slots.kept
        → new.verdicts.items ≡ slots.verdicts.items ++ verdicts.Applied ∷ [] → vec_capacity slots.verdicts ≤ vec_capacity new.verdicts → new.running ≡ slots.running
        → GoesOnFrom order sizes st steps new
    whole-code new front queue ends hits kept grown capacity running =
        whole-goes order sizes st steps slots open_ are n new (subst (λ (size : ℕ). IsFrontOf slots.queue.marks slots.queue.first size Whole) size-is front)
        (queue ∙ ap (with_first slots.queue) end-is) ends hits kept grown capacity running

    -- the member that breaks the batch
    module _ (t : ℕ) (front : IsFrontOf slots.queue.marks slots.queue.first (end - f) (Broken t)) where
      pub t-less : t < n.size
      t-less = let e = size-is in let l = front.0 in omega (arith, e, l)

      pub broken-held : (task : Task) × (reason : Reason) × (st.slots (st.first + t) ≡ Held task (Invalid reason))
      broken-held = by-mark (st.slots (st.first + t)) (sym (marked-invalid (st.slots (st.first + t))) ∙ (sym (ap is_invalid (slot-marked order sizes st steps slots open_ are n t t-less)) ∙ front.2))
        where
          by-mark : (slot : Slot) → holds_invalid slot ≡ true → (task : Task) × (reason : Reason) × (slot ≡ Held task (Invalid reason))
          by-mark Waiting e = absurd (true≢false (sym e))
          by-mark (Running m task) e = absurd (true≢false (sym e))
          by-mark (Held task (Ok changes events)) e = absurd (true≢false (sym e))
          by-mark (Held task (Invalid reason)) e = (task, reason, refl)
          by-mark Closed e = absurd (true≢false (sym e))

      pub kept-stands : (one : Kept) → one ≡ get_or slots.kept.items (f + t) one → slice_get slots.kept.items (slots.queue.first + t) ≡ Some one
      kept-stands one is =
          let long = are.kept_long in
          let bound = n.inside in
          let here : f + t ≡ slots.queue.first + t = ap (λ first. first + t) f_is in
          slice_get_read slots.kept.items (length slots.kept.items) (slots.queue.first + t) one refl (omega (arith, long, bound, t-less)) (is ∙ ap (λ place. get_or slots.kept.items place one) here)

      -- its reason stands where its result does
      pub reason-at : (one : Kept) → slice_get slots.kept.items (slots.queue.first + t) ≡ Some one → IsResultAt steps one.place (st.first + t) (Invalid broken-held.1)
      reason-at one stands =
          (are.kept (st.first + t) one (ap (λ first. slice_get slots.kept.items (first + t)) (sym are.shows.first) ∙ stands)).held broken-held.0 (Invalid broken-held.1) broken-held.2

      pub broken-code : (new : Slots) → new.queue.preds ≡ slots.queue.preds → new.queue.starts ≡ slots.queue.starts → new.queue.first ≡ end
          → IsFailed slots.queue.preds slots.queue.first end slots.queue.marks new.queue.marks
          → new.ends ≡ slots.ends → length new.hits ≡ length slots.hits → IsEmpty new.hits → new.kept ≡ slots.kept
          → new.verdicts.items ≡ slots.verdicts.items ++ verdicts.Failed t broken-held.1 ∷ [] → vec_capacity slots.verdicts ≤ vec_capacity new.verdicts → new.running ≡ slots.running
          → GoesOnFrom order sizes st steps new
      broken-code new preds starts first failed ends hits idle kept grown capacity running =
          broken-goes order sizes st steps slots open_ are n t broken-held.0 broken-held.1 t-less front.1 broken-held.2 new preds starts (first ∙ end-is)
          (subst (λ (k : ℕ). IsFailed slots.queue.preds slots.queue.first k slots.queue.marks new.queue.marks) end-is failed) ends hits idle kept grown capacity running

pub fewer : (slots : Slots) (some all : ℕ) → some ≡ vec_len slots.verdicts → all ≡ vec_len slots.ends → some < all → length slots.verdicts.items < length slots.ends.items
fewer slots some all p q less = rw (← slots.verdicts.ok.0, ← slots.ends.ok.0, ← p, ← q) less

pub no-fewer : (slots : Slots) (some all : ℕ) → some ≡ vec_len slots.verdicts → all ≡ vec_len slots.ends → all ≤ some → length slots.ends.items ≤ length slots.verdicts.items
no-fewer slots some all p q less = rw (← slots.verdicts.ok.0, ← slots.ends.ok.0, ← p, ← q) less

pub at-place : (slots : Slots) (place end : ℕ) → place ≡ vec_len slots.verdicts → end ≡ get_or slots.ends.items place end
    → end ≡ get_or slots.ends.items (length slots.verdicts.items) end
at-place slots place end p at = at ∙ ap (λ n. get_or slots.ends.items n end) (p ∙ slots.verdicts.ok.0)

pub room-for : (steps : List Step) (slots : Slots) (have : HaveState steps slots) → length slots.verdicts.items < length slots.ends.items
    → vec_len slots.verdicts < vec_capacity slots.verdicts
room-for steps slots have more =
    let so = have.are.room in
    let all : length slots.ends.items ≡ length have.sizes = ap (λ (ends : List ℕ). length ends) have.are.ends ∙ length-ends 0 have.sizes in
    let long : vec_len slots.verdicts ≡ length slots.verdicts.items = slots.verdicts.ok.0 in
    omega (arith, so, all, more, long)

-- what goes on is of some state
pub some-state : {order : Order} {sizes : List ℕ} {st : State} (steps : List Step) (slots : Slots) → GoesOnFrom order sizes st steps slots → HaveState steps slots
some-state {order} {sizes} {st} steps slots on = record { order = order; sizes = sizes; state = on.next; open_ = on.open_; are = on.are }

pub none≢some : (reason : Reason) → None ≡ Some reason → ⊥
none≢some reason e = grind arith

some_or : Reason → Option Reason → Reason
some_or d None = d
some_or d (Some reason) = reason

pub some-inj : {a b : Reason} → Some a ≡ Some b → a ≡ b
unfolding some_or
some-inj {a} e = ap (some_or a) e
