-- A queue goes on to show the machine's state as a batch settles.
use Rattle.std.proofs.Common.{◌≡◌, ◌<◌, ◌≤◌, ◌+◌, ℕ, zero, suc, Bool, true, false, ◌&&◌, ◌||◌, nat_le, nat_lt, List, ◌∷◌, length, get_or, refl, sym, subst, ◌∙◌, arith, ◌⊎◌, inl, inr, sum}
use Rattle.std.proofs.lemmas.List.Sums.{sum_by-cons}
use Rattle.saw_messages.specs.declared.outcome.Reason.{Reason}
use Rattle.saw_context.specs.declared.batch_result.BatchResult.TheVariants.{Applied, Failed}
use Rattle.saw_messages.specs.declared.outcome.Outcome.{Outcome}
use Rattle.saw_machine.specs.Machine.{Slot, State, failed_slot, is_closed, is_hit, own_start}
use Rattle.saw_machine.specs.Orders.{Order}
use Rattle.saw_machine.specs.Serial.{within}
use Rattle.saw_machine.proofs.Closure.{any-found, any-here}
use Rattle.saw_machine.proofs.Edges.{edges-hit}
use Rattle.saw_machine.proofs.Hits.{hit-back, hit-forth, hit-late, is_source, within-before, within-is, within-no, within-yes}
use Rattle.saw_machine.proofs.Inductions.{settled}
use Rattle.saw_ready.specs.Edges.{target}
use Rattle.saw_ready.specs.Hits.{AreHits, IsIn, IsSource}
use Rattle.saw_ready.specs.Queues.{Waits, with_first}
use Rattle.saw_ready.specs.Resets.{IsFailed, failed_mark}
use Rattle.saw_ready.specs.declared.slot_state.SlotState.{SlotState}
use Rattle.saw_ready.specs.declared.slot_state.SlotState.TheVariants as marks
use Rattle.saw_schedule.specs.Shows.{ShowsMachine, is_edge, mark_of}
use Rattle.saw_schedule.proofs.Marking.{again-marked, at-edge, edge-at}
use Rattle.saw_schedule.proofs.Meetings.{and-left, and-right, or-left, or-right}

le-or-lt : (a b : ℕ) → (a ≤ b) ⊎ (b < a)
le-or-lt a b = grind arith

or-cases : (a b : Bool) → (a || b) ≡ true → (a ≡ true) ⊎ (b ≡ true)
or-cases true b e = inl refl
or-cases false b e = inr e

and-both : (a b : Bool) → a ≡ true → b ≡ true → (a && b) ≡ true
and-both a b e f = rw (e, f) refl

same-flags : (a b : Bool) → (a ≡ true → b ≡ true) → (b ≡ true → a ≡ true) → a ≡ b
same-flags true b f g = sym (f refl)
same-flags false true f g = g refl
same-flags false false f g = refl

-- ---- what stands on a failed batch

module _ (order : Order) (st : State) (q : Waits) (size : ℕ) (hits : List Bool) (shows : ShowsMachine order st q) (len : length hits ≡ length q.marks)
    (are : AreHits q.preds st.first (st.first + size) hits) where
  abbrev edges : ℕ → ℕ → Bool
  edges = is_edge q.preds

  to-hit : (b i : ℕ) → i < b → IsIn hits i → is_hit edges st.first size i ≡ true
  to-hit zero i lt h = absurd (omega arith)
  to-hit (suc b) i lt h =
      let late = are.late i h in
      let inside : i < length q.marks = rw len at late.1 in
      let c = are.cause i h in
      let less : target q.preds c.0 < i = shows.earlier i c.0 inside c.1 in
      hit-forth edges st.first size i late.0
      (any-here i (target q.preds c.0) (λ k. edges k i && is_source edges st.first size k) less
      (and-both (edges (target q.preds c.0) i) (is_source edges st.first size (target q.preds c.0)) (edge-at q.preds i (shows.within i inside) c.0 c.1)
      (go (target q.preds c.0) c.2 (λ h. to-hit b (target q.preds c.0) (under (target q.preds c.0) i b less lt) h))))
    where
      under : (t i b : ℕ) → t < i → i < suc b → t < b
      under t i b x y = omega arith

      go : (t : ℕ) → IsSource st.first (st.first + size) hits t → (IsIn hits t → is_hit edges st.first size t ≡ true) → is_source edges st.first size t ≡ true
      go t (inl s) ih = or-left (within st.first size t) (is_hit edges st.first size t) (within-yes st.first size t s.0 s.1)
      go t (inr s) ih = or-right (within st.first size t) (is_hit edges st.first size t) (ih s)

  from-hit : (b i : ℕ) → i < b → st.first + size ≤ i → i < length q.marks → is_hit edges st.first size i ≡ true → IsIn hits i
  from-hit zero i lt late inside e = absurd (omega arith)
  from-hit (suc b) i lt late inside e =
      let x = any-found i (λ k. edges k i && is_source edges st.first size k) (hit-back edges st.first size i e) in
      let k = x.0 in
      let less = x.1 in
      let is = and-right (edges k i) (is_source edges st.first size k) x.2 in
      let at = at-edge q.preds i (shows.within i inside) k (and-left (edges k i) (is_source edges st.first size k) x.2) in
      are.all i at.0 late (rw len inside) at.1
      (rw at.2 (go k (or-cases (within st.first size k) (is_hit edges st.first size k) is) (λ f. from-hit b k (under k i b less lt) (hit-late edges st.first size k f) (inner k i less inside) f)))
    where
      under : (t i b : ℕ) → t < i → i < suc b → t < b
      under t i b x y = omega arith

      inner : (k i : ℕ) → k < i → i < length q.marks → k < length q.marks
      inner k i x y = omega arith

      go : (k : ℕ) → (within st.first size k ≡ true) ⊎ (is_hit edges st.first size k ≡ true) → (is_hit edges st.first size k ≡ true → IsIn hits k) → IsSource st.first (st.first + size) hits k
      go k (inl f) ih = inl (within-is st.first size k f)
      go k (inr f) ih = inr (ih f)

  pub hits-same : (i : ℕ) → st.first + size ≤ i → i < length q.marks → get_or hits i false ≡ is_hit order.precedes st.first size i
  hits-same i late inside =
      same-flags (get_or hits i false) (is_hit edges st.first size i) (to-hit (suc i) i (omega arith)) (from-hit (suc i) i (omega arith) late inside)
      ∙ edges-hit order.precedes edges st.first size i shows.edges

-- ---- after the first batch

module _ (order : Order) (st : State) (q : Waits) (size : ℕ) (rest : List ℕ) (is : st.rest ≡ size ∷ rest) (shows : ShowsMachine order st q) where
  pub count-next : length q.marks ≡ st.first + size + sum rest
  count-next =
      let more : sum (size ∷ rest) ≡ size + sum rest = sum_by-cons (λ x. x) size rest in
      let a : length q.marks ≡ st.first + sum (size ∷ rest) = subst (λ (r : List ℕ). length q.marks ≡ st.first + sum r) is shows.count in
      omega (arith, a, more)

  starts-next : (i : ℕ) → st.first + size ≤ i → i < length q.marks → get_or q.starts i 0 ≡ own_start (st.first + size) rest i
  starts-next i l lt =
      let a : get_or q.starts i 0 ≡ own_start st.first (size ∷ rest) i = subst (λ (r : List ℕ). get_or q.starts i 0 ≡ own_start st.first r i) is (shows.starts i (omega (arith, l)) lt) in
      a ∙ (rw (not-lt i (st.first + size) l) refl)
    where
      not-lt : (i n : ℕ) → n ≤ i → nat_lt i n ≡ false
      not-lt i n l = grind arith

  -- the queue of the next state after an applied batch
  pub applied-shows : (outcomes : List Outcome) → ShowsMachine order (settled order st.slots st.attempts st.results st.first size rest (Applied outcomes)) (with_first q (st.first + size))
  applied-shows outcomes = record {
    first = refl;
    count = count-next;
    marks = shows.marks;
    within = shows.within;
    earlier = shows.earlier;
    edges = shows.edges;
    starts = starts-next;
  }

  -- and after a failed one
  pub failed-shows : (new : Waits) (t : ℕ) (reason : Reason) → ((j : ℕ) → st.first ≤ j → is_closed (st.slots j) ≡ false)
      → new.preds ≡ q.preds → new.starts ≡ q.starts → new.first ≡ st.first + size
      → IsFailed q.preds st.first (st.first + size) q.marks new.marks
      → ShowsMachine order (settled order st.slots st.attempts st.results st.first size rest (Failed t reason)) new
  failed-shows new t reason open_ preds starts first failed = record {
    first = first;
    count = failed.long ∙ count-next;
    marks = λ j lt. mark j (rw failed.long at lt) (le-or-lt st.first j) (le-or-lt (st.first + size) j);
    within = λ j lt. rw preds (shows.within j (rw failed.long at lt));
    earlier = λ j p lt. rw preds (shows.earlier j p (rw failed.long at lt));
    edges = rw preds shows.edges;
    starts = λ j l lt. rw starts (starts-next j l (rw failed.long at lt));
  }
    where
      hit-early : (j : ℕ) → j < st.first + size → is_hit order.precedes st.first size j ≡ false
      hit-early j lt = rw (not-le (st.first + size) j lt) refl
        where
          not-le : (a b : ℕ) → b < a → nat_le a b ≡ false
          not-le a b l = grind arith

      later : (s : Slot) (h : Bool) (m : SlotState) → m ≡ mark_of s → is_closed s ≡ false → failed_mark h m ≡ mark_of (failed_slot false h s)
      later s true m e c = sym (again-marked s c)
      later s false m e c = e

      mark : (j : ℕ) → j < length q.marks → (st.first ≤ j) ⊎ (j < st.first) → (st.first + size ≤ j) ⊎ (j < st.first + size)
          → get_or new.marks j marks.Waiting ≡ mark_of (failed_slot (within st.first size j) (is_hit order.precedes st.first size j) (st.slots j))
      mark j lt (inr a) b =
          rw (within-before st.first size j a, hit-early j (omega (arith, a))) (failed.before j a ∙ shows.marks j lt)
      mark j lt (inl a) (inr b) = rw (within-yes st.first size j a b) (failed.members j a b)
      mark j lt (inl a) (inl b) =
          let hit : get_or failed.hits j false ≡ is_hit order.precedes st.first size j = hits-same order st q size failed.hits shows failed.all_hit failed.are j b lt in
          rw (within-no st.first size j b) (failed.after j b ∙ (rw hit (later (st.slots j) (is_hit order.precedes st.first size j) (get_or q.marks j marks.Waiting) (shows.marks j lt) (open_ j a))))
