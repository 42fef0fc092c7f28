-- Fewer edges, of which all pairs follow, say as much.
use Rattle.std.proofs.Common.{◌≡◌, ℕ, zero, suc, ◌+◌, ◌<◌, ◌≤◌, Bool, true, false, ◌&&◌, nat_le, inl, inr, refl, sym, ap, arith}
use Rattle.saw_machine.specs.Orders.{AreEdgesOf, Order, stands}
use Rattle.saw_machine.specs.Serial.{within}
use Rattle.saw_machine.specs.Machine.{ArePredsOk, State, holds_ok}
use Rattle.saw_machine.specs.Laws.{EdgesDecide, EdgesHit, IsLawful}
use Rattle.saw_machine.proofs.Closure.{Through, any-same, stands-after, stands-back, stands-direct, stands-through, stands-trans}
use Rattle.saw_machine.proofs.Puts.{ok-task}

-- ---- who is ready

-- down the edges, what is unsettled holds Ok
ok-below : (order : Order) (edges : ℕ → ℕ → Bool) (st : State) → AreEdgesOf order.precedes edges → IsLawful order st
    → (n i j : ℕ) → i < n → ArePredsOk edges st.slots st.first i → st.first ≤ j → stands edges i j ≡ true → holds_ok (st.slots j) ≡ true
ok-below order edges st are kept zero i j less preds from on = absurd (omega arith)
ok-below order edges st are kept (suc n) i j less preds from on =
    let step : Through edges i j = stands-back edges i j on in
    elim step.rest [
      | inl here ↦ rw (← here) (preds step.by (rw here from) step.less step.edge)
      | inr below ↦
          let lower = stands-after edges step.by j below in
          let has = ok-task (st.slots step.by) (preds step.by (omega arith) step.less step.edge) in
          let before = (kept.tasks step.by has.0 (omega arith) has.1).preds in
          ok-below order edges st are kept n step.by j (omega arith)
          (λ k unsettled under edge. before k unsettled under (are.pairs k step.by under edge)) from below
    ]

pub edges-decide : EdgesDecide
edges-decide order edges st i are kept = (
  λ ready. record {
    waiting = ready.waiting;
    unsettled = ready.unsettled;
    inside = ready.inside;
    preds = λ j from less edge. ok-below order edges st are kept (suc i) i j (omega arith) ready.preds from (are.whole j i less edge);
    mates = ready.mates;
  },
  λ ready. record {
    waiting = ready.waiting;
    unsettled = ready.unsettled;
    inside = ready.inside;
    preds = λ j from less edge. ready.preds j from less (are.pairs j i less edge);
    mates = ready.mates;
  },
)

-- ---- what stands on what

module _ (precedes edges : ℕ → ℕ → Bool) (are : AreEdgesOf precedes edges) where
  stands-more : (n i j : ℕ) → i < n → stands edges i j ≡ true → stands precedes i j ≡ true
  stands-more zero i j less on = absurd (omega arith)
  stands-more (suc n) i j less on =
      let step : Through edges i j = stands-back edges i j on in
      let edge = are.pairs step.by i step.less step.edge in
      elim step.rest [
        | inl here ↦ rw (← here) (stands-direct precedes step.by i step.less edge)
        | inr below ↦ stands-through precedes step.by i j step.less edge (stands-more n step.by j (omega arith) below)
      ]

  stands-less : (n i j : ℕ) → i < n → stands precedes i j ≡ true → stands edges i j ≡ true
  stands-less zero i j less on = absurd (omega arith)
  stands-less (suc n) i j less on =
      let step : Through precedes i j = stands-back precedes i j on in
      let first = are.whole step.by i step.less step.edge in
      elim step.rest [
        | inl here ↦ rw (← here) first
        | inr below ↦ stands-trans edges i step.by j first (stands-less n step.by j (omega arith) below)
      ]

  -- the closures are one
  pub stands-same : (i j : ℕ) → stands edges i j ≡ stands precedes i j
  stands-same i j = same_if (stands edges i j) (stands precedes i j) (stands-more (suc i) i j (omega arith)) (stands-less (suc i) i j (omega arith))
    where
      same_if : (a b : Bool) → (a ≡ true → b ≡ true) → (b ≡ true → a ≡ true) → a ≡ b
      same_if true b f g = sym (f refl)
      same_if false true f g = g refl
      same_if false false f g = refl

pub edges-hit : EdgesHit
edges-hit precedes edges n size i are =
    ap (λ some. nat_le (n + size) i && some)
    (any-same (n + size) (λ k. within n size k && stands edges i k) (λ k. within n size k && stands precedes i k)
    (λ k less. rw (stands-same precedes edges are i k) refl))
