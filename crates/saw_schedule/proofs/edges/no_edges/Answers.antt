use Rattle.std.proofs.Common.{◌<◌, ℕ, List, [], refl, sym, subst, inl, inr, arith, ◌⊎◌, ◌≤◌}
use Rattle.saw_ready.specs.declared.edges.Edges.{Edges}
use Rattle.saw_schedule.proofs.Rows.{AreRows, no-rows, row-pushed, rows-at, rows-earlier, rows-edges, rows-in, rows-past}
use Rattle.saw_schedule.proofs.edges.no_edges.Goals as goal

lt-or-le : (a b : ℕ) → (a < b) ⊎ (b ≤ a)
lt-or-le a b = grind arith

pub loop-init : goal.loop-init
loop-init c = subst (λ (from : List ℕ). AreRows from [] 0 (λ i. [])) (sym (c.in_ok-push.ensures.items)) (rw c.new-from.ensures.items (no-rows (λ i. [])))

pub loop-preserved : goal.loop-preserved
loop-preserved c = row-pushed c.loop.from.items [] c.loop.counter (λ i. []) c.loop.invariant [] refl c.push-in-loop.new.self.items 0 refl c.in_ok-push-2.ensures.items

abbrev made : goal.After-new → Edges
made c = record { from = c.loop.from; to = c.new.result }

rows : (c : goal.After-new) → AreRows (made c).from.items (made c).to.items c.args.count (λ i. [])
rows c = rows-at _ _ c.loop.counter c.args.count (λ i. []) c.loop.auto.counter-end c.loop-test.false (subst (λ (to : List ℕ). AreRows c.loop.from.items to c.loop.counter (λ i. [])) (sym c.new.ensures.items) c.loop.invariant)

pub returns-clause-edges : goal.returns-clause-edges
returns-clause-edges c = rows-edges (made c) c.args.count (λ i. []) (rows c) (λ i lt. tt)

pub returns-clause-earlier : goal.returns-clause-earlier
returns-clause-earlier c = rows-earlier (made c) c.args.count (λ i. []) (rows c) (λ i lt. tt)

pub returns-clause-none : goal.returns-clause-none
returns-clause-none c = λ i j. elim (lt-or-le i c.args.count) [
  | inl inside ↦ rows-in (made c) c.args.count (λ i. []) (rows c) i j inside
  | inr past ↦ rows-past (made c) c.args.count (λ i. []) (rows c) i j past
]
