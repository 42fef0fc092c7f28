-- What no other precedes sees no change.
use Rattle.std.proofs.Common.{◌≡◌, ◌-◌, ◌==◌, ℕ, zero, suc, Bool, true, false, List, [], Option, None, refl, sym, ap, ◌∙◌, arith, true≢false, if◌then◌else◌}
use Rattle.std.specs.List.{list_any}
use Rattle.saw_context.specs.declared.view.ViewEntry.{ViewEntry}
use Rattle.saw_machine.specs.Machine.{Slots, view_below, view_of}
use Rattle.saw_machine.specs.Orders.{AreEdgesOf, Order, stands}
use Rattle.saw_machine.proofs.Closure.{stands-back}
use Rattle.saw_machine.proofs.Edges.{stands-same}
use Rattle.saw_ready.specs.Edges.{begin, finish}
use Rattle.saw_ready.specs.declared.edges.Edges.{Edges}
use Rattle.saw_schedule.specs.LookedUp.{IsFirst}
use Rattle.saw_schedule.specs.Shows.{is_edge, targets_of}

-- it has no edge
no-edge : (preds : Edges) (j k : ℕ) → IsFirst preds k → is_edge preds j k ≡ false
no-edge preds j k first = ap (λ (targets : List ℕ). list_any (λ target. target == j) targets) none
  where
    same : finish preds k - begin preds k ≡ 0
    same = grind (arith, first)

    none : targets_of preds k ≡ []
    none = rw same refl

module _ (order : Order) (preds : Edges) (edges : AreEdgesOf order.precedes (is_edge preds)) (slots : Slots) (k : ℕ) (first : IsFirst preds k) (at : List ℕ) where
  stands-on-none : (j : ℕ) → stands order.precedes k j ≡ false
  stands-on-none j = go (stands order.precedes k j) refl
    where
      go : (b : Bool) → stands order.precedes k j ≡ b → b ≡ false
      go false e = refl
      go true e =
          let step = stands-back (is_edge preds) k j (stands-same order.precedes (is_edge preds) edges k j ∙ e) in
          absurd (true≢false (sym step.edge ∙ no-edge preds step.by k first))

  below-none : (n : ℕ) → view_below order slots k n at ≡ None
  below-none zero = refl
  below-none (suc n) = rw (stands-on-none n) (below-none n)

  pub view-none : view_of order slots k at ≡ None
  view-none = go (order.reads k at)
    where
      nowhere : Option ViewEntry
      nowhere = None

      go : (b : Bool) → (if b then view_below order slots k k at else None) ≡ None
      go true = below-none k
      go false = refl
