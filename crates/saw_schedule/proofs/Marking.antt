-- What a mark says of a slot, and an edge of its places.
use Rattle.std.proofs.Common.{◌≡◌, ◌<◌, ◌≤◌, ◌+◌, ◌-◌, ℕ, zero, suc, Bool, true, false, ◌||◌, ◌==◌, List, [], ◌∷◌, length, get_or, refl, sym, ap, ◌∙◌, arith, true≢false, eqb-true}
use Rattle.std.specs.List.{list_any}
use Rattle.std.proofs.lemmas.List.Edits.{get_or-between, length-between}
use Rattle.saw_messages.specs.declared.outcome.Outcome.TheVariants.{Ok, Invalid}
use Rattle.saw_machine.specs.Machine.{Slot, Waiting, Running, Held, Closed, again, holds_invalid, holds_ok, is_closed}
use Rattle.saw_ready.specs.Edges.{IsAt, begin, finish, target}
use Rattle.saw_ready.specs.Marks.{is_invalid, is_valid, is_waiting}
use Rattle.saw_ready.specs.declared.edges.Edges.{Edges}
use Rattle.saw_ready.specs.declared.slot_state.SlotState.TheVariants as marks
use Rattle.saw_schedule.specs.Shows.{is_edge, mark_of, targets_of}

pub marked-waiting : (slot : Slot) → is_waiting (mark_of slot) ≡ true → slot ≡ Waiting
marked-waiting Waiting e = refl
marked-waiting (Running n task) e = absurd (true≢false (sym e))
marked-waiting (Held task (Ok changes events)) e = absurd (true≢false (sym e))
marked-waiting (Held task (Invalid reason)) e = absurd (true≢false (sym e))
marked-waiting Closed e = absurd (true≢false (sym e))

pub marked-valid : (slot : Slot) → is_valid (mark_of slot) ≡ holds_ok slot
marked-valid Waiting = refl
marked-valid (Running n task) = refl
marked-valid (Held task (Ok changes events)) = refl
marked-valid (Held task (Invalid reason)) = refl
marked-valid Closed = refl

pub marked-invalid : (slot : Slot) → is_invalid (mark_of slot) ≡ holds_invalid slot
marked-invalid Waiting = refl
marked-invalid (Running n task) = refl
marked-invalid (Held task (Ok changes events)) = refl
marked-invalid (Held task (Invalid reason)) = refl
marked-invalid Closed = refl

pub again-marked : (slot : Slot) → is_closed slot ≡ false → mark_of (again slot) ≡ marks.Waiting
again-marked Waiting e = refl
again-marked (Running n task) e = refl
again-marked (Held task outcome) e = refl
again-marked Closed e = absurd (true≢false e)

-- ---- edges

any-at : (xs : List ℕ) (n j : ℕ) → n < length xs → get_or xs n 0 ≡ j → list_any (λ x. x == j) xs ≡ true
any-at [] n j less e = absurd (omega arith)
any-at (x ∷ xs) zero j less e = let same : (x == j) ≡ true = grind arith in rw same refl
any-at (x ∷ xs) (suc n) j less e = go (x == j) (any-at xs n j (omega arith) e)
  where
    go : (b : Bool) → list_any (λ y. y == j) xs ≡ true → (b || list_any (λ y. y == j) xs) ≡ true
    go true more = refl
    go false more = more

at-any : (xs : List ℕ) (j : ℕ) → list_any (λ x. x == j) xs ≡ true → (n : ℕ) × (n < length xs) × (get_or xs n 0 ≡ j)
at-any [] j e = absurd (true≢false (sym e))
at-any (x ∷ xs) j e = go (x == j) refl (at-any xs j)
  where
    go : (b : Bool) → (x == j) ≡ b → (list_any (λ y. y == j) xs ≡ true → (n : ℕ) × (n < length xs) × (get_or xs n 0 ≡ j)) → (n : ℕ) × (n < length (x ∷ xs)) × (get_or (x ∷ xs) n 0 ≡ j)
    go true is more = (0, omega arith, eqb-true x j is)
    go false is more = let found = more (rw is at e) in (suc found.0, let less : found.0 < length xs = found.1 in omega (arith, less), found.2)

module _ (edges : Edges) (k : ℕ) (within : finish edges k ≤ length edges.to.items) where
  -- what stands at a place is an edge
  pub edge-at : (p : ℕ) → IsAt edges k p → is_edge edges (target edges p) k ≡ true
  edge-at p at =
      let low : begin edges k ≤ p = at.0 in
      let high : p < finish edges k = at.1 in
      let n : ℕ = p - begin edges k in
      let long : length (targets_of edges k) ≡ finish edges k - begin edges k = length-between edges.to.items (begin edges k) (finish edges k) within in
      let here : begin edges k + (p - begin edges k) ≡ p = omega (arith, low) in
      any-at (targets_of edges k) n (target edges p) (rw long (omega (arith, low, high)))
      (get_or-between edges.to.items (begin edges k) (finish edges k) n 0 (omega (arith, low, high)) ∙ ap (λ place. get_or edges.to.items place 0) here)

  -- and an edge has a place
  pub at-edge : (j : ℕ) → is_edge edges j k ≡ true → (p : ℕ) × IsAt edges k p × (target edges p ≡ j)
  at-edge j e =
      let found = at-any (targets_of edges k) j e in
      let long : length (targets_of edges k) ≡ finish edges k - begin edges k = length-between edges.to.items (begin edges k) (finish edges k) within in
      let less : found.0 < finish edges k - begin edges k = rw long at found.1 in (
        begin edges k + found.0,
        (omega arith, omega (arith, less)),
        sym (get_or-between edges.to.items (begin edges k) (finish edges k) found.0 0 (omega (arith, less))) ∙ found.2,
      )
