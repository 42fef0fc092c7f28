-- Whether a dependency stands in a failed batch, by the numbers that a transaction names.
use Rattle.std.proofs.Common.{◌≡◌, ◌<◌, ◌≤◌, ℕ, Bool, true, false, ◌&&◌, ◌==◌, List, [], ◌∷◌, length, refl, sym, ◌∙◌, arith, true≢false, eqb-true}
use Rattle.std.specs.List.{list_any}
use Rattle.saw_messages.specs.declared.outcome.Outcome.TheVariants.{Ok, Invalid}
use Rattle.saw_machine.specs.Machine.{Closed, Held, Running, Slot, Waiting, closed_in, is_closed}
use Rattle.saw_machine.specs.Orders.{Order}
use Rattle.saw_machine.specs.Serial.{names_failed}
use Rattle.saw_machine.proofs.Closure.{any-found, any-here}
use Rattle.saw_ready.specs.Edges.{AreEarlier, AreEdges, finish, target}
use Rattle.saw_ready.specs.declared.edges.Edges.{Edges}
use Rattle.saw_schedule.specs.Inside.{AreNamesOf}
use Rattle.saw_schedule.specs.Shows.{is_closed_mark, mark_of, targets_of}
use Rattle.saw_schedule.proofs.Marking.{at-edge}
use Rattle.saw_schedule.proofs.Meetings.{and-left, and-right, or-right}

pub marked-closed : (slot : Slot) → is_closed_mark (mark_of slot) ≡ is_closed slot
marked-closed Waiting = refl
marked-closed (Running n task) = refl
marked-closed (Held task (Ok changes events)) = refl
marked-closed (Held task (Invalid reason)) = refl
marked-closed Closed = refl

same-flags : (a b : Bool) → (a ≡ true → b ≡ true) → (b ≡ true → a ≡ true) → a ≡ b
same-flags true b f g = sym (f refl)
same-flags false true f g = g refl
same-flags false false f g = refl

-- some element passes the test
any-of : (test : ℕ → Bool) (xs : List ℕ) → list_any test xs ≡ true → (j : ℕ) × (list_any (λ x. x == j) xs ≡ true) × (test j ≡ true)
any-of test [] e = absurd (true≢false (sym e))
any-of test (x ∷ xs) e = go (test x) refl (any-of test xs)
  where
    go : (b : Bool) → test x ≡ b → (list_any test xs ≡ true → (j : ℕ) × (list_any (λ y. y == j) xs ≡ true) × (test j ≡ true)) → (j : ℕ) × (list_any (λ y. y == j) (x ∷ xs) ≡ true) × (test j ≡ true)
    go true is more = let same : (x == x) ≡ true = grind arith in (x, rw same refl, is)
    go false is more = let found = more (rw is at e) in (found.0, or-right (x == found.0) _ found.1, found.2)

of-any : (test : ℕ → Bool) (xs : List ℕ) (j : ℕ) → list_any (λ x. x == j) xs ≡ true → test j ≡ true → list_any test xs ≡ true
of-any test [] j e t = absurd (true≢false (sym e))
of-any test (x ∷ xs) j e t = go (x == j) refl (λ more. of-any test xs j more t)
  where
    go : (b : Bool) → (x == j) ≡ b → (list_any (λ y. y == j) xs ≡ true → list_any test xs ≡ true) → list_any test (x ∷ xs) ≡ true
    go true is more = let same : x ≡ j = eqb-true x j is in rw (same, t) refl
    go false is more = or-right (test x) _ (more (rw is at e))

module _ (order : Order) (slots : ℕ → Slot) (named : Edges) (marks : ℕ → Bool) (count k : ℕ) (inside : k < count) (edges : AreEdges named count) (earlier : AreEarlier named count) (names : AreNamesOf order named)
    (marked : (j : ℕ) → j < k → marks j ≡ is_closed (slots j)) where
  pub failed-is : list_any marks (targets_of named k) ≡ names_failed order (closed_in slots) k
  failed-is = same-flags (list_any marks (targets_of named k)) (names_failed order (closed_in slots) k) to from
    where
      within : finish named k ≤ length named.to.items
      within = edges.within k inside

      to : list_any marks (targets_of named k) ≡ true → names_failed order (closed_in slots) k ≡ true
      to e =
          let found = any-of marks (targets_of named k) e in
          let at = at-edge named k within found.0 found.1 in
          let less_at : target named at.0 < k = earlier k at.0 inside at.1 in
          let less : found.0 < k = rw at.2 at less_at in
          any-here k found.0 (λ j. order.names k j && is_closed (slots j)) less
          (rw (sym (names k found.0 less) ∙ found.1, sym (marked found.0 less) ∙ found.2) refl)

      from : names_failed order (closed_in slots) k ≡ true → list_any marks (targets_of named k) ≡ true
      from e =
          let found = any-found k (λ j. order.names k j && is_closed (slots j)) e in
          let less : found.0 < k = found.1 in
          of-any marks (targets_of named k) found.0 (names k found.0 less ∙ and-left (order.names k found.0) _ found.2) (marked found.0 less ∙ and-right (order.names k found.0) _ found.2)
