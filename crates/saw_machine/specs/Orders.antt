-- Transactions by number: what each may read, which of them come before which, and what changes leave.
use Rattle.std.specs.Prelude.{◌≡◌, ◌<◌, ℕ, zero, suc, Bool, true, false, ◌&&◌, ◌||◌, ◌==◌, if◌then◌else◌, List, [], ◌∷◌, Option, Some, None}
use Rattle.std.specs.Option.{option_or}
use Rattle.std.specs.Str.{bytes_eq}
use Rattle.saw_messages.specs.declared.outcome.Change.{Change}
use Rattle.saw_messages.specs.declared.outcome.Outcome.{Outcome}
use Rattle.saw_messages.specs.declared.outcome.Outcome.TheVariants.{Ok, Invalid}

-- what a map has at each address
abbrev pub Map : Type 0
Map = List ℕ → Option (List ℕ)

-- the last change that a list makes at an address
abbrev pub change_at : List Change → List ℕ → Option (Option (List ℕ))
change_at [] at = None
change_at (change ∷ changes) at = option_or (change_at changes at) (if bytes_eq change.address at then Some change.value else None)

-- the change where there is one, else what was there
abbrev pub changed : Option (Option (List ℕ)) → Option (List ℕ) → Option (List ℕ)
changed None old = old
changed (Some value) old = value

-- the map after changes, one after another
abbrev pub after : Map → List Change → Map
after m changes at = changed (change_at changes at) (m at)

-- the change that an outcome makes at an address
abbrev pub made_by : Outcome → List ℕ → Option (Option (List ℕ))
made_by (Ok changes events) at = change_at changes at
made_by (Invalid reason) at = None

-- some number below n passes the test
abbrev pub any_below : ℕ → (ℕ → Bool) → Bool
any_below zero test = false
any_below (suc n) test = test n || any_below n test

-- how transactions stand to one another
pub record Order : Type 0 where
  pub reads : ℕ → List ℕ → Bool  -- an input of transaction i covers the address
  pub writes : ℕ → List ℕ → Bool  -- an output of it does
  pub precedes : ℕ → ℕ → Bool  -- j, which comes before i, precedes it
  pub names : ℕ → ℕ → Bool  -- i names j as a dependency

-- j precedes i where it comes before it and they meet: one writes what the other reads or writes, or i names j
pub record AreMeetings (order : Order) : Type 0 where
  pub named : (j i : ℕ) → j < i → order.names i j ≡ true → order.precedes j i ≡ true
  pub written : (j i : ℕ) (at : List ℕ) → j < i → order.writes j at ≡ true → order.reads i at ≡ true → order.precedes j i ≡ true
  pub read : (j i : ℕ) (at : List ℕ) → j < i → order.reads j at ≡ true → order.writes i at ≡ true → order.precedes j i ≡ true
  pub rewritten : (j i : ℕ) (at : List ℕ) → j < i → order.writes j at ≡ true → order.writes i at ≡ true → order.precedes j i ≡ true

-- each address that an outcome of i changes is covered by an output of i
abbrev pub IsDeclared : Order → ℕ → Outcome → Type 0
IsDeclared order i outcome = (at : List ℕ) (value : Option (List ℕ)) → made_by outcome at ≡ Some value → order.writes i at ≡ true

-- ---- standing on another

-- the closure of a precedence, among the numbers below n
abbrev pub stands_below : (ℕ → ℕ → Bool) → ℕ → ℕ → ℕ → Bool
stands_below precedes zero i j = false
stands_below precedes (suc n) i j =
    if i == n then any_below n (λ k. precedes k n && (k == j || stands_below precedes n k j)) else stands_below precedes n i j

-- i stands on j: j precedes it, or precedes what it stands on
abbrev pub stands : (ℕ → ℕ → Bool) → ℕ → ℕ → Bool
stands precedes i j = stands_below precedes (suc i) i j

-- edges that are pairs of a precedence, and of which each of its pairs follows
pub record AreEdgesOf (precedes edges : ℕ → ℕ → Bool) : Type 0 where
  pub pairs : (j i : ℕ) → j < i → edges j i ≡ true → precedes j i ≡ true
  pub whole : (j i : ℕ) → j < i → precedes j i ≡ true → stands edges i j ≡ true
