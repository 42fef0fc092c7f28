-- A function that says again what was said.
use Rattle.std.proofs.Common.{◌≡◌, true, List, [], ◌∷◌, ◌++◌, refl, ap, ◌∙◌}
use Rattle.std.specs.List.{AllByRecursion}
use Rattle.saw_messages.specs.Reasons.{has_own_reason}
use Rattle.saw_messages.specs.declared.talk.Action.{Action}
use Rattle.saw_messages.specs.declared.talk.Turn.{Turn}
use Rattle.saw_station.specs.Spoken.{IsSpokenBy}

-- the action of the turn behind as many turns, and the last action behind them all
abbrev pub replay : List Turn → Action → List Turn → Action
replay [] last turns = last
replay (turn ∷ said) last [] = turn.action
replay (turn ∷ said) last (first ∷ turns) = replay said last turns

replay_at : (front back : List Turn) (turn : Turn) (last : Action) → replay (front ++ turn ∷ back) last front ≡ turn.action
replay_at [] back turn last = refl
replay_at (first ∷ front) back turn last = replay_at front back turn last

-- it gives the actions of the turns
pub replay_gives : (said : List Turn) (last : Action) → IsSpokenBy (replay said last) said
replay_gives said last front back turn e = ap (λ (all : List Turn). replay all last front) e ∙ replay_at front back turn last

-- and the last action after them
pub replay_last : (said : List Turn) (last : Action) → replay said last said ≡ last
replay_last [] last = refl
replay_last (turn ∷ said) last = replay_last said last

-- by the reasons that were said
pub replay_own : (said : List Turn) (last : Action) (turns : List Turn) → AllByRecursion (λ turn. has_own_reason turn.action ≡ true) said
    → has_own_reason last ≡ true → has_own_reason (replay said last turns) ≡ true
replay_own [] last turns all own = own
replay_own (turn ∷ said) last [] all own = all.0
replay_own (turn ∷ said) last (first ∷ turns) all own = replay_own said last turns all.1 own
