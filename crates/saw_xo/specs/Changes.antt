-- What each act makes of the games, and how they are kept then.
use Rattle.std.specs.Prelude.{ℕ, List, [], ◌∷◌, Result, ◌==◌, if◌then◌else◌}
use Rattle.std.specs.FinMap as finite
use Rattle.saw_messages.specs.declared.talk.Action.{Action}
use Rattle.saw_messages.specs.declared.talk.Action.TheVariants as actions
use Rattle.saw_messages.specs.declared.talk.Place.TheVariants.{At}
use Rattle.saw_xo.specs.Games.{Games, kept_bytes}
use Rattle.saw_xo.specs.Moves.{changed_by}
use Rattle.saw_xo.specs.declared.payload.Act.TheVariants.{Create, Take, Delete}

-- a game that is created
abbrev pub created : Games → List ℕ → Result Games ℕ
created games name = changed_by [] games name Create (finite.get games name)

-- a space that is taken by a signer
abbrev pub with_taken : List ℕ → ℕ → Games → List ℕ → Result Games ℕ
with_taken signer place games name = changed_by signer games name (Take place) (finite.get games name)

-- a game that is deleted
abbrev pub deleted : Games → List ℕ → Result Games ℕ
deleted games name = changed_by [] games name Delete (finite.get games name)

-- the address is set to the games, or deleted where none is left
abbrev pub set_or_delete : List ℕ → Games → Action
set_or_delete address games =
    if finite.len games == 0 then actions.Delete (At address ∷ [])
    else actions.Set (record { place = At address; body = kept_bytes games } ∷ [])
