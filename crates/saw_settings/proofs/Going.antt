-- What follows what was told at a place.
use Rattle.std.proofs.Common.{◌≡◌, List, Result, subst}
use Rattle.std.specs.Prelude.{IfOk}
use Rattle.saw_messages.specs.declared.talk.Action.{Action}
use Rattle.saw_messages.specs.declared.talk.Reply.{Reply}
use Rattle.saw_settings.specs.Requests.{Told, Goes, then_do}

-- an action that follows is the next one
pub goes : {A E : Type 0} (r : Result Action E) (told : Told A) (value : A) (rest : List Reply) (go : A → List Reply → Action)
    → Goes value rest ≡ told → IfOk r (λ action. action ≡ go value rest)
    → IfOk r (λ action. action ≡ then_do told go)
goes r told value rest go is gives = subst (λ t. IfOk r (λ action. action ≡ then_do t go)) is gives
