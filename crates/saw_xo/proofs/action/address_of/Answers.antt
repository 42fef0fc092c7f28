use Rattle.std.proofs.Common.{◌∷◌, ◌∙◌, take, ap}
use Rattle.sha2.specs.Sha512.{sha512}
use Rattle.saw_xo.specs.Actions.{address_of}
use Rattle.saw_xo.proofs.action.address_of.Goals as goal

pub returns : goal.returns
unfolding address_of
returns c =
    c.under.ensures ∙ ap (λ tail. 0x5b ∷ 0x73 ∷ 0x49 ∷ tail)
    (c.split_at.ensures.front ∙ ap (take 32) (c.digest-digest.ensures ∙ ap sha512 c.as_bytes.ensures.value))
