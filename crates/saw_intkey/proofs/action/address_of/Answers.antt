use Rattle.std.proofs.Common.{◌≡◌, ◌≤◌, ◌∷◌, ◌∙◌, length, take, drop, ap, arith}
use Rattle.std.proofs.lemmas.List.{length-drop, take_all}
use Rattle.sha2.specs.Sha512.{sha512}
use Rattle.sha2.proofs.Facts512.{length-sha512}
use Rattle.saw_intkey.specs.Actions.{address_of}
use Rattle.saw_intkey.proofs.action.address_of.Goals as goal

pub returns : goal.returns
unfolding address_of
returns c =
    let digest = sha512 c.args.name.now in
    let is : c.digest.result ≡ digest = c.digest.ensures ∙ ap sha512 c.as_bytes.ensures.value in
    let long : length (drop 32 digest) ≤ 32 = omega (arith, length-drop 32 digest, length-sha512 c.args.name.now) in
    c.under.ensures ∙ ap (λ d. 0x1c ∷ 0xf1 ∷ 0x26 ∷ take 32 (drop 32 d)) is
    ∙ ap (λ tail. 0x1c ∷ 0xf1 ∷ 0x26 ∷ tail) (take_all 32 (drop 32 digest) long)
