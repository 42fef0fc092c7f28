use Rattle.std.proofs.Common.{ℕ, List, [], ◌∷◌, arith}
use Rattle.saw_address.proofs.Parts.{written_behind}
use Rattle.saw_settings.proofs.key.joined.Goals as goal

zeros : List ℕ
zeros = 0 ∷ 0 ∷ 0 ∷ 0 ∷ 0 ∷ 0 ∷ 0 ∷ 0 ∷ 0 ∷ 0 ∷ 0 ∷ 0 ∷ 0 ∷ 0 ∷ 0 ∷ 0 ∷ []

pub returns : goal.returns
unfolding zeros
returns c =
    rw (c.copy_from_slice.ensures.after, c.copy_from_slice-2.ensures.after)
    (written_behind c.args.front.now c.args.back.now zeros 16 16 c.told-front (omega arith))
