use Rattle.std.proofs.Common.{◌∷◌, [], arith}
use Rattle.saw_address.proofs.Parts.{written_behind}
use Rattle.saw_settings.proofs.key.pair.Goals as goal

pub returns : goal.returns
returns c =
    let first = c.copy_from_slice.ensures.after in
    rw (first, c.copy_from_slice-2.ensures.after) (written_behind c.args.first.now c.args.second.now
    (0 ∷ 0 ∷ 0 ∷ 0 ∷ 0 ∷ 0 ∷ 0 ∷ 0 ∷ []) 8 8 c.told-first (omega arith))
