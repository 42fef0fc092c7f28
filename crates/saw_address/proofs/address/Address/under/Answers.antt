use Rattle.std.proofs.Common.{ℕ, List, [], ◌∷◌, ◌∙◌, ap, sym, length, arith}
use Rattle.saw_address.proofs.Parts.{written_behind}
use Rattle.saw_address.proofs.address.Address.under.Goals as goal

zeros : List ℕ
zeros = 0 ∷ 0 ∷ 0 ∷ 0 ∷ 0 ∷ 0 ∷ 0 ∷ 0 ∷ 0 ∷ 0 ∷ 0 ∷ 0 ∷ 0 ∷ 0 ∷ 0 ∷ 0 ∷ 0 ∷ 0 ∷ 0 ∷ 0 ∷ 0 ∷ 0 ∷ 0 ∷ 0 ∷ 0 ∷ 0 ∷ 0 ∷ 0 ∷ 0 ∷ 0 ∷ 0 ∷ 0 ∷ []

pub returns : goal.returns
unfolding zeros
returns c =
    let first = c.copy_from_slice.ensures.after in
    let long = sym (ap length first) ∙ c.copy_from_slice.ensures.len in
    c.new.ensures ∙ rw (first, c.copy_from_slice-2.ensures.after) (written_behind c.args.family c.args.tail.now zeros 3 32 long (omega arith))
