use Rattle.std.proofs.Common.{[], ◌∷◌, ◌∙◌, ◌++◌, ap, sym, length, arith}
use Rattle.saw_address.proofs.Parts.{written_behind}
use Rattle.saw_node.proofs.encoding.back_of.Goals as goal

pub returns : goal.returns
returns c =
    let first = c.copy_from_slice.ensures.after in
    let long = sym (ap length first) ∙ c.copy_from_slice.ensures.len in
    rw (first, c.copy_from_slice-2.ensures.after)
    (written_behind c.to_hex.result (0x61 ∷ 0x76 ∷ 0xf6 ∷ []) (0 ∷ 0 ∷ 0 ∷ []) 64 3 long (omega arith)
    ∙ ap (λ digits. digits ++ 0x61 ∷ 0x76 ∷ 0xf6 ∷ []) c.to_hex.ensures)
