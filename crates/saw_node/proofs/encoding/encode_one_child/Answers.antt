use Rattle.std.proofs.Common.{◌≡◌, ℕ, List, [], ◌∷◌, ◌++◌, ◌∙◌, ap, sym, length, replicate, arith, None}
use Rattle.std.proofs.lemmas.List.{append-nil}
use Rattle.hex.specs.Hex.{encode_lower, encode_with}
use Rattle.saw_address.proofs.Parts.{written_behind}
use Rattle.saw_cbor.specs.Writing.{head}
use Rattle.saw_node.specs.Nodes.{encoding_of}
use Rattle.saw_node.proofs.encoding.encode_one_child.Goals as goal

in_parts : (byte : ℕ) (hash : List ℕ)
    → (0xa2 ∷ 0x61 ∷ 0x63 ∷ 0xa1 ∷ 0x62 ∷ encode_lower (byte ∷ []) ++ 0x78 ∷ 0x40 ∷ []) ++ (encode_lower hash ++ 0x61 ∷ 0x76 ∷ 0xf6 ∷ [])
    ≡ encoding_of record { value = None; children = (byte, hash) ∷ [] }
unfolding head encode_with
in_parts byte hash = ap (λ digits. (0xa2 ∷ 0x61 ∷ 0x63 ∷ 0xa1 ∷ 0x62 ∷ encode_lower (byte ∷ []) ++ 0x78 ∷ 0x40 ∷ []) ++ (digits ++ 0x61 ∷ 0x76 ∷ 0xf6 ∷ []))
    (sym (append-nil (encode_lower hash)))

pub returns : goal.returns
returns c =
    let first = c.copy_from_slice.ensures.after in
    let long = sym (ap length first) ∙ c.copy_from_slice.ensures.len in
    rw (first, c.copy_from_slice-2.ensures.after)
    (written_behind c.front_of.result c.back_of.result (replicate 67 0) 9 67 long (omega arith)
    ∙ (λ i. c.front_of.ensures i ++ c.back_of.ensures i) ∙ in_parts c.args.child.now.byte c.args.child.now.hash)
