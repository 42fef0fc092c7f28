use Rattle.std.proofs.Common.{◌≡◌, ◌*◌, drop, nat_eq}
use Rattle.std.specs.List.{starts_with}
use Rattle.hex.specs.Hex.{encode_lower}
use Rattle.saw_address.proofs.text.begins_with.Given as goal

-- what is left decides
abbrev pub invariant-loop-i : goal.invariant-loop-i
invariant-loop-i l =
    starts_with nat_eq (encode_lower (drop l.i l.bytes)) (drop (2 * l.i) l.text) ≡ starts_with nat_eq (encode_lower l.bytes) l.text
