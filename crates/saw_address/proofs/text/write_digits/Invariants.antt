use Rattle.std.proofs.Common.{◌≡◌, ◌*◌, ◌++◌, take, drop}
use Rattle.hex.specs.Hex.{encode_lower}
use Rattle.saw_address.proofs.text.write_digits.Given as goal

-- the digits so far and those of what is left are those of all
abbrev pub invariant-loop-i : goal.invariant-loop-i
invariant-loop-i l = take (2 * l.i) l.out ++ encode_lower (drop l.i l.bytes) ≡ encode_lower l.bytes
