use Rattle.std.proofs.Common.{◌≡◌, ◌*◌, ◌++◌, take, drop}
use Rattle.std.specs.List.{list_all}
use Rattle.hex.specs.Hex.{encode_lower}
use Rattle.saw_address.specs.Texts.{is_hex_digit}
use Rattle.saw_address.proofs.text.read_digits.Given as goal

-- what was read is written as the digits so far, and the others decide
abbrev pub invariant-loop-i : goal.invariant-loop-i
invariant-loop-i l =
    record {
      spelled : encode_lower (take l.i l.out) ++ drop (2 * l.i) l.text ≡ l.text;
      decided : list_all is_hex_digit (drop (2 * l.i) l.text) ≡ list_all is_hex_digit l.text;
    }
