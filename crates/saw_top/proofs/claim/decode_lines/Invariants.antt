use Rattle.std.proofs.Common.{◌≡◌, take, map}
use Rattle.hex.specs.Hex.{decode_of}
use Rattle.saw_top.specs.Claims.{node_in}
use Rattle.saw_top.proofs.claim.decode_lines.Given as goal

abbrev pub invariant-loop-line : goal.invariant-loop-line
invariant-loop-line l = l.nodes ≡ map (λ line. node_in (decode_of line.now)) (take l.line-index l.lines)
