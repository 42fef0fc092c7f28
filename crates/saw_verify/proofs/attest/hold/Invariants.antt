use Rattle.std.proofs.Common.{map, take}
use Rattle.saw_verify.specs.Held.{HoldsLines}
use Rattle.saw_verify.proofs.attest.hold.Given as goal

abbrev pub invariant-loop-line : goal.invariant-loop-line
invariant-loop-line l = HoldsLines l.held (map (λ line. line.now) (take l.line-index l.lines))
