use Rattle.std.proofs.Common.{◌+◌, ◌≤◌, length, map, refl, ◌∙◌, sym, ap, subst, arith}
use Rattle.saw_verify.specs.Lists.{lines_of}
use Rattle.saw_verify.specs.Held.{HoldsLines}
use Rattle.saw_verify.proofs.Places.{bad_within_bytes}
use Rattle.saw_verify.proofs.Listed.{attests_by}
use Rattle.saw_verify.proofs.attest.AttestVerifier.read.Goals as goal

within : (c : goal.In-Some) → c.in-Some.index + 1 ≤ length c.args.bytes.now
within c = bad_within_bytes c.args.bytes.now (lines_of c.args.bytes.now) c.in-Some.index refl (sym c.in-Some.ensures)

pub overflow_cast-line : goal.overflow_cast-line
overflow_cast-line c = omega (arith, within c, c.requires)

pub overflow_add-line : goal.overflow_add-line
overflow_add-line c = omega (arith, within c, c.requires)

pub returns-clause-accepts : goal.returns-clause-accepts
returns-clause-accepts c =
    attests_by c.args.bytes.now (lines_of c.args.bytes.now) c.in_ok-held.held refl (sym c.in_default.ensures)
    (subst (HoldsLines c.in_ok-held.held) (ap (map (λ line. line.now)) c.deref.ensures.value ∙ c.in_ok-lines.ensures) c.in_ok-held.ensures)
