use Rattle.std.proofs.Common.{◌∙◌}
use Rattle.saw_verify.proofs.LineSets.{contains_by-has_line}
use Rattle.saw_verify.proofs.attest.AttestVerifier.holds.Goals as goal

pub returns : goal.returns
returns c = c.contains.ensures ∙ contains_by-has_line c.args.self.now.lines c.args.line.now
