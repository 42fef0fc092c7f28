-- Which blocks are accepted.
use Rattle.std.specs.Prelude.{Bool, true, false}
use Rattle.saw_receipts.specs.declared.verdict.Verdict.{Verdict}
use Rattle.saw_receipts.specs.declared.verdict.Verdict.TheVariants.{Refused}

-- whether a verdict accepts its block
abbrev pub is_accepted : Verdict → Bool
is_accepted (Refused fault) = false
is_accepted _ = true
