use Rattle.std.proofs.Common.{◌≡◌, drop}
use Rattle.saw_identity.specs.Permissions.{denied_from}
use Rattle.saw_identity.proofs.ruling.denied_by.Given as goal

abbrev pub invariant-loop-place : goal.invariant-loop-place
invariant-loop-place l = denied_from l.ruling.role l.signer l.place (drop l.place l.entries) ≡ denied_from l.ruling.role l.signer 0 l.entries
