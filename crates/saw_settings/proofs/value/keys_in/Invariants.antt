use Rattle.std.proofs.Common.{◌≡◌, map}
use Rattle.std.specs.Prelude.{filter, not, length, ◌==◌}
use Rattle.saw_settings.specs.Values.{trimmed}
use Rattle.saw_settings.proofs.value.keys_in.Given as goal

abbrev pub invariant-loop-part : goal.invariant-loop-part
invariant-loop-part l = l.keys ≡ filter (λ key. not (length key == 0)) (map trimmed (map (λ part. part.now) l.yielded))
