use Rattle.std.proofs.Common.{refl}
use Rattle.saw_top.proofs.Prefixes.{decoded, text_or}
use Rattle.saw_top.proofs.options.state_by.Goals as goal

pub returns : goal.returns
returns g c =
    let fine = c.in_ok-prefix.ensures.valid.0 refl in
    let bytes = decoded c.in_ok-prefix.prefix c.unwrap_or.result.now c.in_ok-prefix.ensures.value fine in
    rw (
      ← c.in_ok-workers.ensures,
      ← c.of.ensures,
      ← c.of-2.ensures,
      text_or c.of.result _ c.unwrap_or.result c.unwrap_or.ensures refl,
      fine,
      bytes,
    ) refl
